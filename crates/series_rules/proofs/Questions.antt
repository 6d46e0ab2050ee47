-- Requests that change nothing leave what the requests come to.
use Rattle.std.specs.Prelude.{is_none, not}
use Rattle.std.proofs.Common.{◌≡◌, ℕ, Bool, true, false, List, ◌∷◌, ◌++◌, [], Option, Some, None, refl, sym, ap, ◌∙◌, cond}
use Rattle.onix_records.specs.declared.agreements.Agreement.{Agreement}
use Rattle.series_rules.specs.Agreements.{agreements_of, clashes, named, with_agreement}
use Rattle.series_rules.specs.Changes.{changes, is_question, puts_something}
use Rattle.series_rules.specs.Content.{SameContent}
use Rattle.series_rules.proofs.FirstLemmas.{first_again, first_left, first_other}
use Rattle.series_rules.specs.Firsts.{Placement, admitted, first_at}
use Rattle.series_rules.specs.declared.requests.Request.{Request}
use Rattle.series_rules.specs.declared.requests.Request.TheVariants.{Agree, Deliver, Waive, AskPrice, AskChoice, AskCalendar, AskGaps, AskCatalogue, Malformed}
use Rattle.series_rules.specs.declared.requests.Standing.{Standing}

-- each request that adds no agreement and puts nothing at a number leaves all
pub content_left : (L : List Request) (r : Request) → agreements_of L ≡ agreements_of (r ∷ L) → None ≡ admitted (agreements_of L) r → SameContent L (r ∷ L)
content_left L r agreed nothing = record {
  agreements = λ name. ap (λ agreements. named agreements name) agreed;
  firsts = λ s n. sym (first_left L r (sym nothing) s n);
}

-- something stood where it puts something, so that all stays
stays : (L : List Request) (r : Request) (p : Placement) → admitted (agreements_of L) r ≡ Some p → (o : Option Standing) → first_at L p.series p.number ≡ o → is_none o ≡ false
    → (s : List ℕ) (n : ℕ) → (here : Option Standing) → first_at L s n ≡ here → first_at L s n ≡ first_at (r ∷ L) s n
stays L r p puts None stood kept s n here is = absurd cc
stays L r p puts (Some h) stood kept s n (Some g) is = is ∙ sym (first_again L r s n g is)
stays L r p puts (Some h) stood kept s n None is =
    sym (first_other L r p puts s n (λ same. let at : first_at L p.series p.number ≡ first_at L s n = rw (same.0, same.1) refl in absurd cc))

-- so does each request that adds no agreement and puts nothing new
puts_nothing : (L : List Request) (r : Request) → agreements_of L ≡ agreements_of (r ∷ L) → (o : Option Placement) → admitted (agreements_of L) r ≡ o → puts_something L o ≡ false → SameContent L (r ∷ L)
puts_nothing L r agreed None puts kept = content_left L r agreed (sym puts)
puts_nothing L r agreed (Some p) puts kept = record {
  agreements = λ name. rw (sym agreed) refl;
  firsts = λ s n. stays L r p puts (first_at L p.series p.number) refl kept s n (first_at L s n) refl;
}

clashing : (agreements : List Agreement) (a : Agreement) (b : Bool) → clashes agreements a ≡ b → not b ≡ false → agreements ≡ with_agreement agreements a
clashing agreements a true is kept = ap (λ b. cond b agreements (agreements ++ a ∷ [])) (sym is)
clashing agreements a false is kept = absurd cc

pub unchanged : (L : List Request) (r : Request) → changes L r ≡ false → SameContent L (r ∷ L)
unchanged L (Agree a) kept = content_left L (Agree a) (clashing (agreements_of L) a (clashes (agreements_of L) a) refl kept) refl
unchanged L (Deliver records) kept = puts_nothing L (Deliver records) refl (admitted (agreements_of L) (Deliver records)) refl kept
unchanged L (Waive series number) kept = puts_nothing L (Waive series number) refl (admitted (agreements_of L) (Waive series number)) refl kept
unchanged L (AskPrice isbn q) kept = content_left L (AskPrice isbn q) refl refl
unchanged L (AskChoice isbn q) kept = content_left L (AskChoice isbn q) refl refl
unchanged L (AskCalendar isbn q) kept = content_left L (AskCalendar isbn q) refl refl
unchanged L (AskGaps series) kept = content_left L (AskGaps series) refl refl
unchanged L (AskCatalogue series) kept = content_left L (AskCatalogue series) refl refl
unchanged L (Malformed row) kept = content_left L (Malformed row) refl refl

-- a question changes nothing
pub question_changes_nothing : (L : List Request) (r : Request) → is_question r ≡ true → changes L r ≡ false
question_changes_nothing L (Agree a) is = absurd cc
question_changes_nothing L (Deliver records) is = absurd cc
question_changes_nothing L (Waive series number) is = absurd cc
question_changes_nothing L (AskPrice isbn q) is = refl
question_changes_nothing L (AskChoice isbn q) is = refl
question_changes_nothing L (AskCalendar isbn q) is = refl
question_changes_nothing L (AskGaps series) is = refl
question_changes_nothing L (AskCatalogue series) is = refl
question_changes_nothing L (Malformed row) is = refl

pub question_left : (L : List Request) (r : Request) → is_question r ≡ true → SameContent L (r ∷ L)
question_left L r is = unchanged L r (question_changes_nothing L r is)
