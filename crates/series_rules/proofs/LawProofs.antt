-- The proofs of the laws.
use Rattle.std.proofs.Common.{◌≡◌, ◌+◌, ◌-◌, ◌≤◌, ℕ, zero, suc, List, ◌∷◌, ◌++◌, Option, Some, None, length, refl, ap, ◌∙◌, arith, ◌||◌}
use Rattle.std.specs.Prelude.{option_map, is_some}
use Rattle.std.specs.FinMap as map
use Rattle.std.specs.Option.{option_or}
use Rattle.onix_terms.specs.declared.party.Party.{Party}
use Rattle.onix_records.specs.Message.{message_of, bad_row}
use Rattle.onix_records.specs.declared.parts.Header.{Header}
use Rattle.onix_records.specs.declared.parts.Product.{Product}
use Rattle.onix_records.specs.declared.agreements.Agreement.{Agreement}
use Rattle.series_rules.specs.Agreements.{agreements_of, named, between}
use Rattle.series_rules.specs.Firsts.{first_at, put_at, admitted, admitted_at, admitted_number, admitted_message}
use Rattle.series_rules.specs.Series.{in_front_of, without_gap, front_of, kept_of, after_all, catalogue_of}
use Rattle.series_rules.specs.Gaps.{gaps_of}
use Rattle.series_rules.specs.Content.{SameContent}
use Rattle.price_rules.specs.declared.precedence.Rule.{Rule}
use Rattle.series_rules.specs.PriceAnswers.{calendar_answer, chosen_by, prices_of}
use Rattle.series_rules.specs.Laws.{NextIsLeast, FrontIsExact, ByContentAlone, FrontOnlyGrows}
use Rattle.series_rules.specs.Answers.{answer_to, delivery_answer_at, message_answer_by, delivery_answer_by, waive_answer_at, gaps_or_unknown, catalogue_or_unknown, agree_answer_by}
use Rattle.series_rules.specs.declared.answers.Answer.TheVariants as answer
use Rattle.series_rules.specs.declared.requests.Request.{Request}
use Rattle.series_rules.specs.declared.requests.Request.TheVariants.{Agree, Deliver, Waive, AskPrice, AskChoice, AskCalendar, AskGaps, AskCatalogue, Malformed}
use Rattle.series_rules.specs.declared.requests.Standing.{Standing}
use Rattle.series_rules.specs.declared.requests.Standing.TheVariants.{Message, Waived}
use Rattle.series_rules.proofs.AgreementLemmas.{agreements_are_distinct, between_by_name, named_stays, named_with}
use Rattle.series_rules.proofs.GapLemmas.{report_same}
use Rattle.series_rules.proofs.OfferLemmas.{same_offers}
use Rattle.series_rules.proofs.FirstLemmas.{first_again}
use Rattle.series_rules.proofs.FrontLemmas.{front_is, front_next, front_same, front_unique, kept_front}

-- the next number

pub next_is_least : NextIsLeast
next_is_least L a = front_next (first_at L a.name) a.first (front_of L a) (front_is L a.name a.first)

-- the front

pub front_is_exact : FrontIsExact
front_is_exact = record {
  is_front = λ L a. front_is L a.name a.first;
  unique = λ L a hs is. front_unique (first_at L a.name) a.first hs (front_of L a) is (front_is L a.name a.first);
}

-- it only grows

grows_onto : (g : ℕ → Option Standing) (n : ℕ) (rest rest' : List Standing) → ((more : List Standing) × (rest' ≡ rest ++ more)) → (o : Option Standing) → ((h : Standing) → o ≡ Some h → g n ≡ Some h) → (more : List Standing) × (in_front_of (g n) rest' ≡ in_front_of o rest ++ more)
grows_onto g n rest rest' ih None ext = (in_front_of (g n) rest', refl)
grows_onto g n rest rest' ih (Some h) ext = (ih.0, ap (λ o. in_front_of o rest') (ext h refl) ∙ ap (λ hs. h ∷ hs) ih.1)

without_gap_grows : (most most' : ℕ) (f g : ℕ → Option Standing) → most ≤ most' → ((n : ℕ) (h : Standing) → f n ≡ Some h → g n ≡ Some h) → (n : ℕ) → (more : List Standing) × (without_gap most' g n ≡ without_gap most f n ++ more)
without_gap_grows zero most' f g le ext n = (without_gap most' g n, refl)
without_gap_grows (suc most) zero f g le ext n = absurd (omega arith)
without_gap_grows (suc most) (suc most') f g le ext n =
    grows_onto g n (without_gap most f (n + 1)) (without_gap most' g (n + 1)) (without_gap_grows most most' f g (omega arith) ext (n + 1)) (f n) (ext n)

pub front_only_grows : FrontOnlyGrows
front_only_grows L r s a e =
    let grown = without_gap_grows (length L) (length (r ∷ L)) (first_at L a.name) (first_at (r ∷ L) a.name) (omega arith) (first_again L r a.name) a.first in (
      named_stays L r s a e,
      grown,
      λ n le lt. ap (λ hs. kept_of hs (n - a.first)) grown.1 ∙ kept_front (front_of L a) grown.0 (n - a.first) (omega arith),
    )

-- by content alone

parties_same : (L M : List Request) → SameContent L M → (s : Party) (d : Option Party) → between (agreements_of L) s d ≡ between (agreements_of M) s d
parties_same L M same = between_by_name (agreements_of L) (agreements_of M) (agreements_are_distinct L) (agreements_are_distinct M) same.agreements

agreements_more : (L M : List Request) (r : Request) → SameContent L M → (name : List ℕ) → named (agreements_of (r ∷ L)) name ≡ named (agreements_of (r ∷ M)) name
agreements_more L M (Agree b) same =
    named_with (agreements_of L) (agreements_of M) b
    (ap (λ o. is_some o || is_some (between (agreements_of L) b.sender b.addressee)) (same.agreements b.name)
    ∙ ap (λ o. is_some (named (agreements_of M) b.name) || is_some o) (parties_same L M same b.sender b.addressee))
    same.agreements
agreements_more L M _ same = same.agreements

message_admitted : (L M : List Request) → SameContent L M → (m : Option (Header × List Product)) → admitted_message (agreements_of L) m ≡ admitted_message (agreements_of M) m
message_admitted L M same None = refl
message_admitted L M same (Some m) = ap (λ o. admitted_number o m.0.number (Message m.1)) (parties_same L M same m.0.sender m.0.addressee)

pub admitted_same : (L M : List Request) → SameContent L M → (r : Request) → admitted (agreements_of L) r ≡ admitted (agreements_of M) r
admitted_same L M same (Deliver records) = message_admitted L M same (message_of records)
admitted_same L M same (Waive s n) = ap (λ o. admitted_at o n Waived) (same.agreements s)
admitted_same L M same _ = refl

content_more : (L M : List Request) (r : Request) → SameContent L M → SameContent (r ∷ L) (r ∷ M)
content_more L M r same = record {
  agreements = agreements_more L M r same;
  firsts = λ s n. ap (λ o. option_or o (put_at (admitted (agreements_of L) r) s n)) (same.firsts s n) ∙ ap (λ p. option_or (first_at M s n) (put_at p s n)) (admitted_same L M same r);
}

at_same : (L M : List Request) → SameContent L M → (n : ℕ) (c : List Product) (o : Option Agreement) → delivery_answer_at L n c o ≡ delivery_answer_at M n c o
at_same L M same n c None = refl
at_same L M same n c (Some a) = rw (front_same L M a same, same.firsts a.name n) refl

-- L and M are the lists with the delivery, and as' and bs the agreements before it
numbered_same : (L M : List Request) → SameContent L M → (as' bs : List Agreement) → ((s : Party) (d : Option Party) → between as' s d ≡ between bs s d) → (h : Header) (c : List Product) (n : Option ℕ) → message_answer_by L as' h c n ≡ message_answer_by M bs h c n
numbered_same L M same as' bs parties h c None = refl
numbered_same L M same as' bs parties h c (Some n) = at_same L M same n c (between as' h.sender h.addressee) ∙ ap (delivery_answer_at M n c) (parties h.sender h.addressee)

message_same : (L M : List Request) → SameContent L M → (as' bs : List Agreement) → ((s : Party) (d : Option Party) → between as' s d ≡ between bs s d) → (row : ℕ) (m : Option (Header × List Product)) → delivery_answer_by L as' row m ≡ delivery_answer_by M bs row m
message_same L M same as' bs parties row None = refl
message_same L M same as' bs parties row (Some m) = numbered_same L M same as' bs parties m.0 m.1 m.0.number

waive_same : (L M : List Request) → SameContent L M → (n : ℕ) (o : Option Agreement) → waive_answer_at L n o ≡ waive_answer_at M n o
waive_same L M same n None = refl
waive_same L M same n (Some a) = rw (same.firsts a.name n) refl

catalogue_same : (L M : List Request) → SameContent L M → (s : List ℕ) (o : Option Agreement) → catalogue_or_unknown s (option_map (catalogue_of L) o) ≡ catalogue_or_unknown s (option_map (catalogue_of M) o)
catalogue_same L M same s None = refl
catalogue_same L M same s (Some a) = ap (λ hs. answer.Catalogue s (after_all map.empty hs)) (front_same L M a same)

gaps_same : (L M : List Request) → SameContent L M → (o : Option Agreement) → gaps_or_unknown (option_map (gaps_of L) o) ≡ gaps_or_unknown (option_map (gaps_of M) o)
gaps_same L M same None = refl
gaps_same L M same (Some a) = ap (λ report. gaps_or_unknown (Some report)) (report_same L M same a)

answer_same : (rules : List Rule) (L M : List Request) (r : Request) → SameContent L M → answer_to rules L r ≡ answer_to rules M r
answer_same rules L M (Agree b) same =
    ap (λ o. answer.Agreement b.name b.first (agree_answer_by b o (between (agreements_of L) b.sender b.addressee))) (same.agreements b.name)
    ∙ ap (λ o. answer.Agreement b.name b.first (agree_answer_by b (named (agreements_of M) b.name) o)) (parties_same L M same b.sender b.addressee)
answer_same rules L M (Deliver records) same =
    ap answer.Delivery (message_same (Deliver records ∷ L) (Deliver records ∷ M) (content_more L M (Deliver records) same) (agreements_of L) (agreements_of M) (parties_same L M same) (bad_row records) (message_of records))
answer_same rules L M (Waive s n) same =
    ap (answer.Waiver s n) (waive_same (Waive s n ∷ L) (Waive s n ∷ M) (content_more L M (Waive s n) same) n (named (agreements_of L) s)
    ∙ ap (waive_answer_at (Waive s n ∷ M) n) (same.agreements s))
answer_same rules L M (AskPrice isbn q) same = ap (λ offers. answer.Price isbn (prices_of q offers)) (same_offers L M same isbn)
answer_same rules L M (AskChoice isbn q) same = ap (λ offers. answer.Choice isbn (chosen_by rules q offers)) (same_offers L M same isbn)
answer_same rules L M (AskCalendar isbn q) same = ap (calendar_answer isbn q) (same_offers L M same isbn)
answer_same rules L M (AskGaps s) same = gaps_same L M same (named (agreements_of L) s) ∙ ap (λ o. gaps_or_unknown (option_map (gaps_of M) o)) (same.agreements s)
answer_same rules L M (AskCatalogue s) same = catalogue_same L M same s (named (agreements_of L) s) ∙ ap (λ o. catalogue_or_unknown s (option_map (catalogue_of M) o)) (same.agreements s)
answer_same rules L M (Malformed row) same = refl

pub by_content_alone : ByContentAlone
by_content_alone rules L M r same = (answer_same rules L M r same, content_more L M r same)
