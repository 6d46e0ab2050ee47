-- The fold that is kept of a series, step by step.
use Rattle.std.proofs.Common.{◌≡◌, ◌<◌, ◌≤◌, ◌+◌, ◌-◌, ℕ, Bool, true, false, List, [], ◌∷◌, ◌++◌, Option, Some, None, length, length-append, refl, sym, ap, ◌∙◌, subst, arith, cond, nat_eq, ◌&&◌, ◌⊎◌, inl, inr}
use Rattle.std.specs.Prelude.{slice_get, nat_lt}
use Rattle.std.specs.BTreeMap.{is_at}
use Rattle.std.specs.FinMap as map
use Rattle.std.specs.Ordering.{nat_cmp}
use Rattle.std.proofs.lemmas.Bool.{cases_lt}
use Rattle.std.proofs.lemmas.Bool.Decides.{nat_tests}
use Rattle.std.proofs.lemmas.List.{take-append-le}
use Rattle.std.proofs.lemmas.Option.{slice_get_within}
use Rattle.onix_terms.specs.Number.{number_from}
use Rattle.onix_records.specs.declared.effects.Effect.{Effect}
use Rattle.series_rules.specs.Answers.{placed_answer}
use Rattle.catalogue_rules.specs.ArticleIndex.{IsIndexOf}
use Rattle.desk_memory.specs.Folded.{IsFold, IsFolded}
use Rattle.desk_memory.specs.Listed.{IsListed}
use Rattle.desk_memory.specs.declared.articles.Articles.{Articles}
use Rattle.series_rules.specs.Series.{BeginsWith, IsFront, after_all, after_standing, effect_of_standing, kept_of}
use Rattle.series_rules.specs.declared.answers.DeliveryAnswer.TheVariants as delivery
use Rattle.desk_memory.specs.declared.fold.Fold.{Fold}
use Rattle.series_rules.specs.declared.requests.Standing.{Standing}
use Rattle.desk_memory.proofs.Folds.{after_all_last, kept_of_last, slice_get_last}
use Rattle.series_rules.proofs.FrontLemmas.{front_goes_on, front_unique, kept_front, slice_get_front, slice_get_none}

pub last_length : (hs : List Standing) (h : Standing) → length (hs ++ h ∷ []) ≡ length hs + 1
last_length hs h = length-append hs (h ∷ [])

-- what is listed of hs is listed of hs and one more
listed_still : (from : ℕ) (hs : List Standing) (h : Standing) (articles : Articles) → IsListed from hs articles → IsListed from (hs ++ h ∷ []) articles
listed_still from hs h articles is =
    let more = last_length hs h in
    let within = is.within in
    record {
      count = is.count;
      within = omega arith;
      next = is.next;
      index = subst (λ (gs : List Standing). IsIndexOf articles.index (after_all map.empty gs)) (sym (take-append-le is.count hs (h ∷ []) within)) is.index;
    }

-- a fold of hs becomes the fold of hs and one more
pub fold_more : (from : ℕ) (hs : List Standing) (h : Standing) (f g : Fold) → IsFold from hs f → g.next ≡ f.next + 1 → g.catalogue ≡ after_standing f.catalogue h → g.articles ≡ f.articles → g.effects.items ≡ f.effects.items ++ effect_of_standing f.catalogue h ∷ [] → IsFold from (hs ++ h ∷ []) g
fold_more from hs h f g is next catalogue articles effects = record {
  next = let more = last_length hs h in let was = is.next in omega arith;
  catalogue = catalogue ∙ ap (λ m. after_standing m h) is.catalogue ∙ sym (after_all_last map.empty hs h);
  counted = ap length effects ∙ length-append f.effects.items (effect_of_standing f.catalogue h ∷ []) ∙ ap (λ n. n + 1) is.counted ∙ sym (last_length hs h);
  counts = λ k lt. ap (λ es. slice_get es k) effects ∙ go k lt (cases_lt k (length hs));
  listed = subst (IsListed from (hs ++ h ∷ [])) (sym articles) (listed_still from hs h f.articles is.listed);
}
  where
    go : (k : ℕ) → k < length (hs ++ h ∷ []) → (k < length hs) ⊎ (length hs ≤ k) → slice_get (f.effects.items ++ effect_of_standing f.catalogue h ∷ []) k ≡ Some (kept_of (hs ++ h ∷ []) k)
    go k lt (inl before) =
        let counted = is.counted in
        slice_get_front f.effects.items (effect_of_standing f.catalogue h ∷ []) k (omega arith) ∙ is.counts k before ∙ ap Some (sym (kept_front hs (h ∷ []) k before))
    go k lt (inr past) =
        let more = last_length hs h in
        let counted = is.counted in
        let last : k ≡ length f.effects.items = omega arith in
        let place : k ≡ length hs = omega arith in
        ap (slice_get (f.effects.items ++ effect_of_standing f.catalogue h ∷ [])) last ∙ slice_get_last f.effects.items (effect_of_standing f.catalogue h)
        ∙ ap (λ m. Some (effect_of_standing m h)) is.catalogue ∙ ap Some (sym (kept_of_last hs h)) ∙ ap (λ n. Some (kept_of (hs ++ h ∷ []) n)) (sym place)

-- a number whose counts are kept is answered with them
pub applied_answer : (hs : List Standing) (fold : Fold) (series : List ℕ) (from n : ℕ) (e : Effect) → IsFold from hs fold → from ≤ n → slice_get fold.effects.items (n - from) ≡ Some e → delivery.Applied series n e ≡ placed_answer hs series from n
applied_answer hs fold series from n e is le there =
    let within = slice_get_within fold.effects.items (n - from) e there in
    let counted = is.counted in
    let below : n - from < length hs = omega arith in
    let lt : n < from + length hs = omega arith in
    let test : nat_lt n (from + length hs) ≡ true = grind (arith, nat_tests) in
    let same : Some e ≡ Some (kept_of hs (n - from)) = sym there ∙ is.counts (n - from) below in
    let kept : e ≡ kept_of hs (n - from) = cc in
    ap (delivery.Applied series n) kept ∙ sym (ap (λ b. cond b (delivery.Applied series n (kept_of hs (n - from))) (delivery.Held series n (from + length hs))) test)

-- one more stands at the next number
pub begins_more : (f : ℕ → Option Standing) (from : ℕ) (hs : List Standing) (h : Standing) → BeginsWith f from hs → f (from + length hs) ≡ Some h → BeginsWith f from (hs ++ h ∷ [])
begins_more f from hs h begins there = λ k lt. go k lt (cases_lt k (length hs))
  where
    go : (k : ℕ) → k < length (hs ++ h ∷ []) → (k < length hs) ⊎ (length hs ≤ k) → f (from + k) ≡ slice_get (hs ++ h ∷ []) k
    go k lt (inl before) = begins k before ∙ sym (slice_get_front hs (h ∷ []) k before)
    go k lt (inr past) =
        let more = last_length hs h in
        let place : k ≡ length hs = omega arith in
        ap (λ n. f (from + n)) place ∙ there ∙ sym (slice_get_last hs h) ∙ ap (slice_get (hs ++ h ∷ [])) (sym place)

-- a fold up to a number that has nothing is the fold of the front
pub front_folded : (f : ℕ → Option Standing) (from : ℕ) (fold : Fold) → IsFolded f from fold → f fold.next ≡ None → (hs : List Standing) → IsFront f from hs → IsFold from hs fold
front_folded f from fold folded none hs is =
    let front : IsFront f from folded.0 = record { each = folded.1; ends = ap f (sym folded.2.next) ∙ none } in
    subst (λ gs. IsFold from gs fold) (front_unique f from folded.0 hs front is) folded.2

-- a number that is folded is answered as by the whole front
pub answer_within : (f : ℕ → Option Standing) (from : ℕ) (hs gs : List Standing) → IsFront f from hs → BeginsWith f from gs → (series : List ℕ) (n : ℕ) → from ≤ n → n < from + length gs → placed_answer gs series from n ≡ placed_answer hs series from n
answer_within f from hs gs is begins series n le lt =
    let goes_on = front_goes_on f from hs gs is begins in
    let longer = length-append gs goes_on.0 in
    let length_is : length hs ≡ length (gs ++ goes_on.0) = ap length goes_on.1 in
    let here : nat_lt n (from + length gs) ≡ true = grind (arith, nat_tests) in
    let below : n < from + length hs = omega arith in
    let there : nat_lt n (from + length hs) ≡ true = grind (arith, nat_tests) in
    let kept : kept_of hs (n - from) ≡ kept_of gs (n - from) = ap (λ xs. kept_of xs (n - from)) goes_on.1 ∙ kept_front gs goes_on.0 (n - from) (omega arith) in
    ap (λ b. cond b (delivery.Applied series n (kept_of gs (n - from))) (delivery.Held series n (from + length gs))) here
    ∙ ap (delivery.Applied series n) (sym kept)
    ∙ sym (ap (λ b. cond b (delivery.Applied series n (kept_of hs (n - from))) (delivery.Held series n (from + length hs))) there)

-- what is folded stays folded where one more is put at a number that had nothing

pub folded_with : (f g : ℕ → Option Standing) (from n : ℕ) (h : Standing) (fold : Fold) → f n ≡ None → ((k : ℕ) → g k ≡ cond (is_at (nat_cmp n) k) (Some h) (f k)) → IsFolded f from fold → IsFolded g from fold
folded_with f g from n h fold none put folded = (folded.0, λ k lt. put (from + k) ∙ go k lt (is_at (nat_cmp n) (from + k)) refl, folded.2)
  where
    go : (k : ℕ) → k < length folded.0 → (b : Bool) → is_at (nat_cmp n) (from + k) ≡ b → cond b (Some h) (f (from + k)) ≡ slice_get folded.0 k
    go k lt true e =
        let same : from + k ≡ n = grind (arith, nat_tests) in
        let past = slice_get_none folded.0 k (sym (folded.1 k lt) ∙ ap f same ∙ none) in
        absurd (omega arith)
    go k lt false e = folded.1 k lt

-- and where a number that is not folded is taken out
pub folded_without : (f g : ℕ → Option Standing) (from n : ℕ) (fold : Fold) → fold.next ≤ n → ((k : ℕ) → g k ≡ cond (nat_eq n k) None (f k)) → IsFolded f from fold → IsFolded g from fold
folded_without f g from n fold past taken folded = (folded.0, λ k lt. taken (from + k) ∙ go k lt (nat_eq n (from + k)) refl ∙ folded.1 k lt, folded.2)
  where
    go : (k : ℕ) → k < length folded.0 → (b : Bool) → nat_eq n (from + k) ≡ b → cond b None (f (from + k)) ≡ f (from + k)
    go k lt true e =
        let same : from + k ≡ n = grind (arith, nat_tests) in
        let next = folded.2.next in
        absurd (omega arith)
    go k lt false e = refl

-- a value that makes a number is that number
pub number_is : (n value : ℕ) → Some n ≡ number_from value → n ≡ value
number_is n value made = go (nat_lt 0 value && nat_lt value 1000000000) made
  where
    go : (b : Bool) → Some n ≡ cond b (Some value) None → n ≡ value
    go true e = cc
    go false e = absurd cc
