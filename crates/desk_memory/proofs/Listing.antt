-- The articles that are listed of a series, step by step.
use Rattle.std.proofs.Common.{◌≡◌, ◌<◌, ◌+◌, ◌-◌, ◌++◌, ◌∷◌, [], ℕ, List, Option, Some, length, take, sym, ap, ◌∙◌, subst, arith}
use Rattle.std.specs.Prelude.{slice_get}
use Rattle.std.specs.FinMap as map
use Rattle.std.proofs.lemmas.List.{take_more}
use Rattle.std.proofs.lemmas.Option.{get_or_from_slice_get, slice_get_within}
use Rattle.catalogue_rules.specs.ArticleIndex.{IsIndexOf}
use Rattle.catalogue_rules.specs.Records.{ByReference}
use Rattle.series_rules.specs.Series.{BeginsWith, after_all, after_standing}
use Rattle.series_rules.specs.declared.requests.Standing.{Standing}
use Rattle.desk_memory.specs.Listed.{IsListed}
use Rattle.desk_memory.specs.declared.articles.Articles.{Articles}
use Rattle.desk_memory.proofs.Folds.{after_all_last}

-- those of one more are listed
pub listed_more : (from n : ℕ) (hs : List Standing) (h : Standing) (was now : Articles) → IsListed from hs was → n ≡ was.next → slice_get hs (n - from) ≡ Some h
    → now.next ≡ n + 1 → ((m : ByReference) → IsIndexOf was.index m → IsIndexOf now.index (after_standing m h)) → IsListed from hs now
listed_more from n hs h was now is number there next step =
    let within = slice_get_within hs (n - from) h there in
    let was_next = is.next in
    let place : n - from ≡ is.count = omega arith in
    let more : take (is.count + 1) hs ≡ take is.count hs ++ h ∷ [] =
    take_more hs is.count h (omega arith) ∙ ap (λ x. take is.count hs ++ x ∷ []) (get_or_from_slice_get hs is.count h h (ap (slice_get hs) (sym place) ∙ there)) in
    record {
      count = is.count + 1;
      within = omega arith;
      next = omega arith;
      index = subst (IsIndexOf now.index) (sym (ap (after_all map.empty) more ∙ after_all_last map.empty (take is.count hs) h)) (step (after_all map.empty (take is.count hs)) is.index);
    }

-- the same are listed where the index is still one of each catalogue of which it was one
pub listed_as_before : (from : ℕ) (hs : List Standing) (was now : Articles) → IsListed from hs was → now.next ≡ was.next
    → ((m : ByReference) → IsIndexOf was.index m → IsIndexOf now.index m) → IsListed from hs now
listed_as_before from hs was now is next step = record { count = is.count; within = is.within; next = next ∙ is.next; index = step (after_all map.empty (take is.count hs)) is.index }

-- what stands at the next number, below the end, is the next of the list
pub next_of_them : (f : ℕ → Option Standing) (from number until : ℕ) (hs : List Standing) (h : Standing) (articles : Articles) → BeginsWith f from hs → until ≡ from + length hs
    → IsListed from hs articles → number ≡ articles.next → number < until → f number ≡ Some h → slice_get hs (number - from) ≡ Some h
next_of_them f from number until hs h articles begins end is next below there =
    let place = is.next in
    let same : from + (number - from) ≡ number = omega arith in
    sym (begins (number - from) (omega arith)) ∙ ap f same ∙ there
