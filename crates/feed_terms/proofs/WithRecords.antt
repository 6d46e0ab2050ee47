-- The records of a SupplyDetail, as they are gone over.
use Rattle.std.proofs.Common.{◌≡◌, ◌<◌, ◌≤◌, ◌+◌, ℕ, suc, List, ◌∷◌, ◌++◌, Bool, Option, Some, length, get_or, drop, slice_get, sym, ap, add-one, append_assoc, ◌∙◌}
use Rattle.std.proofs.lemmas.List.{append-nil, drop_all}
use Rattle.std.proofs.Math.Seq.{drop-cons}
use Rattle.std.proofs.lemmas.Option.{get_or_from_slice_get}
use Rattle.feed_terms.specs.WithTerms.{with_all, with_computed}
use Rattle.feed_terms.specs.declared.computed.ComputedPrice.{ComputedPrice}
use Rattle.feed_terms.specs.declared.price.GivenPrice.{GivenPrice}
use Rattle.feed_terms.specs.declared.term.Term.{Term}

dropped : {X : Type 0} (xs : List X) (i : ℕ) (x : X) → i < length xs → x ≡ get_or xs i x → drop i xs ≡ x ∷ drop (i + 1) xs
dropped xs i x l at = rw add-one (drop-cons xs i x l ∙ ap (λ y. y ∷ drop (suc i) xs) (sym at))

module _ (terms : List Term) (supplier : Option (List ℕ)) where
  -- one more record with those behind it
  pub with_step : (held : GivenPrice → ComputedPrice → Bool) (before after : List (List (List ℕ))) (records : List (List (List ℕ))) (given : List GivenPrice) (i : ℕ) (r : List (List ℕ)) (g : GivenPrice)
      → i < length records → i < length given → slice_get records i ≡ Some r → g ≡ get_or given i g → after ≡ before ++ with_computed terms supplier held r g
      → after ++ with_all terms supplier held (drop (i + 1) records) (drop (i + 1) given) ≡ before ++ with_all terms supplier held (drop i records) (drop i given)
  with_step held before after records given i r g lr lg ar ag is =
      let rest = with_all terms supplier held (drop (i + 1) records) (drop (i + 1) given) in
      let rs = dropped records i r lr (sym (get_or_from_slice_get records i r r ar)) in
      let gs = dropped given i g lg ag in
      ap (λ out. out ++ rest) is ∙ append_assoc before (with_computed terms supplier held r g) rest
      ∙ ap (λ xs. before ++ xs) (sym (ap (λ xs. with_all terms supplier held xs (drop i given)) rs ∙ ap (with_all terms supplier held (r ∷ drop (i + 1) records)) gs))

  -- all of them
  pub with_past : (held : GivenPrice → ComputedPrice → Bool) (out all : List (List (List ℕ))) (records : List (List (List ℕ))) (given : List GivenPrice) (i : ℕ)
      → length records ≤ i → out ++ with_all terms supplier held (drop i records) (drop i given) ≡ all → out ≡ all
  with_past held out all records given i past is =
      sym (ap (λ xs. out ++ with_all terms supplier held xs (drop i given)) (drop_all i records past) ∙ append-nil out) ∙ is
