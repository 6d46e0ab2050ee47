-- What is written with the terms, less the computed records.
use Rattle.std.proofs.Common.{◌≡◌, ℕ, Bool, List, [], ◌∷◌, ◌++◌, Option, length, drop, map, refl, ap, ◌∙◌}
use Rattle.feed_terms.specs.Laws.{less_behind}
use Rattle.feed_terms.specs.WithTerms.{computed_record, with_all, written_of}
use Rattle.feed_terms.specs.declared.computed.ComputedPrice.{ComputedPrice}
use Rattle.feed_terms.specs.declared.price.GivenPrice.{GivenPrice}
use Rattle.feed_terms.specs.declared.term.Term.{Term}

drop_front : {X Y : Type 0} (f : X → Y) (xs : List X) (rest : List Y) → drop (length xs) (map f xs ++ rest) ≡ rest
drop_front f [] rest = refl
drop_front f (x ∷ xs) rest = drop_front f xs rest

module _ (supplier : Option (List ℕ)) (held : GivenPrice → ComputedPrice → Bool) where
  pub less_computed : (terms : List Term) (given : List GivenPrice) (records : List (List (List ℕ)))
      → less_behind (map (λ g. length (written_of terms supplier held g)) given) (with_all terms supplier held records given) ≡ records
  less_computed terms given [] = refl
  less_computed terms [] (fields ∷ records) = refl
  less_computed terms (g ∷ given) (fields ∷ records) =
      let written = written_of terms supplier held g in
      ap (λ rest. fields ∷ rest)
      (ap (less_behind (map (λ g. length (written_of terms supplier held g)) given)) (drop_front (computed_record fields) written (with_all terms supplier held records given))
      ∙ less_computed terms given records)

  pub none_computed : (given : List GivenPrice) (records : List (List (List ℕ))) → with_all [] supplier held records given ≡ records
  none_computed given [] = refl
  none_computed [] (fields ∷ records) = refl
  none_computed (g ∷ given) (fields ∷ records) = ap (λ rest. fields ∷ rest) (none_computed given records)
