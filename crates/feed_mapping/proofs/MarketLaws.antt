-- The record of Markets that are left.
use Rattle.std.proofs.Common.{◌≡◌, ℕ, Bool, true, false, List, [], ◌∷◌, ◌++◌, Option, Some, None, refl, sym, ap}
use Rattle.std.proofs.lemmas.List.{append-nil}
use Rattle.std.proofs.lemmas.Option.{same_Some}
use Rattle.std.specs.Option.{option_map_or}
use Rattle.feed_mapping.specs.Markets.{IsFilled, supply_record}
use Rattle.feed_mapping.specs.Notes.{Reason, foreign}
use Rattle.feed_mapping.specs.Outcomes.{Outcome, left_out, outcome_reason, outcome_records, written}
use Rattle.feed_mapping.specs.declared.notes.Foreign.TheVariants.{LongMarkets}

-- what comes of the fields of Markets that are left
abbrev pub joined_outcome : Option (List (List ℕ)) → List Reason → Outcome
joined_outcome made notes = option_map_or (λ fields. written (supply_record fields ∷ []) notes) made (left_out (foreign LongMarkets []))

pub filled-reason : (b : Bool) (o : Option (List (List ℕ))) (made : List (List ℕ)) (notes : List Reason) → b ≡ true → IsFilled b made o → None ≡ outcome_reason (joined_outcome o notes)
filled-reason true None made notes is f = cc f
filled-reason true (Some fields) made notes is f = refl
filled-reason false o made notes is f = cc is

pub filled-records : (b : Bool) (o : Option (List (List ℕ))) (made : List (List ℕ)) (notes : List Reason) → b ≡ true → IsFilled b made o → made ∷ [] ≡ outcome_records (joined_outcome o notes)
filled-records true None made notes is f = cc f
filled-records true (Some fields) made notes is f = ap (λ (k : List (List ℕ)). k ∷ []) (sym (same_Some (supply_record fields) made f))
filled-records false o made notes is f = cc is

pub long-reason : (b : Bool) (o : Option (List (List ℕ))) (made : List (List ℕ)) (notes : List Reason) → b ≡ false → IsFilled b made o → Some (foreign LongMarkets []) ≡ outcome_reason (joined_outcome o notes)
long-reason true o made notes is f = cc is
long-reason false None made notes is f = refl
long-reason false (Some fields) made notes is f = cc f

pub long-records : (b : Bool) (o : Option (List (List ℕ))) (made : List (List ℕ)) (notes : List Reason) → b ≡ false → IsFilled b made o → (old : List (List (List ℕ))) → old ≡ old ++ outcome_records (joined_outcome o notes)
long-records true o made notes is f old = cc is
long-records false None made notes is f old = sym (append-nil old)
long-records false (Some fields) made notes is f old = cc f
