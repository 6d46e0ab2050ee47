-- What is asked of a desk and what is taken while it is listed.
use Rattle.std.specs.Prelude.{◌≡◌, ◌⊎◌, ◌+◌, ◌-◌, ◌++◌, ℕ, List, [], ◌∷◌, Option, Some, None, Result, Ok, Err, map}
use Rattle.std.specs.Io.KnownBytes.{Appends}
use Rattle.onix_records.specs.declared.agreements.Agreement.{Agreement}
use Rattle.series_rules.specs.Views.{DeskKind, Stays, View}
use Rattle.series_rules.specs.declared.requests.Request.{Request}
use Rattle.desk_export.specs.Exports.{requests_from}
use Rattle.desk_export.specs.RequestRecords.{request_text}

-- the texts of these requests
abbrev pub texts_of : List Request → List (List ℕ)
texts_of rs = map request_text rs

-- a part of this text, from its first byte on, was put behind what was written
abbrev pub AppendsFront : Option (List ℕ) → Option (List ℕ) → List ℕ → Type 0
AppendsFront old new text = (part rest : List ℕ) × (part ++ rest ≡ text) × Appends old new part

-- these texts were taken, one after the other
abbrev pub TakesAll : {T : Type 0} → (T → T → List ℕ → Type 0) → T → T → List (List ℕ) → Type 0
TakesAll takes old new [] = new ≡ old
TakesAll {T} takes old new (t ∷ ts) = (mid : T) × takes old mid t × TakesAll takes mid new ts

-- Of these texts the first were taken, one after the other, or none, and of the next one perhaps a
-- part. Part: of this text perhaps a part was taken
abbrev pub TakesSome : {T : Type 0} → (takes part : T → T → List ℕ → Type 0) → T → T
    → List (List ℕ) → Type 0
TakesSome takes part old new [] = new ≡ old
TakesSome {T} takes part old new (t ∷ ts) = (new ≡ old) ⊎ (part old new t
    ⊎ ((mid : T) × takes old mid t × TakesSome takes part mid new ts))

-- with `Ok` all of these texts were taken, and else some
abbrev pub Takes : {A F T : Type 0} → (takes part : T → T → List ℕ → Type 0) → T → T
    → List (List ℕ) → Result A F → Type 0
Takes takes part old new texts (Ok a) = TakesAll takes old new texts
Takes takes part old new texts (Err e) = TakesSome takes part old new texts

-- A desk was asked questions alone: it stands for what it did, and nothing changed. After each list
-- for which it stood and of which that is so, these texts were taken, or some after a fault
pub record IsTaken {A F T : Type 0} {k : DeskKind} (takes part : T → T → List ℕ → Type 0)
    (IsSo : List Request → Type 0) (texts : List Request → List (List ℕ)) (old new : View k)
    (from to : T) (result : Result A F) : Type 0 where
  pub premise : new.sound → old.sound
  pub left : (L : List Request) → old.stands_for L → new.sound → new.stands_for L
  pub stays : new.sound → Stays old new
  pub taken : (L : List Request) → old.stands_for L → new.sound → IsSo L
      → Takes takes part from to (texts L) result

-- the number behind the greatest that has something, or else the first
abbrev pub end_after : ℕ → Option ℕ → ℕ
end_after first None = first
end_after first (Some g) = g + 1

-- what puts anew what is at the numbers of a series from one on up to an end, without those of
-- these ranges
abbrev pub requests_between : List Request → Agreement → ℕ → List (ℕ × ℕ) → ℕ → List Request
requests_between L a from [] end = requests_from L a from (end - from)
requests_between L a from (p ∷ ps) end =
    requests_from L a from (p.0 - from) ++ requests_between L a (p.1 + 1) ps end
