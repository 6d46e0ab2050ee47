-- A plan: what a message is to change of a catalogue, made before anything is changed.
use Rattle.std.specs.Prelude.{ℕ, ◌≡◌, ◌↔◌, ◌+◌, List, Option, Some, None, IsSome, Contains, map as map_list}
use Rattle.std.specs.Borrow.{Bor}
use Rattle.std.specs.FinMap as map
use Rattle.std.specs.FinMap.{FinMap}
use Rattle.std.specs.Ordering.{nat_cmp}
use Rattle.std.specs.Cmp.Lexicographic.{slice_cmp}
use Rattle.catalogue_rules.specs.Records.{ByReference}
use Rattle.onix_records.specs.declared.effects.Effect.{Effect}
use Rattle.catalogue_rules.specs.declared.entry.Entry.{Entry}

-- the bytes of a reference that is borrowed from a product
abbrev pub str_bytes : Bor (List ℕ) → List ℕ
str_bytes reference = reference.now

-- and of several
abbrev pub all_bytes : List (Bor (List ℕ)) → List (List ℕ)
all_bytes references = map_list str_bytes references

-- what is to become of some references: the entry that each then has, or none
abbrev pub Changes : Type 0
Changes = FinMap (slice_cmp nat_cmp) (Option Entry)

-- what a reference has after the changes, by what it had
abbrev pub entry_now : Option Entry → Option (Option Entry) → Option Entry
entry_now was None = was
entry_now was (Some now) = now

-- a reference that is to have an entry has one already, so that the new one needs no allocation
abbrev pub IsReady : Option Entry → Option (Option Entry) → Type 0
IsReady was None = Unit {0}
IsReady was (Some now) = IsSome now → IsSome was

-- the changes make m of the catalogue base, which lacks exactly the new ones of their references
pub record IsPlan (base : ByReference) (draft : Changes) (new_references : List (List ℕ))
    (m : ByReference) : Type 0 where
  pub gives : (q : List ℕ) → entry_now (map.get base q) (map.get draft q) ≡ map.get m q
  pub lacks : (q : List ℕ) → Contains new_references q ↔
      (IsSome (map.get draft q) × (map.get base q ≡ None))

-- how many products were counted
abbrev pub total : Effect → ℕ
total n = n.replaced + n.updated + n.deleted + n.unknown + n.ignored
