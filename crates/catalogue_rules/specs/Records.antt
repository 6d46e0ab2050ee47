-- A catalogue: the records of a series by the bytes of their references.
use Rattle.std.specs.Prelude.{ℕ, ◌≤◌, IfSome, List, map, String}
use Rattle.std.specs.Global.{Global}
use Rattle.std.specs.FinMap.{FinMap, entries, from_entries, get}
use Rattle.std.specs.Ordering.{nat_cmp}
use Rattle.std.specs.Cmp.Lexicographic.{slice_cmp}
use Rattle.std.specs.String.{string_bytes}
use Rattle.onix_records.specs.DetailCount.{detail_count}
use Rattle.onix_records.specs.Grammar.{most_records}
use Rattle.catalogue_rules.specs.declared.entry.Entry.{Entry}

-- a finite map from references to what is kept of each record
abbrev pub ByReference : Type 0
ByReference = FinMap (slice_cmp nat_cmp) Entry

-- entries by the bytes of their keys
abbrev pub keyed_by : {K X : Type 0} → (K → List ℕ) → List (K × X) → List (List ℕ × X)
keyed_by bytes entries = map (λ e. (bytes e.0, e.1)) entries

-- the map that these make
abbrev pub map_by : {K X : Type 0} → (K → List ℕ) → List (K × X) → FinMap (slice_cmp nat_cmp) X
map_by bytes entries = from_entries (keyed_by bytes entries)

-- the entries of an iterator by the bytes of their references
abbrev pub by_bytes : {X : Type 0} → List (String Global × X) → List (List ℕ × X)
by_bytes entries = keyed_by string_bytes entries

abbrev pub map_of : {X : Type 0} → List (String Global × X) → FinMap (slice_cmp nat_cmp) X
map_of entries = map_by string_bytes entries

-- the records in order of reference
abbrev pub records_of : ByReference → List (List ℕ × Entry)
records_of m = entries m

-- P holds of what each key has
abbrev pub EachHas : {X : Type 0} → (X → Type 0) → FinMap (slice_cmp nat_cmp) X → Type 0
EachHas P m = (q : List ℕ) → IfSome (get m q) P

-- a record has no more SupplyDetails than a message may have records
abbrev pub HasFewDetails : Entry → Type 0
HasFewDetails e = detail_count e.supplies ≤ most_records
