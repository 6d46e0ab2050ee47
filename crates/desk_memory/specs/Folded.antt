-- The fold of a series: the catalogue of what stands at its first numbers, the counts of each
-- message there, and articles of some of them.
use Rattle.std.specs.Prelude.{◌≡◌, ◌<◌, ◌+◌, ℕ, List, Option, Some, length, slice_get}
use Rattle.std.specs.FinMap as map
use Rattle.series_rules.specs.Series.{BeginsWith, after_all, kept_of}
use Rattle.desk_memory.specs.Listed.{IsListed}
use Rattle.desk_memory.specs.declared.fold.Fold.{Fold}
use Rattle.series_rules.specs.declared.requests.Standing.{Standing}

-- it is the fold of hs: the number after it, its catalogue, what each did, and the articles of the
-- first of them
pub record IsFold (from : ℕ) (hs : List Standing) (fold : Fold) : Type 0 where
  pub next : fold.next ≡ from + length hs
  pub catalogue : fold.catalogue ≡ after_all map.empty hs
  pub counted : length fold.effects.items ≡ length hs
  pub counts : (k : ℕ) → k < length hs → slice_get fold.effects.items k ≡ Some (kept_of hs k)
  pub listed : IsListed from hs fold.articles

-- it is the fold of something with which what stands from that number on begins
abbrev pub IsFolded : (ℕ → Option Standing) → ℕ → Fold → Type 0
IsFolded f from fold = (hs : List Standing) × BeginsWith f from hs × IsFold from hs fold
