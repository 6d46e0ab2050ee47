-- A series up to its first gap.
use Rattle.std.specs.Prelude.{◌≡◌, ◌<◌, ◌≤◌, ◌+◌, ◌-◌, List, [], ◌∷◌, Option, Some, None, IsSome, ℕ, zero, suc, length, slice_get, take}
use Rattle.std.specs.FinMap as map
use Rattle.catalogue_rules.specs.Records.{ByReference}
use Rattle.catalogue_rules.specs.Effects.{after, effect_of, no_effect}
use Rattle.onix_records.specs.declared.effects.Effect.{Effect}
use Rattle.onix_records.specs.declared.agreements.Agreement.{Agreement}
use Rattle.series_rules.specs.Firsts.{first_at}
use Rattle.series_rules.specs.declared.requests.Request.{Request}
use Rattle.series_rules.specs.declared.requests.Standing.{Standing}
use Rattle.series_rules.specs.declared.requests.Standing.TheVariants.{Message, Waived}

-- it stands in front of the rest; where nothing stands, there is no rest
abbrev pub in_front_of : Option Standing → List Standing → List Standing
in_front_of None rest = []
in_front_of (Some h) rest = h ∷ rest

-- what stands at the numbers from n on, up to the first that has nothing; no more than so many
abbrev pub without_gap : ℕ → (ℕ → Option Standing) → ℕ → List Standing
without_gap zero f n = []
without_gap (suc most) f n = in_front_of (f n) (without_gap most f (n + 1))

-- what stands from that number on begins with hs
abbrev pub BeginsWith : (ℕ → Option Standing) → ℕ → List Standing → Type 0
BeginsWith f from hs = (k : ℕ) → k < length hs → f (from + k) ≡ slice_get hs k

-- hs is what stands from that number on, up to the first number that has nothing
pub record IsFront (f : ℕ → Option Standing) (from : ℕ) (hs : List Standing) : Type 0 where
  pub each : (k : ℕ) → k < length hs → f (from + k) ≡ slice_get hs k
  pub ends : f (from + length hs) ≡ None

-- n is the least number, from that one on, that has nothing
pub record IsNext (f : ℕ → Option Standing) (from n : ℕ) : Type 0 where
  pub above : from ≤ n
  pub below : (k : ℕ) → from ≤ k → k < n → IsSome (f k)
  pub lacks : f n ≡ None

-- what stands in the agreed series from its first number on, up to the first number that has
-- nothing. No more numbers have something than there are requests
abbrev pub front_of : List Request → Agreement → List Standing
front_of L a = without_gap (length L) (first_at L a.name) a.first

-- the first number of the agreed series that has nothing
abbrev pub next_of : List Request → Agreement → ℕ
next_of L a = a.first + length (front_of L a)

-- the catalogue after one more of what stands. A waiver changes nothing
abbrev pub after_standing : ByReference → Standing → ByReference
after_standing m (Message c) = after m c
after_standing m Waived = m

-- what it does to the catalogue. A waiver does nothing
abbrev pub effect_of_standing : ByReference → Standing → Effect
effect_of_standing m (Message c) = effect_of m c
effect_of_standing m Waived = no_effect

-- the catalogue after all of them, in order
abbrev pub after_all : ByReference → List Standing → ByReference
after_all m [] = m
after_all m (h ∷ hs) = after_all (after_standing m h) hs

-- what it does, where there is one
abbrev pub effect_at : ByReference → Option Standing → Effect
effect_at m None = no_effect
effect_at m (Some h) = effect_of_standing m h

-- what the k-th of them did, counted from 0, after those before it
abbrev pub kept_of : List Standing → ℕ → Effect
kept_of hs k = effect_at (after_all map.empty (take k hs)) (slice_get hs k)

-- the catalogue of the agreed series: what stands up to its first gap, applied in order to no
-- records
abbrev pub catalogue_of : List Request → Agreement → ByReference
catalogue_of L a = after_all map.empty (front_of L a)

-- what the message of that number did at its place in the order
abbrev pub kept_at : List Request → Agreement → ℕ → Effect
kept_at L a n = kept_of (front_of L a) (n - a.first)
