-- Laws of the definitions.
use Rattle.std.specs.Prelude.{◌≡◌, ◌<◌, ◌≤◌, ◌++◌, ℕ, List, ◌∷◌, Some}
use Rattle.onix_records.specs.declared.agreements.Agreement.{Agreement}
use Rattle.series_rules.specs.Agreements.{AreDistinct, NoTwoClash, agreements_of, named}
use Rattle.series_rules.specs.Firsts.{first_at}
use Rattle.series_rules.specs.Series.{front_of, next_of, kept_at, IsFront, IsNext}
use Rattle.series_rules.specs.Gaps.{IsGapReport, gaps_of}
use Rattle.series_rules.specs.Content.{SameContent}
use Rattle.series_rules.specs.Answers.{answer_to}
use Rattle.price_rules.specs.declared.precedence.Rule.{Rule}
use Rattle.series_rules.specs.declared.requests.Request.{Request}
use Rattle.series_rules.specs.declared.requests.Standing.{Standing}

-- no two of the agreements that stand have a name in common, nor a sender and addressee; what is
-- found by the one is found by the other
pub record AgreementsAreDistinct : Type 0 where
  pub no_two_clash : (L : List Request) → NoTwoClash (agreements_of L)
  pub found_alike : (L : List Request) → AreDistinct (agreements_of L)

-- the next number of a series is the least, from the agreed first on, that nothing stands at
abbrev pub NextIsLeast : Type 0
NextIsLeast = (L : List Request) (a : Agreement) → IsNext (first_at L a.name) a.first (next_of L a)

-- the front of a series is what stands from the agreed first number up to the first that has
-- nothing, and nothing else is
pub record FrontIsExact : Type 0 where
  pub is_front : (L : List Request) (a : Agreement)
      → IsFront (first_at L a.name) a.first (front_of L a)
  pub unique : (L : List Request) (a : Agreement) (hs : List Standing)
      → IsFront (first_at L a.name) a.first hs
      → hs ≡ front_of L a

-- lists that come to the same are answered the same, and come to the same after one more request
abbrev pub ByContentAlone : Type 0
ByContentAlone =
    (rules : List Rule) (L M : List Request) (r : Request) → SameContent L M →
    (answer_to rules L r ≡ answer_to rules M r) × SameContent (r ∷ L) (r ∷ M)

-- an agreed series stays agreed, what stands below its first gap stays, and what a message did
-- there never changes
abbrev pub FrontOnlyGrows : Type 0
FrontOnlyGrows =
    (L : List Request) (r : Request) (series : List ℕ) (a : Agreement)
    → named (agreements_of L) series ≡ Some a
    → (named (agreements_of (r ∷ L)) series ≡ Some a)
    × ((more : List Standing) × (front_of (r ∷ L) a ≡ front_of L a ++ more))
    × ((n : ℕ) → a.first ≤ n → n < next_of L a → kept_at (r ∷ L) a n ≡ kept_at L a n)

-- the report on the gaps of an agreed series is true of what stands in it
abbrev pub GapsAreTrue : Type 0
GapsAreTrue = (L : List Request) (a : Agreement) → IsGapReport (first_at L a.name) a (gaps_of L a)
