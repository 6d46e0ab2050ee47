-- What goes beyond what is taken, by places.
use Rattle.std.specs.Prelude.{◌≡◌, ◌<◌, ◌≤◌, ℕ, true, List, [], ◌∷◌, ◌++◌, length}
use Rattle.feed_xml.specs.declared.place.Place.{Place}
use Rattle.feed_xml.specs.Distinct.{is_large}
use Rattle.feed_xml.specs.private.Windows.{Advances}
use Rattle.feed_xml.specs.Grammar.{Token}
use Rattle.feed_xml.specs.Limits.{Follows, IsStart}
use Rattle.feed_xml.specs.Pieces.{HasNoToken}
use Rattle.feed_xml.specs.private.Places.{section_of}

-- what may be said of a place and of what follows there
abbrev pub PlaceBound : Type 1
PlaceBound = Place → List ℕ → Type 0

-- The bytes begin with these tokens, which lead to a place, and there and of the rest this holds.
pub record MeetsFrom (Limit : PlaceBound) (from : Place) (tokens : List Token)
    (bytes : List ℕ) : Type 0 where
  pub rest : List ℕ
  pub place : Place
  pub leads : Advances bytes tokens rest from place
  pub meets : Limit place rest

-- from this place on the bytes begin with these tokens
abbrev pub BeginsAt : Place → List Token → List ℕ → Type 0
BeginsAt = MeetsFrom (λ place rest. Unit {0})

-- 1,000 elements are open, and these tokens are the start tag of another one
abbrev pub OpensOneMore : Place → List Token → Type 0
OpensOneMore p tokens =
    (tag : Token) × IsStart tag × (tokens ≡ tag ∷ []) × (1000 ≤ length p.nesting.names)

-- the start tag of another one follows
abbrev pub IsDeepAt : Place → List ℕ → Type 0
IsDeepAt p rest = (tag : Token) × IsStart tag × Follows tag rest × (1000 ≤ length p.nesting.names)

-- these tokens are a tag with more attributes, or more bytes of them, than are taken
abbrev pub IsLargeTag : List Token → Type 0
IsLargeTag tokens = (tag : Token) × (tokens ≡ tag ∷ []) × (is_large tag ≡ true)

-- such a tag follows
abbrev pub IsLargeAt : Place → List ℕ → Type 0
IsLargeAt p rest = (tag : Token) × Follows tag rest × (is_large tag ≡ true)

-- more than 4,194,304 bytes follow that begin with no token
abbrev pub IsLongAt : Place → List ℕ → Type 0
IsLongAt p rest =
    (front : List ℕ) × (more : List ℕ) × (rest ≡ front ++ more) × (4194304 < length front)
    × HasNoToken (section_of p.tail) front
