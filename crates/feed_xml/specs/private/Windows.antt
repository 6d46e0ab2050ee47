-- How far a document was read, of which a window is in memory.
use Rattle.std.specs.Prelude.{◌≡◌, ℕ, true, List, ◌++◌, Option, Some, None, ⊤, Bool}
use Rattle.std.specs.Prelude.{not, ◌&&◌}
use Rattle.std.specs.List.{flat_map, list_all}
use Rattle.feed_xml.specs.declared.place.Place.{Place}
use Rattle.feed_xml.specs.declared.texts.Part.{Part}
use Rattle.feed_xml.specs.Texts.{follow, is_start, IsSmall}
use Rattle.feed_xml.specs.Grammar.{Token, spelling, is_token, is_filled}
use Rattle.feed_xml.specs.private.Places.{steps, is_last}

-- the bytes are these tokens, which lead from one place to the other, and then the rest
pub record Advances (bytes : List ℕ) (tokens : List Token) (rest : List ℕ) (old new : Place)
    : Type 0 where
  pub spelled : bytes ≡ flat_map spelling tokens ++ rest
  pub each : list_all is_token tokens ≡ true
  pub leads : steps old tokens ≡ Some new

-- a text is what a reader has left, where the reader tells that
abbrev pub IsTold : Option (List ℕ) → List ℕ → Type 0
IsTold None text = ⊤
IsTold (Some known) text = known ≡ text

-- a document may end here
abbrev pub is_whole : List ℕ → Place → Part → Bool
is_whole window p part = is_start part && (not (is_filled window) && is_last p)

-- A piece of text went behind the old bytes, and the next byte is at this part of a character.
-- Nothing is told where the piece is none of a text: then a front of it went behind them.
abbrev pub Grows : List ℕ → List ℕ → Part → List ℕ → Option Part → Type 0
Grows old new part piece (Some next) =
    (new ≡ old ++ piece) × (follow part piece ≡ Some next) × IsSmall next
Grows old new part piece None =
    (good bad : List ℕ) × (piece ≡ good ++ bad) × (new ≡ old ++ good)
    × (follow part piece ≡ None)
