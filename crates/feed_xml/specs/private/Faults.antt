-- What faults tell while a document is read.
use Rattle.std.specs.Prelude.{◌≡◌, ℕ, Bool, false, List, ◌++◌, Option, Some, IfSome, fold}
use Rattle.feed_xml.specs.declared.fault.Fault.{Fault}
use Rattle.feed_xml.specs.declared.fault.Fault.TheVariants.{Malformed, NotText, TooDeep, TooLong}
use Rattle.feed_xml.specs.declared.fault.Fault.TheVariants.{LargeTag, Refused, UnknownEncoding}
use Rattle.feed_xml.specs.declared.fault.Fault.TheVariants.{Read, Memory}
use Rattle.feed_xml.specs.declared.place.Place.{Place}
use Rattle.feed_xml.specs.Documents.{IsNoText}
use Rattle.feed_xml.specs.EncodingNames.{encoding_name}
use Rattle.feed_xml.specs.Grammar.{Token}
use Rattle.feed_xml.specs.private.Bounds.{BeginsAt, IsDeepAt, IsLargeAt, IsLongAt, MeetsFrom}
use Rattle.feed_xml.specs.private.Bounds.{PlaceBound}
use Rattle.feed_xml.specs.private.Places.{Completes, IsNeverComplete, first_place}

-- a document that begins so has an encoding of this name, which is none that is known
abbrev pub IsUnknown : List ℕ → Fault → Type 0
IsUnknown head (UnknownEncoding name) = encoding_name head ≡ Some name
IsUnknown head Memory = Unit {0}
IsUnknown head other = ⊥

module _ {S : Type 0} (after : S → Token → S) (goes_on : S → Bool) where
  -- what a fault tells of a text, where that is told
  module _ (told : Option (List ℕ)) (old new : S) where
    -- it begins with tokens that lead to where this holds
    abbrev pub MeetsText : PlaceBound → Type 0
    MeetsText Limit = (tokens : List Token) × IfSome told (MeetsFrom Limit first_place tokens)

    abbrev pub TellsText : Fault → Type 0
    TellsText Malformed = IfSome told IsNeverComplete
    TellsText NotText = IfSome told IsNoText
    TellsText TooDeep = MeetsText IsDeepAt
    TellsText TooLong = MeetsText IsLongAt
    TellsText LargeTag = MeetsText IsLargeAt
    TellsText Refused =
        (goes_on new ≡ false) × ((tokens : List Token)
        × IfSome told (BeginsAt first_place tokens) × (new ≡ fold after old tokens))
    TellsText (UnknownEncoding name) = ⊥
    TellsText Read = Unit {0}
    TellsText Memory = Unit {0}

  -- the same of a window, whose tokens begin at a place
  module _ (from : Place) (window : List ℕ) (old new : S) where
    abbrev pub TellsWindow : Fault → Type 0
    TellsWindow Malformed =
        (more : List ℕ) (tokens : List Token) → ¬ (Completes from (window ++ more) tokens)
    TellsWindow TooDeep = (tokens : List Token) × MeetsFrom IsDeepAt from tokens window
    TellsWindow LargeTag = (tokens : List Token) × MeetsFrom IsLargeAt from tokens window
    TellsWindow Refused =
        (goes_on new ≡ false) × ((tokens : List Token)
        × BeginsAt from tokens window × (new ≡ fold after old tokens))
    TellsWindow Memory = Unit {0}
    TellsWindow other = ⊥
