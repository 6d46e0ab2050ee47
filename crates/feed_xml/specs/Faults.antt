-- Faults, by where they come from, and what they tell.
use Rattle.std.specs.Prelude.{◌≡◌, ℕ, Bool, false, List, Option, IfSome, fold}
use Rattle.feed_xml.specs.declared.fault.Fault.{Fault}
use Rattle.feed_xml.specs.declared.fault.Fault.TheVariants.{Malformed, NotText, TooDeep, TooLong}
use Rattle.feed_xml.specs.declared.fault.Fault.TheVariants.{LargeTag, Refused, UnknownEncoding}
use Rattle.feed_xml.specs.declared.fault.Fault.TheVariants.{Read, Memory}
use Rattle.feed_xml.specs.Documents.{IsNoDocument, IsNoText}
use Rattle.feed_xml.specs.EncodingNames.{OfText, IsOfUnknown}
use Rattle.feed_xml.specs.Grammar.{Token}
use Rattle.feed_xml.specs.Limits.{BeginsWith, Bound, Meets, IsDeep, IsLarge, IsLong}

-- those of a token that may not stand at a place, and out of memory
abbrev pub IsOfPlace : Fault → Type 0
IsOfPlace Malformed = Unit {0}
IsOfPlace TooDeep = Unit {0}
IsOfPlace LargeTag = Unit {0}
IsOfPlace Memory = Unit {0}
IsOfPlace other = ⊥

-- those of the end of a text
abbrev pub IsOfEnd : Fault → Type 0
IsOfEnd Malformed = Unit {0}
IsOfEnd NotText = Unit {0}
IsOfEnd other = ⊥

-- a read that failed, and out of memory
abbrev pub IsOfReading : Fault → Type 0
IsOfReading Read = Unit {0}
IsOfReading Memory = Unit {0}
IsOfReading other = ⊥

-- the text of the bytes, where those are told, begins with tokens, and there this holds
abbrev pub GoesTo : Option (List ℕ) → Bound → Type 0
GoesTo bytes Limit = (tokens : List Token) × OfText (Meets Limit tokens) bytes

module _ {S : Type 0} (after : S → Token → S) (bytes : Option (List ℕ)) (old new : S) where
  -- the text begins with tokens, and the sink took them
  abbrev pub TookSome : Type 0
  TookSome =
      (tokens : List Token) × OfText (BeginsWith tokens) bytes × (new ≡ fold after old tokens)

  -- what a fault of a document tells of its bytes; nothing where a read failed or memory ran out
  abbrev pub Tells : (S → Bool) → Fault → Type 0
  Tells goes_on Malformed = OfText IsNoDocument bytes
  Tells goes_on NotText = OfText IsNoText bytes
  Tells goes_on TooDeep = GoesTo bytes IsDeep
  Tells goes_on TooLong = GoesTo bytes IsLong
  Tells goes_on LargeTag = GoesTo bytes IsLarge
  Tells goes_on Refused = (goes_on new ≡ false) × TookSome
  Tells goes_on (UnknownEncoding name) = IfSome bytes (IsOfUnknown name)
  Tells goes_on Read = Unit {0}
  Tells goes_on Memory = Unit {0}
