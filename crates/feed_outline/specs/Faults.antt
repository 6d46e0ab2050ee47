-- Why no message was read.
use Rattle.std.specs.Prelude.{◌≡◌, ℕ, true, false, List, [], ◌∷◌, ◌++◌, Option, Some, None}
use Rattle.std.specs.Prelude.{Ok, Err, IfSome}
use Rattle.std.specs.List.{list_all}
use Rattle.feed_xml.specs.declared.fault.Fault.TheVariants.{Malformed, TooDeep, TooLong, LargeTag}
use Rattle.feed_xml.specs.declared.fault.Fault.TheVariants.{NotText}
use Rattle.feed_xml.specs.declared.fault.Fault.TheVariants.{Refused, UnknownEncoding}
use Rattle.feed_xml.specs.Grammar.{Token}
use Rattle.feed_xml.specs.EncodingNames.{OfText, IsOfUnknown}
use Rattle.feed_xml.specs.Faults.{GoesTo}
use Rattle.feed_xml.specs.Limits.{Bound, Follows, IsDeep, IsLarge, IsLong}
use Rattle.feed_xml.specs.Documents.{IsNoDocument, IsNoText}
use Rattle.feed_xml.specs.Tree.{Content}
use Rattle.feed_xml.specs.Trees.{IsTree}
use Rattle.feed_outline.specs.declared.dialect.Wrong.{Wrong}
use Rattle.feed_outline.specs.declared.message_reading.Fault.{Fault}
use Rattle.feed_outline.specs.declared.message_reading.Fault.TheVariants.{Document, Message, Reference}
use Rattle.feed_outline.specs.declared.message_reading.Fault.TheVariants.{TooLarge}
use Rattle.feed_outline.specs.Dialect.{Dialect}
use Rattle.feed_outline.specs.Names.{Word}
use Rattle.feed_outline.specs.Nodes.{is_known, nodes_in}
use Rattle.feed_outline.specs.Sizes.{has_large}
use Rattle.feed_outline.specs.Roots.{root_of}

-- Each reference so far stands for something, and in each message that goes on so, and whose
-- references all do, a Header or Product is too large.
abbrev pub IsTooLarge : List Word → Bound
IsTooLarge vocabulary tokens rest =
    (d : Dialect) × (root_of tokens ≡ Some (Ok d)) × (list_all is_known tokens ≡ true)
    × ((more : List Token) (name : List ℕ) (inside : Content)
    → IsTree (tokens ++ more) name inside → list_all is_known (tokens ++ more) ≡ true
    → has_large (nodes_in vocabulary d [] inside) ≡ true)

-- the first tag follows, which is that of a refused root
abbrev pub IsRefusedRoot : Wrong → Bound
IsRefusedRoot wrong tokens rest =
    (root_of tokens ≡ None)
    × ((tag : Token) × Follows tag rest × (root_of (tag ∷ []) ≡ Some (Err wrong)))

-- a reference follows that stands for nothing
abbrev pub IsUnknown : Bound
IsUnknown tokens rest = (token : Token) × Follows token rest × (is_known token ≡ false)

module _ (vocabulary : List Word) (bytes : Option (List ℕ)) where
  -- Why a message is refused. Malformed: what the reader has left is no document. No text: its
  -- bytes are none. Unknown encoding: its declaration names one that is none of those. The others:
  -- the text begins with tokens, and there it goes beyond that bound, or there is the tag of another
  -- root or release, or a reference that stands for nothing; or those tokens tell of a Header or
  -- Product that is too large. What comes of a failed read or of want of memory needs no reason; no
  -- other document is refused.
  abbrev pub Explains : Fault → Type 0
  Explains (Document Malformed) = OfText IsNoDocument bytes
  Explains (Document NotText) = OfText IsNoText bytes
  Explains (Document TooDeep) = GoesTo bytes IsDeep
  Explains (Document TooLong) = GoesTo bytes IsLong
  Explains (Document LargeTag) = GoesTo bytes IsLarge
  Explains (Document (UnknownEncoding name)) = IfSome bytes (IsOfUnknown name)
  Explains (Document Refused) = ⊥
  Explains (Document other) = Unit {0}
  Explains (Message wrong) = GoesTo bytes (IsRefusedRoot wrong)
  Explains Reference = GoesTo bytes IsUnknown
  Explains TooLarge = GoesTo bytes (IsTooLarge vocabulary)
