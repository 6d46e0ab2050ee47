-- A Product by itself: its reference, its NotificationType and its identifiers.
use Rattle.std.specs.Prelude.{◌≡◌, ℕ, Bool, true, false, ◌&&◌, ◌||◌, ◌==◌, not, filter, if◌then◌else◌}
use Rattle.std.specs.Prelude.{List, [], ◌∷◌, Option, Some, None, codes, is_some}
use Rattle.std.specs.List.{flat_map, list_any}
use Rattle.std.specs.Char.{is_ascii_digit}
use Rattle.std.specs.Option.{option_map_or}
use Rattle.std.specs.Str.{bytes_eq, chars, is_utf8}
use Rattle.feed_xml.specs.Characters.{within}
use Rattle.feed_xml.specs.Grammar.{is_filled}
use Rattle.feed_outline.specs.Nodes.{Nodes}
use Rattle.onix_terms.specs.Code.{code2_of, isbn13_of}
use Rattle.feed_mapping.specs.Elements.{Composite, each_at, text_at}
use Rattle.feed_mapping.specs.Notes.{Reason, Reasons}
use Rattle.feed_mapping.specs.Parties.{Pair}
use Rattle.feed_mapping.specs.Records.{Fields, first_some, is_field, parsed_term}
use Rattle.feed_mapping.specs.Records.{unless, invalid}
use Rattle.feed_mapping.specs.Strangers.{has_own_stranger, has_stranger_in}
use Rattle.feed_mapping.specs.declared.notes.Foreign.TheVariants as other
use Rattle.feed_mapping.specs.declared.notes.ReasonKind.{ReasonKind}
use Rattle.feed_mapping.specs.declared.notes.ReasonKind.TheVariants.{Foreign, Wrong}
use Rattle.feed_mapping.specs.declared.notes.Wrong.TheVariants as bad

-- ---- one identifier

-- a GTIN-13 or an ISBN-13
abbrev pub is_gtin_type : List ℕ → Bool
is_gtin_type id_type = bytes_eq id_type (codes "03") || bytes_eq id_type (codes "15")

-- thirteen digits, as an ISBN-13 has
abbrev pub is_thirteen : List ℕ → Bool
is_thirteen text = is_some (isbn13_of text)

-- hyphens, U+002D, U+00AD, U+2010 to U+2015 and U+2212, and spaces, U+0020, U+00A0, U+2009, U+202F
abbrev pub is_mark : ℕ → Bool
is_mark c =
    (c == 45) || ((c == 173) || (within 8208 8213 c || ((c == 8722)
    || ((c == 32) || ((c == 160) || ((c == 8201) || (c == 8239)))))))

module _ (value : List ℕ) where
  -- the characters of a value but hyphens and spaces
  abbrev pub without_marks : List ℕ
  without_marks = filter (λ c. not (is_mark c)) (chars value)

  -- the thirteen digits that are left of it so, where that is so
  abbrev pub thirteen_of : List ℕ
  thirteen_of = if is_utf8 value && is_thirteen without_marks then without_marks else value

-- the value of an identifier as it is written: of a GTIN-13 or an ISBN-13 the digits alone
abbrev pub written_value : List ℕ → List ℕ → List ℕ
written_value id_type value =
    if is_gtin_type id_type && not (is_thirteen value) then thirteen_of value else value

-- why the desk would not take an identifier of this type that is written so, and stands so
abbrev pub pair_reason : List ℕ → List ℕ → List ℕ → Option Reason
pair_reason id_type written stands =
    first_some (invalid (parsed_term code2_of) bad.IdentifierType id_type
    ∷ unless (is_field written) bad.IdentifierValue stands ∷ [])

-- what is wrong with an identifier is foreign beside a GTIN-13 or an ISBN-13, by which the product
-- is found
abbrev pub beside_isbn : ReasonKind → ReasonKind
beside_isbn (Wrong bad.IdentifierType) = Foreign other.IdentifierType
beside_isbn (Wrong bad.IdentifierValue) = Foreign other.IdentifierValue
beside_isbn kind = kind

abbrev pub graded : Bool → Reason → Reason
graded is_found r = record { kind = if is_found then beside_isbn r.kind else r.kind; text = r.text }

module _ (identifier : Composite) where
  -- the type and the value of an identifier, each empty where it is absent
  abbrev pub type_of : List ℕ
  type_of = text_at "ProductIDType" identifier.below

  abbrev pub value_of : List ℕ
  value_of = text_at "IDValue" identifier.below

  abbrev pub value_written : List ℕ
  value_written = written_value type_of value_of

  -- an identifier with neither is as none
  abbrev pub is_there : Bool
  is_there = is_filled type_of || is_filled value_of

  -- why an identifier is left out, where it is
  abbrev pub identifier_reason : Option Reason
  identifier_reason = if is_there then pair_reason type_of value_written value_of else None

  -- the type and the value of one that is written
  abbrev pub right_pair : Fields
  right_pair =
      option_map_or (λ reason. []) identifier_reason
      (if is_there then type_of ∷ value_written ∷ [] else [])

  -- whether the desk would find the product by it as an ISBN
  abbrev pub is_isbn : Bool
  is_isbn = is_gtin_type type_of && is_thirteen value_written

  -- a note on one that the desk would not take
  abbrev pub identifier_note : Bool → List Reason
  identifier_note is_found =
      option_map_or (λ reason. graded is_found reason ∷ [])
      identifier_reason []

-- the pair 01 and the RecordReference stands for identifiers, where there are none
abbrev pub or_reference : List ℕ → Fields → Fields
or_reference reference [] = codes "01" ∷ reference ∷ []
or_reference reference (id_type ∷ pairs) = id_type ∷ pairs

abbrev pub are_some : Fields → Bool
are_some [] = false
are_some (id_type ∷ pairs) = true

-- ---- its record

abbrev pub is_code : List ℕ → Bool
is_code text = is_some (parsed_term code2_of text)

-- The NotificationType of a product that is written without supplies, so that the desk drops those
-- that it has: an update, 04, would keep them.
abbrev pub dropping : List ℕ → List ℕ
dropping notification =
    if not (is_code notification) || bytes_eq notification (codes "04") then codes "03"
    else notification

module _ (nodes : Nodes) where
  -- the RecordReference, empty where there is none
  abbrev pub reference_in : List ℕ
  reference_in = text_at "RecordReference" nodes

  abbrev pub notification_in : List ℕ
  notification_in = text_at "NotificationType" nodes

  -- a Product that deletes a record has NotificationType 05
  abbrev pub is_deletion : Bool
  is_deletion = bytes_eq notification_in (codes "05")

  abbrev pub identifiers_in : List Composite
  identifiers_in = each_at "ProductIdentifier" nodes

  -- the types and values of those that the desk would take
  abbrev pub right_pairs : Fields
  right_pairs = flat_map right_pair identifiers_in

  abbrev pub has_isbn : Bool
  has_isbn = list_any is_isbn identifiers_in

  -- notes on the others
  abbrev pub identifier_notes : List Reason
  identifier_notes = flat_map (λ i. identifier_note i has_isbn) identifiers_in

-- the record of a Product of this NotificationType, with these types and values
abbrev pub product_record : List ℕ → Fields → Nodes → Fields
product_record notification pairs nodes =
    codes "Product" ∷ reference_in nodes ∷ notification ∷ or_reference (reference_in nodes) pairs

module _ (nodes : Nodes) where
  -- of a product that is emptied
  abbrev pub emptied_record : Fields
  emptied_record = product_record (dropping (notification_in nodes)) (right_pairs nodes) nodes

  -- of one that is too large with its identifiers
  abbrev pub bare_record : Fields
  bare_record = product_record (dropping (notification_in nodes)) [] nodes

-- an element of another namespace is called as one that counts there: nothing of a deletion but its
-- identifiers is looked at
abbrev pub is_strange : Option Pair → Nodes → Bool
is_strange supplier nodes =
    if is_deletion nodes then has_stranger_in (codes "ProductIdentifier") nodes
    else has_own_stranger supplier nodes

-- why it is emptied, whatever its supplies are
abbrev pub own_reasons : Option Pair → Fields → Nodes → Reasons
own_reasons supplier pairs nodes =
    invalid (parsed_term code2_of) bad.NotificationType (notification_in nodes)
    ∷ unless (is_deletion nodes || are_some pairs) bad.NoIdentifierLeft []
    ∷ unless (not (is_strange supplier nodes)) bad.OtherNamespace [] ∷ []

abbrev pub own_reason : Option Pair → Nodes → Option Reason
own_reason supplier nodes = first_some (own_reasons supplier (right_pairs nodes) nodes)

-- ---- what a call gives

-- what is written in place of a value, or nothing where it is that
abbrev pub MayBe : Option (List ℕ) → List ℕ → List ℕ → Type 0
MayBe None written value = written ≡ value
MayBe (Some digits) written value = written ≡ digits

-- a character that is a digit, as a byte
abbrev pub digit_byte : ℕ → ℕ
digit_byte c = if is_ascii_digit c then c else 0
