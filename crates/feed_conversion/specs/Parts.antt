-- The parts that come of a message, and what has become of each of its products.
use Rattle.std.specs.Prelude.{◌≡◌, ◌⊎◌, ◌≤◌, ℕ, ◌+◌, ◌-◌, Bool, false, List, [], ◌∷◌, ◌++◌, ⊤}
use Rattle.std.specs.Prelude.{Option, Some, None, Ok, count_by, map, length}
use Rattle.std.specs.List.{AllByRecursion, flat_map}
use Rattle.feed_outline.specs.Nodes.{Nodes}
use Rattle.feed_mapping.specs.Elements.{Composite}
use Rattle.feed_mapping.specs.Header.{Heading, heading_in}
use Rattle.feed_mapping.specs.Notes.{Reason, wrong}
use Rattle.feed_mapping.specs.ProductRecords.{Variant, variants}
use Rattle.feed_mapping.specs.Rows.{references_of}
use Rattle.feed_mapping.specs.declared.notes.Wrong.TheVariants.{TooLarge}
use Rattle.feed_conversion.specs.Conversion.{Options, header_in, products_in, settings}
use Rattle.feed_conversion.specs.Messages.{empty_messages, fits, message_text}
use Rattle.feed_conversion.specs.Packing.{Converted, Settings}
use Rattle.feed_conversion.specs.Taken.{AreTaken}
use Rattle.feed_conversion.specs.Tallies.{counts_wrong}

-- what has become of a product: it stands in a part in one of its variants, or in none
pub record Placing : Type 0 where
  pub product : Composite
  pub variant : Option Variant

-- a product in the variant in which it stands in a part
pub record Placed : Type 0 where
  pub product : Composite
  pub variant : Variant

abbrev pub placed : Composite → Variant → Placed
placed c f = record { product = c; variant = f }

abbrev pub placed_by : Option Variant → Composite → List Placed
placed_by None c = []
placed_by (Some f) c = placed c f ∷ []

-- the product, where it stands in a part
abbrev pub placed_of : Placing → List Placed
placed_of f = placed_by f.variant f.product

-- the notes on a product: those of its variant, and of one that is in no part that it is too large
abbrev pub notes_by : Option Variant → List Reason
notes_by None = wrong TooLarge [] ∷ []
notes_by (Some f) = f.notes

-- of some variants this is the first that is not too large for the part behind so many by itself
abbrev pub IsFirst : Settings → ℕ → Option Variant → List Variant → Type 0
IsFirst t before variant [] = variant ≡ None
IsFirst t before variant (f ∷ more) =
    (variant ≡ Some f)
    ⊎ ((fits (t.first before) f.records ≡ false) × IsFirst t before variant more)

-- a product stands in the first of its variants that is not too large for a part that can be
abbrev pub IsRight : Settings → Placing → Type 0
IsRight t f =
    (before : ℕ) × (before ≤ t.most)
    × IsFirst t before f.variant (variants t.opening t.supplies f.product.below)

-- a product counts as a wrong one as it is placed
abbrev pub is_placed_wrong : Placing → Bool
is_placed_wrong f = counts_wrong (notes_by f.variant)

-- the records of a part behind its first one
abbrev pub placed_records : List Placed → List (List (List ℕ))
placed_records products = flat_map (λ p. p.variant.records) products

-- the texts of parts with these products, the first of which is behind so many
abbrev pub part_texts : Settings → ℕ → List (List Placed) → List (List ℕ)
part_texts t before [] = []
part_texts t before (p ∷ parts) =
    message_text (t.first before) (placed_records p) ∷ part_texts t (before + 1) parts

-- a part behind so many has no room for the first product of the next one
abbrev pub IsFull : Settings → ℕ → List Placed → List Placed → Type 0
IsFull t before part [] = ⊥
IsFull t before part (p ∷ next) =
    fits (t.first before) (placed_records part ++ p.variant.records) ≡ false

-- and so each but the last
abbrev pub AreFull : Settings → ℕ → List (List Placed) → Type 0
AreFull t before [] = ⊤
AreFull t before (part ∷ []) = ⊤
AreFull t before (part ∷ next ∷ parts) =
    IsFull t before part next × AreFull t (before + 1) (next ∷ parts)

-- the references of the products of a part
abbrev pub references_in : List Placed → List (List ℕ)
references_in part = flat_map (λ p. references_of p.product.below) part

-- What came of the elements of a message: its products, each once and in order, stand in its parts,
-- one after the other and as many as there is room for, each in its right variant, and as many of
-- them are wrong as are counted: one that is in no part is. The parts that are left over have none.
-- The desk takes each part, the first as the message of the number in the heading and each later
-- one as that of the next, with just its products.
pub record AreParts (o : Options) (nodes : Nodes) (made : Converted) : Type 0 where
  pub header : Composite
  pub counts : header_in nodes ≡ Some header
  pub heading : Heading
  pub says : heading_in o.choices header.below ≡ Ok heading
  pub placings : List Placing
  pub all : map (λ f. f.product) placings ≡ products_in nodes
  pub right : AllByRecursion (IsRight (settings o heading header.below)) placings
  pub wrong : count_by is_placed_wrong placings ≡ made.counted.wrong
  pub parts : List (List Placed)
  pub stand : flat_map (λ p. p) parts ≡ flat_map placed_of placings
  pub full : AreFull (settings o heading header.below) 0 parts
  pub texts : made.parts
      ≡ part_texts (settings o heading header.below) 0 parts
      ++ empty_messages (settings o heading header.below).first (length parts)
      (o.choices.parts - length parts)
  pub taken : AreTaken heading.number made.parts (map references_in parts)
