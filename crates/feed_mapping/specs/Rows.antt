-- The records that are written, as rows of a message.
use Rattle.std.specs.Prelude.{◌≡◌, ◌+◌, ℕ, true, List, [], ◌∷◌, ◌++◌, Some, if◌then◌else◌, codes}
use Rattle.std.specs.Prelude.{decimal, length, map, Option, None, ⊤}
use Rattle.std.specs.List.{AllByRecursion, list_all}
use Rattle.std.specs.Str.{is_utf8}
use Rattle.feed_outline.specs.Nodes.{Nodes}
use Rattle.onix_records.specs.PartRows.{SuppliesHaveDetails, content_rows}
use Rattle.onix_records.specs.Row.{row_of}
use Rattle.onix_records.specs.declared.parts.Header.{Header}
use Rattle.onix_records.specs.declared.parts.Product.{Product}
use Rattle.onix_records.specs.declared.row.Form.TheVariants.{Two}
use Rattle.onix_records.specs.declared.row.Opening.{Opening}
use Rattle.feed_terms.specs.Laws.{HasCodes}
use Rattle.feed_terms.specs.declared.term.Term.{Term}
use Rattle.feed_mapping.specs.Header.{Heading, message_fields}
use Rattle.feed_mapping.specs.Products.{reference_in}
use Rattle.feed_mapping.specs.Records.{is_field}

abbrev pub with_number : ℕ → Header → Header
with_number n h = record h { number = Some n }

-- what a record Message says, but for its number
abbrev pub numbered : ℕ → Opening → Opening
numbered n o = record o { header = with_number n o.header }

-- the record with which the part behind so many begins
abbrev pub part_record : Heading → Nodes → ℕ → List (List ℕ)
part_record h header before =
    codes "Message" ∷ message_fields h.sender h.addressee (decimal (h.number + before)) header

-- a message: its first record, those of its products, and the one that ends it, which counts the
-- records before it
abbrev pub message_records : List (List ℕ) → List (List (List ℕ)) → List (List (List ℕ))
message_records first records =
    first ∷ (records ++ (codes "EndMessage" ∷ decimal (1 + length records) ∷ []) ∷ [])

-- the records are the rows of these products in a message that begins so, and each of their
-- supplies has a SupplyDetail; their fields are UTF-8
pub record AreProducts (o : Opening) (records : List (List (List ℕ)))
    (products : List Product) : Type 0 where
  pub reads : map (row_of o) records ≡ map Some (content_rows products)
  pub details : AllByRecursion SuppliesHaveDetails products
  pub utf8 : list_all (list_all is_utf8) records ≡ true

-- the reference of a product that is not left out
abbrev pub references_of : Nodes → List (List ℕ)
references_of nodes = if is_field (reference_in nodes) then reference_in nodes ∷ [] else []

-- records are the rows of products of these references
abbrev pub AreOf : Opening → List (List (List ℕ)) → List (List ℕ) → Type 0
AreOf o records references =
    (products : List Product) × (map (λ p. p.reference) products ≡ references)
    × AreProducts o records products

-- with terms, a message has a minimum order quantity where a Price says one, and the types of their
-- net prices are codes
abbrev pub MayCompute : Opening → Option (List Term) → Type 0
MayCompute o None = ⊤
MayCompute o (Some terms) = (o.form ≡ Two) × HasCodes terms

-- the types of their net prices are codes
abbrev pub HaveCodes : Option (List Term) → Type 0
HaveCodes None = ⊤
HaveCodes (Some terms) = HasCodes terms
