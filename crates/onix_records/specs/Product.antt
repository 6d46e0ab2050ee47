-- A product: the row Product, as it is read and as it is written, and the records of products.
use Rattle.std.specs.Prelude.{ℕ, Bool, ◌||◌, bytes_eq, List, [], ◌∷◌, Option, Some, None, codes}
use Rattle.std.specs.List.{flat_map}
use Rattle.onix_terms.specs.Code.{code2_of}
use Rattle.onix_terms.specs.Options.{◌>>=◌, nonempty}
use Rattle.onix_records.specs.Supply.{supplies_records}
use Rattle.onix_records.specs.declared.parts.Product.{Product}
use Rattle.onix_records.specs.declared.parts.ProductIdentifier.{ProductIdentifier}

-- a type and a value that is not empty
abbrev pub identifier_of : List ℕ → List ℕ → Option ProductIdentifier
identifier_of kind value = do
  k ← code2_of kind
  v ← nonempty value
  Some (record { id_type = k; id_value = v })

-- whether a type of code list 5 is one by which an article is found: GTIN-13 (03) or ISBN-13 (15)
abbrev pub is_article_type : List ℕ → Bool
is_article_type id_type = bytes_eq id_type (codes "03") || bytes_eq id_type (codes "15")

-- pairs of a type and a value
unfoldable pub pairs_of : List (List ℕ) → Option (List ProductIdentifier)
pairs_of [] = Some []
pairs_of (kind ∷ []) = None
pairs_of (kind ∷ value ∷ rest) = do
  id ← identifier_of kind value
  ids ← pairs_of rest
  Some (id ∷ ids)

-- a reference, a NotificationType and one or more pairs
unfoldable pub product_of : List (List ℕ) → Option Product
product_of (reference ∷ notification ∷ kind ∷ pairs) = do
  r ← nonempty reference
  n ← code2_of notification
  ids ← pairs_of (kind ∷ pairs)
  Some (record { reference = r; notification = n; ids = ids; supplies = [] })
product_of _ = None

-- an identifier's type and value
abbrev pub identifier_fields : ProductIdentifier → List (List ℕ)
identifier_fields i = i.id_type ∷ i.id_value ∷ []

-- a product's row, as it is written
abbrev pub product_record : Product → List (List ℕ)
product_record p = codes "Product" ∷ p.reference ∷ p.notification ∷ flat_map identifier_fields p.ids

-- a product's record and those of its supplies
unfoldable pub product_records : Product → List (List (List ℕ))
product_records p = product_record p ∷ supplies_records p.supplies

-- the records of contents
unfoldable pub content_records : List Product → List (List (List ℕ))
content_records products = flat_map product_records products
