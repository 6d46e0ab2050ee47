-- What a list of records says as a message, computed; the laws of messages tie it to the grammar.
use Rattle.std.specs.Prelude.{ℕ, List, [], ◌∷◌, ◌+◌, ◌==◌, ◌&&◌, Bool, true, false, suc, Option}
use Rattle.std.specs.Prelude.{Some, None, if◌then◌else◌, length, nat_lt}
use Rattle.std.specs.Option.{option_map_or}
use Rattle.onix_terms.specs.Options.{◌>>=◌}
use Rattle.onix_records.specs.Grammar.{is_counted, may_follow, most_records}
use Rattle.onix_records.specs.Opening.{opening_of}
use Rattle.onix_records.specs.Row.{message_row, row_of}
use Rattle.onix_records.specs.declared.parts.Header.{Header}
use Rattle.onix_records.specs.declared.parts.Price.{Price}
use Rattle.onix_records.specs.declared.parts.Product.{Product}
use Rattle.onix_records.specs.declared.parts.ProductSupply.{ProductSupply}
use Rattle.onix_records.specs.declared.parts.SupplyDetail.{SupplyDetail}
use Rattle.onix_records.specs.declared.row.Opening.{Opening}
use Rattle.onix_records.specs.declared.row.Row.{Row}
use Rattle.onix_records.specs.declared.row.Row.TheVariants as row

-- the row of a record, if it may come after the last one and so many records
abbrev pub next_row : Opening → Row → ℕ → List (List ℕ) → Option Row
next_row o last before fields = do
  r ← row_of o fields
  if nat_lt before most_records && (may_follow last r && is_counted r before) then Some r else None

-- the rows of records, as far as each may come next
unfoldable pub front_rows : Opening → Row → ℕ → List (List (List ℕ)) → List Row
front_rows o last before [] = []
front_rows o last before (r ∷ records) =
    option_map_or (λ x. x ∷ front_rows o x (suc before) records) (next_row o last before r) []

-- the parts that rows make, of each kind those that stand in no other
pub record PartLists : Type 0 where
  pub products : List Product
  pub supplies : List ProductSupply
  pub details : List SupplyDetail
  pub prices : List Price

-- no parts
abbrev pub no_parts : PartLists
no_parts = record { products = []; supplies = []; details = []; prices = [] }

-- Each part takes those after it that belong to it.

-- a product takes supplies
abbrev pub with_product : Product → PartLists → PartLists
with_product p g = record {
  products = record p { supplies = g.supplies } ∷ g.products;
  supplies = [];
  details = [];
  prices = [];
}

-- a supply takes details
abbrev pub with_supply : ProductSupply → PartLists → PartLists
with_supply s g = record {
  products = g.products;
  supplies = record s { details = g.details } ∷ g.supplies;
  details = [];
  prices = [];
}

-- a detail takes prices
abbrev pub with_detail : SupplyDetail → PartLists → PartLists
with_detail d g = record {
  products = g.products;
  supplies = g.supplies;
  details = record d { prices = g.prices } ∷ g.details;
  prices = [];
}

-- a price takes nothing
abbrev pub with_price : Price → PartLists → PartLists
with_price p g = record {
  products = g.products;
  supplies = g.supplies;
  details = g.details;
  prices = p ∷ g.prices;
}

-- rows from the last to the first: each takes the parts after it that belong to it
unfoldable pub parts_of : List Row → PartLists
parts_of [] = no_parts
parts_of (row.Message h ∷ rows) = parts_of rows
parts_of (row.Product p ∷ rows) = with_product p (parts_of rows)
parts_of (row.ProductSupply s ∷ rows) = with_supply s (parts_of rows)
parts_of (row.SupplyDetail d ∷ rows) = with_detail d (parts_of rows)
parts_of (row.Price p ∷ rows) = with_price p (parts_of rows)
parts_of (row.EndMessage n ∷ rows) = no_parts

-- whether the last of a row and those after it is an end
abbrev pub ends : Row → List Row → Bool
ends (row.EndMessage n) [] = true
ends _ [] = false
ends first (r ∷ rows) = ends r rows

-- the header and the contents of a message that begins so, with these records after the first
unfoldable pub message_after : Opening → List (List (List ℕ)) → Option (Header × List Product)
message_after o rest =
    let rows = front_rows o (message_row o) 1 rest in
    if (length rows == length rest) && ends (message_row o) rows
    then Some (o.header, (parts_of rows).products) else None

-- the header and the contents of the message that records are
unfoldable pub message_of : List (List (List ℕ)) → Option (Header × List Product)
message_of [] = None
message_of (first ∷ rest) = do
  o ← opening_of first
  message_after o rest

-- the row at which records stop being a message
unfoldable pub bad_row : List (List (List ℕ)) → ℕ
bad_row [] = 1
bad_row (first ∷ rest) =
    option_map_or (λ o. 2 + length (front_rows o (message_row o) 1 rest)) (opening_of first) 1
