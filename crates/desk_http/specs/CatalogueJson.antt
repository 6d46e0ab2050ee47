-- The JSON of a catalogue, under the names that ONIX has for its parts.
use Rattle.std.specs.Prelude.{ℕ, List, [], ◌∷◌}
use Rattle.serde_json.specs.Data.{Data, boolean, string}
use Rattle.onix_terms.specs.declared.party.Party.{Party}
use Rattle.onix_terms.specs.declared.territory.Territory.{Territory}
use Rattle.onix_records.specs.declared.parts.Price.{Price}
use Rattle.onix_records.specs.declared.parts.ProductIdentifier.{ProductIdentifier}
use Rattle.onix_records.specs.declared.parts.ProductSupply.{ProductSupply}
use Rattle.onix_records.specs.declared.parts.SupplyDetail.{SupplyDetail}
use Rattle.catalogue_rules.specs.Records.{ByReference, records_of}
use Rattle.catalogue_rules.specs.declared.entry.Entry.{Entry}
use Rattle.desk_http.specs.Json.{amount, answered, count, day, list_of, object_of, or_null}

-- a type and a value
abbrev pub type_and_value : List ℕ → List ℕ → Data
type_and_value id_type id_value = list_of string (id_type ∷ id_value ∷ [])

-- an identifier of a product
abbrev pub identifier : ProductIdentifier → Data
identifier i = type_and_value i.id_type i.id_value

-- the identifier of a supplier
abbrev pub party : Party → Data
party p = type_and_value p.id_type p.id_value

-- where a price or a market holds
abbrev pub territory : Territory → Data
territory t = object_of (
    ("included", list_of string t.included) ∷ ("world", boolean t.world)
    ∷ ("excluded", list_of string t.excluded) ∷ [])

-- a price
abbrev pub price : Price → Data
price p = object_of (
    ("type", string p.price_type) ∷ ("amount", amount p.amount)
    ∷ ("currency", string p.currency) ∷ ("territory", territory p.territory)
    ∷ ("from", or_null day p.from) ∷ ("until", or_null day p.until)
    ∷ ("minimum", count p.minimum) ∷ [])

-- one supplier's availability of a product, and its prices
abbrev pub detail : SupplyDetail → Data
detail d = object_of (
    ("role", string d.supplier.role) ∷ ("supplier", or_null party d.supplier.party)
    ∷ ("name", string d.supplier.name) ∷ ("availability", string d.availability)
    ∷ ("unpriced", or_null string d.unpriced) ∷ ("prices", list_of price d.prices) ∷ [])

-- the supply of a product to a market
abbrev pub supply : ProductSupply → Data
supply s =
    object_of (("market", territory s.market) ∷ ("details", list_of detail s.details) ∷ [])

-- what a catalogue keeps under a reference
abbrev pub entry : List ℕ × Entry → Data
entry (reference, e) = object_of (
    ("reference", string reference) ∷ ("ids", list_of identifier e.ids)
    ∷ ("supplies", list_of supply e.supplies) ∷ [])

-- the catalogue of a series: its records in order of reference
abbrev pub catalogue : List ℕ → ByReference → Data
catalogue series m = answered "catalogue" (
    ("series", string series) ∷ ("records", list_of entry (records_of m)) ∷ [])
