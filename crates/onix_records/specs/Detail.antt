-- A detail of a supply: the row SupplyDetail, as it is read and as it is written, and the records
-- of a detail.
use Rattle.std.specs.Prelude.{ℕ, List, [], ◌∷◌, Option, Some, None, codes, map, ◌++◌}
use Rattle.std.specs.Option.{unwrap_or}
use Rattle.onix_terms.specs.Code.{code2_of}
use Rattle.onix_terms.specs.Options.{◌>>=◌, nonempty}
use Rattle.onix_terms.specs.declared.party.Party.{Party}
use Rattle.onix_records.specs.Fields.{optional, optional_party, party_fields}
use Rattle.onix_records.specs.Price.{price_record}
use Rattle.onix_records.specs.declared.parts.SupplyDetail.{SupplyDetail}

-- a supplier has a party or a name
abbrev pub supplier_name : Option Party → List ℕ → Option (List ℕ)
supplier_name None name = nonempty name
supplier_name (Some p) name = Some name

-- what the six fields after the name say
abbrev pub detail_from : List ℕ → List ℕ → List ℕ → List ℕ → List ℕ → List ℕ → Option SupplyDetail
detail_from role id_type id_value name availability unpriced = do
  r ← code2_of role
  p ← optional_party id_type id_value
  n ← supplier_name p name
  a ← code2_of availability
  u ← optional code2_of unpriced
  Some (record {
    supplier = record { role = r; party = p; name = n };
    availability = a;
    unpriced = u;
    prices = [];
  })

-- a supplier, an availability and, if there is one, an UnpricedItemType
unfoldable pub detail_of : List (List ℕ) → Option SupplyDetail
detail_of (role ∷ id_type ∷ id_value ∷ name ∷ availability ∷ unpriced ∷ []) =
    detail_from role id_type id_value name availability unpriced
detail_of _ = None

-- a detail's row
abbrev pub detail_record : SupplyDetail → List (List ℕ)
detail_record d =
    codes "SupplyDetail" ∷ d.supplier.role
    ∷ (party_fields d.supplier.party
    ++ (d.supplier.name ∷ d.availability ∷ unwrap_or d.unpriced [] ∷ []))

-- a detail's record and those of its prices
unfoldable pub detail_records : SupplyDetail → List (List (List ℕ))
detail_records d = detail_record d ∷ map price_record d.prices
