-- How deep the JSON of a catalogue nests.
use Rattle.std.proofs.Common.{◌≤◌, ℕ, List, Option, Some, None, arith, refl}
use Rattle.serde_json.specs.Data.{depth, string}
use Rattle.onix_terms.specs.declared.party.Party.{Party}
use Rattle.onix_terms.specs.declared.territory.Territory.{Territory}
use Rattle.onix_records.specs.declared.parts.Price.{Price}
use Rattle.onix_records.specs.declared.parts.ProductSupply.{ProductSupply}
use Rattle.onix_records.specs.declared.parts.SupplyDetail.{SupplyDetail}
use Rattle.catalogue_rules.specs.Records.{ByReference, records_of}
use Rattle.catalogue_rules.specs.declared.entry.Entry.{Entry}
use Rattle.desk_http.specs.CatalogueJson.{catalogue, detail, entry, identifier, party, price, supply, territory}
use Rattle.desk_http.specs.Json.{day, or_null}
use Rattle.desk_http.proofs.Depths.{list_depth, null_depth}

party_depth : (p : Option Party) → depth (or_null party p) ≤ 1
party_depth None = omega arith
party_depth (Some p) = omega arith

territory_depth : (t : Territory) → depth (territory t) ≤ 2
territory_depth t = omega (arith, list_depth string 0 (λ _. omega arith) t.excluded, list_depth string 0 (λ _. omega arith) t.included)

price_depth : (p : Price) → depth (price p) ≤ 3
price_depth p = rw (null_depth day (λ _. refl) p.from, null_depth day (λ _. refl) p.until) (omega (arith, territory_depth p.territory))

detail_depth : (d : SupplyDetail) → depth (detail d) ≤ 5
detail_depth d = rw (null_depth string (λ _. refl) d.unpriced) (omega (arith, list_depth price 3 price_depth d.prices, party_depth d.supplier.party))

supply_depth : (s : ProductSupply) → depth (supply s) ≤ 7
supply_depth s = omega (arith, list_depth detail 5 detail_depth s.details, territory_depth s.market)

entry_depth : (e : List ℕ × Entry) → depth (entry e) ≤ 9
entry_depth (reference, e) = omega (arith, list_depth identifier 1 (λ _. omega arith) e.ids, list_depth supply 7 supply_depth e.supplies)

pub catalogue_depth : (series : List ℕ) (m : ByReference) → depth (catalogue series m) ≤ 11
catalogue_depth series m = omega (arith, list_depth entry 9 entry_depth (records_of m))
