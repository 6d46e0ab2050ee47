-- No value in the JSON of a catalogue is a float.
use Rattle.std.proofs.Common.{◌≡◌, false, ℕ, List, refl}
use Rattle.serde_json.specs.Data.{string}
use Rattle.serde_json.specs.Written.{has_float}
use Rattle.onix_terms.specs.declared.territory.Territory.{Territory}
use Rattle.onix_records.specs.declared.parts.Price.{Price}
use Rattle.onix_records.specs.declared.parts.ProductSupply.{ProductSupply}
use Rattle.onix_records.specs.declared.parts.SupplyDetail.{SupplyDetail}
use Rattle.catalogue_rules.specs.Records.{ByReference, records_of}
use Rattle.catalogue_rules.specs.declared.entry.Entry.{Entry}
use Rattle.desk_http.specs.CatalogueJson.{catalogue, detail, entry, identifier, party, price, supply, territory}
use Rattle.desk_http.specs.Json.{day}
use Rattle.desk_http.proofs.NoFloats.{list_has_none, null_has_none}

territory_has_none : (t : Territory) → has_float (territory t) ≡ false
territory_has_none t = rw (list_has_none string (λ _. refl) t.excluded, list_has_none string (λ _. refl) t.included) refl

price_has_none : (p : Price) → has_float (price p) ≡ false
price_has_none p = rw (null_has_none day (λ _. refl) p.from, territory_has_none p.territory, null_has_none day (λ _. refl) p.until) refl

detail_has_none : (d : SupplyDetail) → has_float (detail d) ≡ false
detail_has_none d = rw (list_has_none price price_has_none d.prices, null_has_none party (λ _. refl) d.supplier.party, null_has_none string (λ _. refl) d.unpriced) refl

supply_has_none : (s : ProductSupply) → has_float (supply s) ≡ false
supply_has_none s = rw (list_has_none detail detail_has_none s.details, territory_has_none s.market) refl

entry_has_none : (e : List ℕ × Entry) → has_float (entry e) ≡ false
entry_has_none (reference, e) = rw (list_has_none identifier (λ _. refl) e.ids, list_has_none supply supply_has_none e.supplies) refl

pub catalogue_has_none : (series : List ℕ) (m : ByReference) → has_float (catalogue series m) ≡ false
catalogue_has_none series m = rw (list_has_none entry entry_has_none (records_of m)) refl
