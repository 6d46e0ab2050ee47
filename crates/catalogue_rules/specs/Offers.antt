-- The offers of an article in the catalogue of a series.
use Rattle.std.specs.Prelude.{ℕ, Bool, ◌&&◌, List, [], map, if◌then◌else◌}
use Rattle.std.specs.List.{enumerate_from, flat_map, list_any}
use Rattle.std.specs.Str.{bytes_eq}
use Rattle.onix_records.specs.Product.{is_article_type}
use Rattle.onix_records.specs.declared.parts.ProductIdentifier.{ProductIdentifier}
use Rattle.onix_records.specs.declared.parts.ProductSupply.{ProductSupply}
use Rattle.onix_records.specs.declared.parts.SupplyDetail.{SupplyDetail}
use Rattle.onix_terms.specs.declared.territory.Territory.{Territory}
use Rattle.price_rules.specs.declared.offer.Offer.{Offer}
use Rattle.catalogue_rules.specs.Records.{ByReference, records_of}
use Rattle.catalogue_rules.specs.declared.entry.Entry.{Entry}

-- whether an identifier names the article: a GTIN-13 or an ISBN-13 with this value
abbrev pub is_article : List ℕ → ProductIdentifier → Bool
is_article isbn id = is_article_type id.id_type && bytes_eq id.id_value isbn

-- whether a record has such an identifier
abbrev pub has_article : List ℕ → Entry → Bool
has_article isbn e = list_any (is_article isbn) e.ids

-- the SupplyDetails of a supply, each with the market of the supply
abbrev pub supply_details : ProductSupply → List (Territory × SupplyDetail)
supply_details s = map (λ d. (s.market, d)) s.details

-- the SupplyDetails of a record, in order over its supplies
abbrev pub entry_details : List ProductSupply → List (Territory × SupplyDetail)
entry_details supplies = flat_map supply_details supplies

-- the offer that a SupplyDetail makes at a place
abbrev pub offer_of : List ℕ → List ℕ → ℕ × (Territory × SupplyDetail) → Offer
offer_of series reference p = record {
  series = series;
  reference = reference;
  place = p.0;
  supplier = p.1.1.supplier;
  availability = p.1.1.availability;
  market = p.1.0;
  prices = p.1.1.prices;
}

-- the offers of SupplyDetails, the first of which has this place
abbrev pub offers_from : List ℕ → List ℕ → ℕ → List (Territory × SupplyDetail) → List Offer
offers_from series reference place details =
    map (offer_of series reference) (enumerate_from place details)

-- the offers of a record: each SupplyDetail at its place, from 1
abbrev pub entry_offers : List ℕ → List ℕ → Entry → List Offer
entry_offers series reference e = offers_from series reference 1 (entry_details e.supplies)

-- the offers that a record has of the article: all, or none where it has another article
abbrev pub record_offers : List ℕ → List ℕ → List ℕ × Entry → List Offer
record_offers series isbn r = if has_article isbn r.1 then entry_offers series r.0 r.1 else []

-- the article's offers in a catalogue: of each record, in order of reference, that has an
-- identifier of type 03 or 15 with this value, each SupplyDetail with its place
abbrev pub offers_in : List ℕ → ByReference → List ℕ → List Offer
offers_in series m isbn = flat_map (record_offers series isbn) (records_of m)
