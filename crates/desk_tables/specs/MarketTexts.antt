-- The texts of the countries of territories, as columns keep them.
use Rattle.std.specs.Prelude.{◌≡◌, List, map}
use Rattle.onix_terms.specs.Territory.{countries_text}
use Rattle.onix_terms.specs.declared.territory.Territory.{Territory}
use Rattle.desk_tables.specs.declared.offers.OfferRow as typed
use Rattle.desk_tables.specs.declared.prices.PriceRow as typed_price
use Rattle.desk_tables.specs.declared.rows.written.TerritoryTexts.{TerritoryTexts}

abbrev pub texts_of : Territory → TerritoryTexts
texts_of territory = record
    { included = countries_text territory.included; excluded = countries_text territory.excluded }

-- one for each row
abbrev pub AreOfferTexts : List typed.OfferRow → List TerritoryTexts → Type 0
AreOfferTexts rows texts = texts ≡ map (λ r. texts_of r.market) rows

-- the texts of the territories of prices, row by row
abbrev pub ArePriceTexts : List typed_price.PriceRow → List TerritoryTexts → Type 0
ArePriceTexts rows texts = texts ≡ map (λ r. texts_of r.price.territory) rows
