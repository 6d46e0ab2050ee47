-- The rows that are written of records, at the end of their tables.
use Rattle.std.specs.Prelude.{ℕ, List, [], ◌∷◌}
use Rattle.std.specs.List.{flat_map}
use Rattle.onix_records.specs.declared.parts.Product.{Product}
use Rattle.onix_records.specs.declared.parts.ProductIdentifier.{ProductIdentifier}
use Rattle.onix_records.specs.declared.parts.ProductSupply.{ProductSupply}
use Rattle.desk_tables.specs.declared.articles.ArticleRow.{ArticleRow}
use Rattle.desk_tables.specs.declared.offers.OfferRow as typed
use Rattle.desk_tables.specs.declared.prices.PriceRow as typed_price
use Rattle.desk_tables.specs.declared.records.RecordRow.{RecordRow}
use Rattle.desk_tables.specs.RecordChanges.{with_articles, with_offers, with_prices, with_records}
use Rattle.desk_tables.specs.Rows.{DeskRows}
use Rattle.desk_catalogue.specs.EntryRows.{article_rows, offer_rows_of, price_rows_of, record_row}

-- these records and identifiers
abbrev pub with_records_and_articles : List RecordRow → List ArticleRow → DeskRows → DeskRows
with_records_and_articles records articles rows = with_articles articles (with_records records rows)

-- these offers and prices
abbrev pub with_offers_and_prices : List typed.OfferRow → List typed_price.PriceRow → DeskRows
    → DeskRows
with_offers_and_prices offers prices rows = with_prices prices (with_offers offers rows)

-- the record and its identifiers
abbrev pub with_identified : RecordRow → List ProductIdentifier → DeskRows → DeskRows
with_identified row ids =
    with_records_and_articles (row ∷ []) (article_rows row.series row.reference ids)

-- the offers of a record and their prices
abbrev pub with_supplies : List ℕ → List ℕ → List ProductSupply → DeskRows → DeskRows
with_supplies series reference supplies =
    with_offers_and_prices (offer_rows_of series reference supplies)
    (price_rows_of series reference supplies)

-- ---- of a product, in each table

abbrev pub product_records : List ℕ → Product → List RecordRow
product_records series p = record_row series p.reference ∷ []

abbrev pub product_articles : List ℕ → Product → List ArticleRow
product_articles series p = article_rows series p.reference p.ids

abbrev pub product_offers : List ℕ → Product → List typed.OfferRow
product_offers series p = offer_rows_of series p.reference p.supplies

abbrev pub product_prices : List ℕ → Product → List typed_price.PriceRow
product_prices series p = price_rows_of series p.reference p.supplies

-- ---- of products, table by table

abbrev pub records_of : List ℕ → List Product → List RecordRow
records_of series products = flat_map (product_records series) products

abbrev pub articles_of : List ℕ → List Product → List ArticleRow
articles_of series products = flat_map (product_articles series) products

abbrev pub offers_of : List ℕ → List Product → List typed.OfferRow
offers_of series products = flat_map (product_offers series) products

abbrev pub prices_of : List ℕ → List Product → List typed_price.PriceRow
prices_of series products = flat_map (product_prices series) products

-- the records of the products, and their identifiers
abbrev pub with_identifiers_of : List ℕ → List Product → DeskRows → DeskRows
with_identifiers_of series products =
    with_records_and_articles (records_of series products) (articles_of series products)

-- the offers of the products, and their prices
abbrev pub with_supplies_of : List ℕ → List Product → DeskRows → DeskRows
with_supplies_of series products =
    with_offers_and_prices (offers_of series products) (prices_of series products)

-- all that is written of the products
abbrev pub with_products : List ℕ → List Product → DeskRows → DeskRows
with_products series products rows = with_supplies_of series products
    (with_identifiers_of series products rows)
