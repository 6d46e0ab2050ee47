-- Rows put into a table of the catalogues many at a time.
use Rattle.std.specs.Prelude.{◌≡◌, ℕ, ◌*◌, ◌≤◌, Bool, true, false, List, length, take, IfOk, Result, if◌then◌else◌}
use Rattle.std.specs.List.{flat_map}
use Rattle.sqlite_value.specs.Order.{Row}
use Rattle.sqlite_trees.specs.declared.store.Store.{Ghosts}
use Rattle.onix_records.specs.declared.faults.StoreFault.{StoreFault}
use Rattle.desk_tables.specs.Calls.{AddsAll, AddsBetween}
use Rattle.desk_tables.specs.RecordChanges.{with_articles, with_minimum_rows, with_offers, with_price_rows, with_records}
use Rattle.desk_tables.specs.RecordRows.{ArticleRow, RecordRow, article_columns, minimum_columns, minimum_row, offer_columns, offer_row, price_columns, price_row, record_columns}
use Rattle.desk_tables.specs.Rows.{DeskRows}
use Rattle.desk_tables.specs.declared.many_rows.CatalogueTable.{CatalogueTable}
use Rattle.desk_tables.specs.declared.many_rows.CatalogueTable.TheVariants.{Record, Article, Offer, Price, PriceMinimum}
use Rattle.desk_tables.specs.declared.offers.OfferRow as typed
use Rattle.desk_tables.specs.declared.prices.PriceRow as typed_price
use Rattle.desk_tables.specs.declared.work.Work.{Work}
use Rattle.desk_tables.specs.declared.articles.TheConstants.{PUT_8_ARTICLES, PUT_ARTICLE}
use Rattle.desk_tables.specs.declared.offers.TheConstants.{PUT_8_OFFERS, PUT_OFFER}
use Rattle.desk_tables.specs.declared.prices.TheConstants.{PUT_8_MINIMUMS, PUT_8_PRICES, PUT_MINIMUM, PUT_PRICE}
use Rattle.desk_tables.specs.declared.records.TheConstants.{PUT_8_RECORDS, PUT_RECORD}

-- what is put into the table
abbrev pub RowOf : CatalogueTable → Type 0
RowOf Record = RecordRow
RowOf Article = ArticleRow
RowOf Offer = typed.OfferRow
RowOf Price = typed_price.PriceRow
RowOf PriceMinimum = typed_price.PriceRow

abbrev pub columns_of : (t : CatalogueTable) → RowOf t → Row
columns_of Record row = record_columns row
columns_of Article row = article_columns row
columns_of Offer row = offer_columns (offer_row row)
columns_of Price row = price_columns (price_row row)
columns_of PriceMinimum row = minimum_columns (minimum_row row)

abbrev pub width_of : CatalogueTable → ℕ
width_of Record = 2
width_of Article = 5
width_of Offer = 13
width_of Price = 12
width_of PriceMinimum = 5

abbrev pub with_rows : (t : CatalogueTable) → List (RowOf t) → DeskRows → DeskRows
with_rows Record added = with_records added
with_rows Article added = with_articles added
with_rows Offer added = with_offers added
with_rows Price added = with_price_rows added
with_rows PriceMinimum added = with_minimum_rows added

-- the INSERT of one row, or of eight
abbrev pub text_of : CatalogueTable → Bool → List ℕ
text_of Record false = PUT_RECORD.now
text_of Record true = PUT_8_RECORDS.now
text_of Article false = PUT_ARTICLE.now
text_of Article true = PUT_8_ARTICLES.now
text_of Offer false = PUT_OFFER.now
text_of Offer true = PUT_8_OFFERS.now
text_of Price false = PUT_PRICE.now
text_of Price true = PUT_8_PRICES.now
text_of PriceMinimum false = PUT_MINIMUM.now
text_of PriceMinimum true = PUT_8_MINIMUMS.now

abbrev pub many_of : Bool → ℕ
many_of eight = if eight then 8 else 1

-- each row of that place up to another is put, where the values are those of rows
abbrev pub InsertsEach : {S A : Type 0} → Ghosts S → CatalogueTable → Bool → ℕ → ℕ → Row → Work S
    → Work S → Result A StoreFault → Type 0
InsertsEach store t eight from to values old new result =
    (xs : List (RowOf t)) → values ≡ flat_map (columns_of t) xs → many_of eight * to ≤ length xs
    → AddsBetween store (with_rows t (take (many_of eight * from) xs))
    (with_rows t (take (many_of eight * to) xs)) old new result

-- the rows of the values are put
abbrev pub InsertsRows : {S A : Type 0} → Ghosts S → CatalogueTable → Row → Work S → Work S
    → Result A StoreFault → Type 0
InsertsRows store t values old new result =
    (xs : List (RowOf t)) → values ≡ flat_map (columns_of t) xs
    → AddsAll store (with_rows t xs) old new result

-- the same if memory sufficed for the values
abbrev pub InsertsValues : {S A V E : Type 0} → Ghosts S → CatalogueTable → Result V E → (V → Row)
    → Work S → Work S → Result A StoreFault → Type 0
InsertsValues store t values row_of old new result =
    (xs : List (RowOf t)) → IfOk values (λ v. row_of v ≡ flat_map (columns_of t) xs)
    → AddsAll store (with_rows t xs) old new result
