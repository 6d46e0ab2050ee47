-- What INSERT of rows does, for the tables of the desk.
use Rattle.std.proofs.Common.{◌≡◌, ℕ, suc, ◌/◌, pos, List, [], ◌∷◌, ◌++◌, length, map, Ok, refl}
use Rattle.std.specs.List.{flat_map}
use Rattle.sqlite_value.specs.declared.value.Value.TheVariants.{Int, Null, Text}
use Rattle.sqlite_value.specs.Order.{Row}
use Rattle.sqlite_trees.proofs.ListLemmas.{all-append}
use Rattle.sqlite_sql.specs.Term.{Term}
use Rattle.sqlite_schema.specs.declared.command.Command.TheVariants.{Insert}
use Rattle.sqlite_schema.specs.declared.command.Source.TheVariants.{Values}
use Rattle.sqlite.specs.Effect.{value_rows}
use Rattle.sqlite.specs.State.{State, Executes}
use Rattle.onix_records.specs.declared.agreements.Agreement.{Agreement}
use Rattle.desk_tables.specs.AgreementRows.{applied_definition, held_definition, series_definition}
use Rattle.desk_tables.specs.RecordChanges.{with_article, with_articles, with_minimum, with_offer, with_price, with_records}
use Rattle.desk_tables.specs.RecordRows.{MinimumRow, OfferRow, PriceRow, article_definition, minimum_definition, offer_definition, price_definition, record_definition}
use Rattle.desk_tables.specs.Rows.{DeskRows, Holds, IsAddressee, party_type, party_value, with_applied, with_held, with_series}
use Rattle.desk_tables.specs.Schema.{desk_schema}
use Rattle.desk_tables.specs.TableDefinition.{TableDefinition, values_of}
use Rattle.desk_tables.specs.declared.applied.TheConstants.{PUT_APPLIED}
use Rattle.desk_tables.specs.declared.articles.TheConstants.{PUT_ARTICLE}
use Rattle.desk_tables.specs.declared.held.TheConstants.{PUT_HELD}
use Rattle.desk_tables.specs.declared.offers.TheConstants.{PUT_OFFER}
use Rattle.desk_tables.specs.declared.prices.TheConstants.{PUT_MINIMUM, PUT_PRICE}
use Rattle.desk_tables.specs.declared.series.SeriesRow.{SeriesRow}
use Rattle.desk_tables.specs.declared.series.TheConstants.{PUT_SERIES}
use Rattle.desk_tables.proofs.Inserts.{puts}
use Rattle.desk_tables.proofs.Putting.{Puts}
use Rattle.desk_tables.proofs.RecordStatementTexts.{put_article_is, put_minimum_is, put_offer_is, put_price_is}
use Rattle.desk_tables.proofs.StatementTexts.{put_applied_is, put_held_is, put_series_is}
use Rattle.desk_tables.proofs.Statements.{IsCommand}

-- an INSERT of rows of values adds these rows
abbrev pub PutsRows : {A : Type 0} → TableDefinition A → ℕ → (List A → DeskRows → DeskRows) → Type 1
PutsRows {A} d at change =
    (sql : List ℕ) (terms : List Term) (x : A) (xs : List A) → IsCommand desk_schema sql (Insert at (Values terms (suc (length d.columns))))
    → value_rows (flat_map (values_of d) (x ∷ xs) ++ []) (suc (length d.columns)) (length terms / suc (length d.columns)) terms ≡ map (λ y. Null ∷ values_of d y) (x ∷ xs)
    → Puts sql (flat_map (values_of d) (x ∷ xs)) (change (x ∷ xs))

-- an INSERT of one row adds it
abbrev pub PutsRow : {A : Type 0} → TableDefinition A → List ℕ → (A → DeskRows → DeskRows) → Type 1
PutsRow {A} d sql change = (old new : State) (row : A) (count : ℕ) (rows : DeskRows) → Holds old.now rows → Executes sql (values_of d row) old new (Ok count) → Holds new.now (change row rows)

-- ---- the tables that keep catalogues

pub puts_records : PutsRows record_definition 4 with_records
puts_records sql terms x xs is are old new count rows h ran =
    puts record_definition 4 9 refl sql _ terms 3 x xs is.0 is.1 are old new count rows.records rows (with_records (x ∷ xs) rows) refl h.tables.addressees h h.tables.records ran

pub puts_articles : PutsRows article_definition 5 with_articles
puts_articles sql terms x xs is are old new count rows h ran =
    puts article_definition 5 11 refl sql _ terms 6 x xs is.0 is.1 are old new count rows.articles rows (with_articles (x ∷ xs) rows) refl h.tables.addressees h h.tables.articles ran

pub puts_article : PutsRow article_definition PUT_ARTICLE.now with_article
puts_article old new row count rows h ran = puts_articles PUT_ARTICLE.now _ row [] put_article_is refl old new count rows h ran

pub puts_offers : PutsRows offer_definition 6 (λ (xs : List OfferRow) rows. record rows { offers = rows.offers ++ xs })
puts_offers sql terms x xs is are old new count rows h ran =
    puts offer_definition 6 13 refl sql _ terms 14 x xs is.0 is.1 are old new count rows.offers rows (record rows { offers = rows.offers ++ x ∷ xs }) refl h.tables.addressees h h.tables.offers ran

pub puts_offer : PutsRow offer_definition PUT_OFFER.now with_offer
puts_offer old new row count rows h ran = puts_offers PUT_OFFER.now _ row [] put_offer_is refl old new count rows h ran

pub puts_prices : PutsRows price_definition 7 (λ (xs : List PriceRow) rows. record rows { prices = rows.prices ++ xs })
puts_prices sql terms x xs is are old new count rows h ran =
    puts price_definition 7 15 refl sql _ terms 13 x xs is.0 is.1 are old new count rows.prices rows (record rows { prices = rows.prices ++ x ∷ xs }) refl h.tables.addressees h h.tables.prices ran

pub puts_price : PutsRow price_definition PUT_PRICE.now with_price
puts_price old new row count rows h ran = puts_prices PUT_PRICE.now _ row [] put_price_is refl old new count rows h ran

pub puts_minimums : PutsRows minimum_definition 8 (λ (xs : List MinimumRow) rows. record rows { minimums = rows.minimums ++ xs })
puts_minimums sql terms x xs is are old new count rows h ran =
    puts minimum_definition 8 17 refl sql _ terms 6 x xs is.0 is.1 are old new count rows.minimums rows (record rows { minimums = rows.minimums ++ x ∷ xs }) refl h.tables.addressees h h.minimums ran

pub puts_minimum : PutsRow minimum_definition PUT_MINIMUM.now with_minimum
puts_minimum old new row count rows h ran = puts_minimums PUT_MINIMUM.now _ row [] put_minimum_is refl old new count rows h ran

-- ---- agreements and messages

pub puts_held : PutsRow held_definition PUT_HELD.now with_held
puts_held old new row count rows h ran =
    puts held_definition 2 5 refl PUT_HELD.now (values_of held_definition row) _ 4 row [] put_held_is.0 put_held_is.1 refl old new count rows.held rows (with_held row rows) refl h.tables.addressees h h.tables.held ran

pub puts_applied : PutsRow applied_definition PUT_APPLIED.now with_applied
puts_applied old new row count rows h ran =
    puts applied_definition 3 7 refl PUT_APPLIED.now (values_of applied_definition row) _ 9 row [] put_applied_is.0 put_applied_is.1 refl old new count rows.applied rows (with_applied row rows) refl h.tables.addressees h h.tables.applied ran

-- the first number is the next too, so it is one parameter
abbrev pub put_series_params : Agreement → Row
put_series_params a = Text a.name ∷ Text a.sender.id_type ∷ Text a.sender.id_value ∷ Text (party_type a.addressee) ∷ Text (party_value a.addressee) ∷ Int (pos a.first) ∷ []

pub puts_series : (old new : State) (a : Agreement) (count : ℕ) (rows : DeskRows) → IsAddressee a.addressee → Holds old.now rows → Executes PUT_SERIES.now (put_series_params a) old new (Ok count) → Holds new.now (with_series a rows)
puts_series old new a count rows told h ran =
    let row : SeriesRow = record { agreement = a; next = a.first } in
    puts series_definition 1 2 refl PUT_SERIES.now (put_series_params a) _ 8 row [] put_series_is.0 put_series_is.1 refl old new count rows.series rows (with_series a rows) refl
    (all-append (λ (r : SeriesRow). IsAddressee r.agreement.addressee) rows.series (row ∷ []) h.tables.addressees (told, tt)) h h.tables.series ran
