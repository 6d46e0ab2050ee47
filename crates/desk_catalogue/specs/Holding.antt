-- What it is for the tables to hold a catalogue.
use Rattle.std.specs.Prelude.{◌≡◌, ℕ, not, List, map, filter, Option, IfSome, unwrap_or}
use Rattle.std.specs.FinMap as map
use Rattle.std.specs.FinMap.{FinMap}
use Rattle.std.specs.Cmp.Lexicographic.{slice_cmp}
use Rattle.std.specs.List.Sorted.{IsPermutation}
use Rattle.std.specs.Ordering.{nat_cmp}
use Rattle.onix_records.specs.declared.parts.Product.{Product}
use Rattle.catalogue_rules.specs.Effects.{after, effect_of}
use Rattle.catalogue_rules.specs.Records.{ByReference}
use Rattle.onix_records.specs.declared.effects.Effect.{Effect}
use Rattle.catalogue_rules.specs.declared.entry.Entry.{Entry}
use Rattle.desk_tables.specs.RecordChanges.{is_record, is_article_of, is_offer_of, is_price_of, is_minimum_of, without_record}
use Rattle.desk_tables.specs.RecordAnswers.{is_record_in, is_article_in, is_offer_in, is_price_in, is_minimum_in}
use Rattle.desk_tables.specs.RecordRows.{offer_row, price_row, minimum_row}
use Rattle.desk_tables.specs.Rows.{DeskRows}
use Rattle.desk_catalogue.specs.EntryRows.{record_rows_of, article_rows, offer_rows_of, price_rows_of, has_minimum, ids_of, supplies_of}
use Rattle.desk_catalogue.specs.Storable.{IsStorable}

-- the rows of that record are those of the entry, in some order, or there are none
pub record HoldsEntry (series reference : List ℕ) (entry : Option Entry)
    (rows : DeskRows) : Type 0 where
  pub storable : IfSome entry IsStorable
  pub records : IsPermutation (filter (is_record series reference) rows.records)
      (record_rows_of series reference entry)
  pub articles : IsPermutation (filter (is_article_of series reference) rows.articles)
      (article_rows series reference (ids_of entry))
  pub offers : IsPermutation (filter (is_offer_of series reference) rows.offers)
      (map offer_row (offer_rows_of series reference (supplies_of entry)))
  pub prices : IsPermutation (filter (is_price_of series reference) rows.prices)
      (map price_row (price_rows_of series reference (supplies_of entry)))
  pub minimums : IsPermutation (filter (is_minimum_of series reference) rows.minimums)
      (map minimum_row (filter has_minimum (price_rows_of series reference (supplies_of entry))))

-- the rows of the series are those of the catalogue: at each reference those of its entry
abbrev pub HoldsCatalogue : List ℕ → ByReference → DeskRows → Type 0
HoldsCatalogue series m rows = (reference : List ℕ)
    → HoldsEntry series reference (map.get m reference) rows

-- all rows but those of that record
abbrev pub other_records : List ℕ → List ℕ → DeskRows → DeskRows
other_records = without_record

-- the rows of that record became those of the entry, and all others stayed
pub record Became (series reference : List ℕ) (entry : Option Entry)
    (rows after : DeskRows) : Type 0 where
  pub entry_held : HoldsEntry series reference entry after
  pub others : other_records series reference after ≡ other_records series reference rows

-- all rows but those of the records of the series
abbrev pub other_catalogues : List ℕ → DeskRows → DeskRows
other_catalogues series rows = record rows {
  records = filter (λ r. not (is_record_in series r)) rows.records;
  articles = filter (λ r. not (is_article_in series r)) rows.articles;
  offers = filter (λ r. not (is_offer_in series r)) rows.offers;
  prices = filter (λ r. not (is_price_in series r)) rows.prices;
  minimums = filter (λ r. not (is_minimum_in series r)) rows.minimums;
}

-- the rows of the series became those of the catalogue after the products, with that effect, and
-- all others stayed
pub record IsApplied (series : List ℕ) (m : ByReference) (products : List Product) (rows : DeskRows)
    (effect : Effect) (after_rows : DeskRows) : Type 0 where
  pub catalogue : HoldsCatalogue series (after m products) after_rows
  pub counts : effect ≡ effect_of m products
  pub others : other_catalogues series after_rows ≡ other_catalogues series rows

-- the catalogues by the names of their series; a name without one has no records
abbrev pub ByName : Type 0
ByName = FinMap (slice_cmp nat_cmp) ByReference

abbrev pub catalogue_at : ByName → List ℕ → ByReference
catalogue_at catalogues name = unwrap_or (map.get catalogues name) map.empty

-- the rows of each series are those of its catalogue
abbrev pub HoldsCatalogues : ByName → DeskRows → Type 0
HoldsCatalogues catalogues rows = (series : List ℕ)
    → HoldsCatalogue series (catalogue_at catalogues series) rows
