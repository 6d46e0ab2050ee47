-- What the changes of one record come to.
use Rattle.std.proofs.Common.{◌≢◌, ℕ, List, [], ◌∷◌, map, filter, not, Some, None, ◌∙◌}
use Rattle.sqlite_trees.proofs.ListLemmas.{IsPermutation-same}
use Rattle.onix_records.specs.declared.parts.ProductIdentifier.{ProductIdentifier}
use Rattle.onix_records.specs.declared.parts.ProductSupply.{ProductSupply}
use Rattle.catalogue_rules.specs.declared.entry.Entry.{Entry}
use Rattle.desk_tables.specs.RecordChanges.{is_record, is_article_of, is_offer_of, is_price_of, is_minimum_of, without_offers, without_record}
use Rattle.desk_tables.specs.RecordRows.{offer_row, price_row, minimum_row}
use Rattle.desk_tables.specs.Rows.{DeskRows}
use Rattle.desk_catalogue.specs.EntryRows.{record_row, article_rows, offer_rows_of, price_rows_of, has_minimum}
use Rattle.desk_catalogue.specs.Holding.{Became, HoldsEntry, other_records}
use Rattle.desk_catalogue.specs.Storable.{AreStorable}
use Rattle.desk_catalogue.specs.WrittenRows.{with_identified, with_supplies}
use Rattle.desk_catalogue.proofs.OwnRows.{none_left, own_after, others_after, own_gone, others_gone, keyed, articles_own, offers_own, prices_own, minimums_own}

pub record_written : (s r : List ℕ) (ids : List ProductIdentifier) (supplies : List ProductSupply) (rows : DeskRows) → HoldsEntry s r None rows → ids ≢ [] → AreStorable supplies
    → Became s r (Some (record { ids = ids; supplies = supplies })) rows (with_supplies s r supplies (with_identified (record_row s r) ids rows))
record_written s r ids supplies rows none some storable =
    let records = none_left _ none.records in
    let articles = article_rows s r ids in
    let offers = map offer_row (offer_rows_of s r supplies) in
    let prices = map price_row (price_rows_of s r supplies) in
    let minimums = map minimum_row (filter has_minimum (price_rows_of s r supplies)) in
    record {
      entry_held = record {
        storable = (some, storable);
        records = IsPermutation-same _ _ (own_after (is_record s r) rows.records (record_row s r ∷ []) records (keyed s r, tt));
        articles = IsPermutation-same _ _ (own_after (is_article_of s r) rows.articles articles (none_left _ none.articles) (articles_own s r ids));
        offers = IsPermutation-same _ _ (own_after (is_offer_of s r) rows.offers offers (none_left _ none.offers) (offers_own s r supplies));
        prices = IsPermutation-same _ _ (own_after (is_price_of s r) rows.prices prices (none_left _ none.prices) (prices_own s r supplies));
        minimums = IsPermutation-same _ _ (own_after (is_minimum_of s r) rows.minimums minimums (none_left _ none.minimums) (minimums_own s r supplies));
      };
      others = λ i. record (other_records s r rows) {
        records = others_after (is_record s r) rows.records (record_row s r ∷ []) (keyed s r, tt) i;
        articles = others_after (is_article_of s r) rows.articles articles (articles_own s r ids) i;
        offers = others_after (is_offer_of s r) rows.offers offers (offers_own s r supplies) i;
        prices = others_after (is_price_of s r) rows.prices prices (prices_own s r supplies) i;
        minimums = others_after (is_minimum_of s r) rows.minimums minimums (minimums_own s r supplies) i;
      };
    }

pub record_removed : (s r : List ℕ) (rows : DeskRows) → Became s r None rows (without_record s r rows)
record_removed s r rows = record {
  entry_held = record {
    storable = tt;
    records = IsPermutation-same _ _ (own_gone (is_record s r) rows.records);
    articles = IsPermutation-same _ _ (own_gone (is_article_of s r) rows.articles);
    offers = IsPermutation-same _ _ (own_gone (is_offer_of s r) rows.offers);
    prices = IsPermutation-same _ _ (own_gone (is_price_of s r) rows.prices);
    minimums = IsPermutation-same _ _ (own_gone (is_minimum_of s r) rows.minimums);
  };
  others = λ i. record (other_records s r rows) {
    records = others_gone (is_record s r) rows.records i;
    articles = others_gone (is_article_of s r) rows.articles i;
    offers = others_gone (is_offer_of s r) rows.offers i;
    prices = others_gone (is_price_of s r) rows.prices i;
    minimums = others_gone (is_minimum_of s r) rows.minimums i;
  };
}

pub supplies_replaced : (s r : List ℕ) (e : Entry) (supplies : List ProductSupply) (rows : DeskRows) → HoldsEntry s r (Some e) rows → AreStorable supplies
    → Became s r (Some (record e { supplies = supplies })) rows (with_supplies s r supplies (without_offers s r rows))
supplies_replaced s r e supplies rows was storable =
    let offers = map offer_row (offer_rows_of s r supplies) in
    let prices = map price_row (price_rows_of s r supplies) in
    let minimums = map minimum_row (filter has_minimum (price_rows_of s r supplies)) in
    let other_offers = filter (λ x. not (is_offer_of s r x)) rows.offers in
    let other_prices = filter (λ x. not (is_price_of s r x)) rows.prices in
    let other_minimums = filter (λ x. not (is_minimum_of s r x)) rows.minimums in
    record {
      entry_held = record {
        storable = (was.storable.0, storable);
        records = was.records;
        articles = was.articles;
        offers = IsPermutation-same _ _ (own_after (is_offer_of s r) other_offers offers (own_gone (is_offer_of s r) rows.offers) (offers_own s r supplies));
        prices = IsPermutation-same _ _ (own_after (is_price_of s r) other_prices prices (own_gone (is_price_of s r) rows.prices) (prices_own s r supplies));
        minimums = IsPermutation-same _ _ (own_after (is_minimum_of s r) other_minimums minimums (own_gone (is_minimum_of s r) rows.minimums) (minimums_own s r supplies));
      };
      others = λ i. record (other_records s r rows) {
        offers = (others_after (is_offer_of s r) other_offers offers (offers_own s r supplies) ∙ others_gone (is_offer_of s r) rows.offers) i;
        prices = (others_after (is_price_of s r) other_prices prices (prices_own s r supplies) ∙ others_gone (is_price_of s r) rows.prices) i;
        minimums = (others_after (is_minimum_of s r) other_minimums minimums (minimums_own s r supplies) ∙ others_gone (is_minimum_of s r) rows.minimums) i;
      };
    }
