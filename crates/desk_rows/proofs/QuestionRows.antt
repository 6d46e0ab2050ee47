-- What the tables answer to questions.
use Rattle.std.proofs.Common.{◌≡◌, ℕ, List, Some, None, refl, sym, ap, ◌∙◌, subst}
use Rattle.std.specs.Prelude.{Option, option_map, unwrap_or}
use Rattle.std.specs.FinMap as fin
use Rattle.catalogue_rules.specs.Records.{ByReference}
use Rattle.desk_catalogue.specs.Holding.{HoldsCatalogue}
use Rattle.desk_catalogue.proofs.OfferLemmas.{held_article_offers_by_value}
use Rattle.desk_tables.specs.ArticleAnswers.{AreOffersOfArticle}
use Rattle.desk_tables.specs.Rows.{DeskRows, series_at}
use Rattle.desk_tables.specs.declared.series.SeriesRow.{SeriesRow}
use Rattle.onix_records.specs.declared.agreements.Agreement.{Agreement}
use Rattle.price_rules.specs.declared.offer.Offer.{Offer}
use Rattle.series_rules.proofs.AgreementLemmas.{named_has_name}
use Rattle.series_rules.specs.Agreements.{agreements_of, named}
use Rattle.series_rules.specs.Answers.{catalogue_answer}
use Rattle.series_rules.proofs.OfferLemmas.{get-by_name}
use Rattle.series_rules.specs.Offers.{by_name, offers_after}
use Rattle.series_rules.specs.Series.{catalogue_of}
use Rattle.series_rules.specs.declared.requests.Request.{Request}
use Rattle.desk_rows.specs.Desks.{OnlyAnswers}
use Rattle.desk_rows.specs.Stands.{StandsFor}
use Rattle.desk_rows.proofs.Found.{named_row, no_row}
use Rattle.desk_rows.proofs.Fronts.{stands_front}

-- ---- a catalogue

pub no_catalogue : (s : List ℕ) (rows now : DeskRows) → now ≡ rows → None ≡ series_at s rows → OnlyAnswers (λ L. catalogue_answer L s) rows None now
no_catalogue s rows now left none = (left, λ L stands. sym (ap (option_map (catalogue_of L)) (no_row rows L s stands none)))

pub one_catalogue : (s : List ℕ) (row : SeriesRow) (rows between now : DeskRows) (m : ByReference) → between ≡ rows → now ≡ between → Some row ≡ series_at s rows → ((n : ByReference) → HoldsCatalogue s n between → m ≡ n) → OnlyAnswers (λ L. catalogue_answer L s) rows (Some m) now
one_catalogue s row rows between now m first second there is = (
  second ∙ first,
  λ L stands.
      let found = named_row rows L s row stands there in
      let same = named_has_name (agreements_of L) s row.agreement found in
      let own = (stands_front rows L row.agreement stands (ap (λ x. named (agreements_of L) x) same ∙ found)).catalogue in
      ap Some (is (catalogue_of L row.agreement) (subst (λ d. HoldsCatalogue s (catalogue_of L row.agreement) d) (sym first) (subst (λ x. HoldsCatalogue x (catalogue_of L row.agreement) rows) same own)))
      ∙ sym (ap (option_map (catalogue_of L)) found),
)

-- ---- the offers of an article

-- the rows under each name are those of the catalogue of the agreement that has it, or there are none
held_by_name : (rows : DeskRows) (L : List Request) → StandsFor rows L → (s : List ℕ) → HoldsCatalogue s (unwrap_or (option_map (catalogue_of L) (fin.get (by_name (agreements_of L)) s)) fin.empty) rows
held_by_name rows L stands s = subst (λ o. HoldsCatalogue s (unwrap_or (option_map (catalogue_of L) o) fin.empty) rows) (sym (get-by_name (agreements_of L) s)) (go (named (agreements_of L) s) refl)
  where
    go : (o : Option Agreement) → named (agreements_of L) s ≡ o → HoldsCatalogue s (unwrap_or (option_map (catalogue_of L) o) fin.empty) rows
    go None none = (stands.others s none).catalogue
    go (Some a) found =
        let same = named_has_name (agreements_of L) s a found in
        subst (λ x. HoldsCatalogue x (catalogue_of L a) rows) same (stands_front rows L a stands (ap (named (agreements_of L)) same ∙ found)).catalogue

pub article_offers : (isbn : List ℕ) (rows now : DeskRows) (offers : List Offer) → now ≡ rows → AreOffersOfArticle isbn rows offers → OnlyAnswers (λ L. offers_after L isbn) rows offers now
article_offers isbn rows now offers left answered = (left, λ L stands. held_article_offers_by_value (catalogue_of L) isbn (by_name (agreements_of L)) rows offers (held_by_name rows L stands) answered)
