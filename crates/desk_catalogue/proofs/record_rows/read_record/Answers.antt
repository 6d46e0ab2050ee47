use Rattle.std.proofs.Common.{◌≡◌, Vec, rules, subst, ◌∙◌}
use Rattle.std.specs.List.{AllZip}
use Rattle.desk_tables.specs.ArticleAnswers.{AreArticlesOf, AreOfferRowsOf}
use Rattle.desk_tables.specs.Rows.{DeskRows}
use Rattle.desk_catalogue.proofs.DoesLemmas.{called, did_answer, did_both, did_fail, did_then}
use Rattle.desk_catalogue.specs.ReadRows.{HasPricesOf}
use Rattle.desk_catalogue.proofs.ReadLemmas.{AreReadOf, entry_read, read_whole}
use Rattle.desk_catalogue.proofs.record_rows.read_record.Goals as goal

pub returns-in_err-offers-clause-does : goal.returns-in_err-offers-clause-does
returns-in_err-offers-clause-does g c = did_fail (search rules) (called c.in_ok-articles.ensures) (called c.in_err-offers.ensures)

pub returns-in_err-prices-clause-does : goal.returns-in_err-prices-clause-does
returns-in_err-prices-clause-does g c = did_fail (search rules) (did_both (called c.in_ok-articles.ensures) (called c.in_ok-offers.ensures)) c.in_err-prices.ensures

pub returns-clause-does : goal.returns-clause-does
returns-clause-does g c =
    let row = c.args.row.now in
    let articles = c.in_ok-articles.articles.items in
    let offers = c.in_ok-offers.offers.items in
    let Second : DeskRows → Vec _ _ → DeskRows → Type 0 = λ rows got after. (after ≡ rows) × AreArticlesOf row.series row.reference rows articles × AreOfferRowsOf rows row got.items in
    let Third : DeskRows → Vec _ _ → DeskRows → Type 0 = λ rows got after. (after ≡ rows) × AreReadOf row rows articles offers got.items in
    did_answer {First = Third}
    (did_then {First = Second}
    (did_then (called c.in_ok-articles.ensures) (called c.in_ok-offers.ensures)
    (λ rows between after got a d. (d.1 ∙ a.1, a.0, subst (λ (x : DeskRows). AreOfferRowsOf x row got.items) a.1 d.0)))
    c.in_ok-prices.ensures
    (λ rows between after got a p. (
      p.0 ∙ a.0,
      record {
        articles_are = a.1;
        offers_are = a.2;
        prices_are = subst (λ l. AllZip (HasPricesOf rows) l got.items) c.as_slice.ensures.value (subst (λ (x : DeskRows). AllZip (HasPricesOf x) c.as_slice.result.now got.items) a.0 (p.1 (read_whole c.as_slice.result.now between)));
      },
    )))
    (λ rows after a. entry_read row rows after articles offers c.in_ok-prices.prices.items c.entry_of.result a.0 a.1
    (λ series reference e storable x y z. c.entry_of.ensures.entry series reference e storable (c.as_slice-2.ensures.value ∙ x) (c.as_slice-3.ensures.value ∙ y) (c.as_slice-4.ensures.value ∙ z)))
