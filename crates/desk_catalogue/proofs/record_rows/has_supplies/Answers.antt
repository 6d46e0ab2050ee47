use Rattle.std.proofs.Common.{◌≡◌, true, Vec, rules, sym, subst, ◌∙◌}
use Rattle.std.specs.List.{AllZip}
use Rattle.desk_tables.specs.ArticleAnswers.{AreOfferRowsOf}
use Rattle.desk_tables.specs.Rows.{DeskRows}
use Rattle.desk_catalogue.proofs.DoesLemmas.{called, did_as, did_fail, did_then}
use Rattle.desk_catalogue.specs.ReadRows.{HasPricesOf, AreReadAs}
use Rattle.desk_catalogue.proofs.ReadLemmas.{supplies_held}
use Rattle.desk_catalogue.proofs.record_rows.has_supplies.Goals as goal

pub returns : goal.returns
returns g c =
    let row = c.args.row.now in
    let minimums = c.args.with_minimums in
    let offers = c.in_ok-offers.offers.items in
    let Both : DeskRows → Vec _ _ → DeskRows → Type 0 = λ rows got after. (after ≡ rows) × AreOfferRowsOf rows row offers × (AreReadAs minimums offers rows → AllZip (HasPricesOf rows) offers got.items) in
    let alike : c.same_offers-same.result ≡ true = search rules in
    did_as {First = Both}
    (did_then (called c.in_ok-offers.ensures) c.in_ok-prices.ensures
    (λ rows between after got a p. (
      p.0 ∙ a.1,
      a.0,
      λ reads. subst (λ l. AllZip (HasPricesOf rows) l got.items) c.as_slice-3.ensures.value (subst (λ (x : DeskRows). AllZip (HasPricesOf x) c.as_slice-3.result.now got.items) a.1
          (p.1 (subst (λ (x : DeskRows). AreReadAs minimums c.as_slice-3.result.now x) (sym a.1) (subst (λ l. AreReadAs minimums l rows) (sym c.as_slice-3.ensures.value) reads)))),
    )))
    (λ rows after a. (
      a.0,
      supplies_held minimums row c.args.supplies.now rows offers c.in_ok-wanted.wanted.items c.in_ok-prices.prices.items c.same_detail_prices.result a.1 c.in_ok-wanted.ensures
          (sym c.as_slice.ensures.value ∙ c.same_offers-same.ensures.0 alike ∙ c.as_slice-2.ensures.value) a.2
          (λ true. sym c.as_slice-4.ensures.value ∙ c.same_detail_prices.ensures.0 true),
    ))

pub returns-in_err-prices : goal.returns-in_err-prices
returns-in_err-prices g c = did_fail (search rules) (called c.in_ok-offers.ensures) c.in_err-prices.ensures
