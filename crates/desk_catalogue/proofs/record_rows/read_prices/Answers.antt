use Rattle.std.proofs.Common.{◌≡◌, ◌+◌, ◌++◌, [], ◌∷◌, false, List, take, refl, rules, subst, sym, ◌∙◌}
use Rattle.std.proofs.lemmas.List.{take_all}
use Rattle.std.specs.List.{AllZip}
use Rattle.onix_records.specs.declared.parts.Price.{Price}
use Rattle.desk_tables.specs.RecordChanges.{has_minimums_of}
use Rattle.desk_tables.specs.Rows.{DeskRows}
use Rattle.desk_catalogue.proofs.DoesLemmas.{did_as, did_both, did_fail, did_nothing, did_stop, did_then}
use Rattle.desk_catalogue.specs.ReadRows.{AreReadAs, HasPricesOf}
use Rattle.desk_catalogue.proofs.ReadLemmas.{one_read_as, prices_read}
use Rattle.desk_catalogue.proofs.record_rows.read_prices.Goals as goal

pub loop-offer-init : goal.loop-offer-init
loop-offer-init g c =
    let none : c.new-prices.result.items ≡ [] = search rules in
    did_nothing (λ rows. (refl, λ reads. subst (λ (l : List (List Price)). AllZip (HasPricesOf rows) [] l) (sym none) tt))

pub loop-offer-preserved : goal.loop-offer-preserved
loop-offer-preserved g c =
    let minimums = c.args.with_minimums in
    let offers = c.args.offers.now in
    let x = c.offer-item.result in
    let i = c.loop-offer.offer-index in
    let prices = c.loop-offer.prices.items in
    let pushed : c.push.new.self.items ≡ prices ++ c.in_ok-own.own ∷ [] = search rules in
    let More : DeskRows → List Price → DeskRows → Type 0 = λ rows own after. (after ≡ rows) × (AreReadAs minimums offers rows → AllZip (HasPricesOf rows) (take (i + 1) offers) (prices ++ own ∷ [])) in
    did_as {First = More}
    (did_then c.loop-offer.invariant c.in_ok-own.ensures
    (λ rows between after b one two. (
      two.0 ∙ one.0,
      λ reads. prices_read offers i x prices b rows between c.loop-offer-test.true c.offer-item.is one.0 (one.1 reads)
          (two.1 (λ without. subst (λ (d : DeskRows). has_minimums_of x.series x.reference d ≡ false) (sym one.0) (one_read_as minimums offers i x rows c.loop-offer-test.true c.offer-item.is reads without))),
    )))
    (λ rows after one. (one.0, λ reads. subst (λ (l : List (List Price)). AllZip (HasPricesOf rows) (take (i + 1) offers) l) (sym pushed) (one.1 reads)))

pub returns-in_err-own : goal.returns-in_err-own
returns-in_err-own g c = did_fail (search rules) c.loop-offer.invariant c.in_err-own.ensures

pub returns-then-is_err : goal.returns-then-is_err
returns-then-is_err g c = did_stop refl (did_both c.loop-offer.invariant c.in_ok-own.ensures)

pub returns : goal.returns
returns g c =
    let all = take_all c.loop-offer.offer-index c.args.offers.now c.loop-offer-test.false in
    did_as c.loop-offer.invariant (λ rows after one. (one.0, λ reads. subst (λ l. AllZip (HasPricesOf rows) l c.loop-offer.prices.items) all (one.1 reads)))
