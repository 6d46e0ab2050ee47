use Rattle.std.proofs.Common.{ap, map, sym, true≢false, ◌∙◌}
use Rattle.onix_records.specs.declared.parts.SupplyDetail.{SupplyDetail}
use Rattle.desk_catalogue.proofs.SamePrices.{next-rest, none-left, other-prices, supplied-prices, too-short}
use Rattle.desk_catalogue.proofs.same.same_detail_prices.Goals as goal

pub returns-then-rest-count : goal.returns-then-rest-count
returns-then-rest-count c = (
  λ f. absurd (true≢false (sym f)),
  λ e. absurd (too-short _ _ c.args.supplies.now _ _ _ c.loop-supply-test.true c.supply-item.is c.len-count.ensures c.loop-supply.invariant c.if-rest-count.true (e ∙ supplied-prices c.args.supplies.now)),
)

pub returns-then-not-are_prices_of : goal.returns-then-not-are_prices_of
returns-then-not-are_prices_of c = (
  λ f. absurd (true≢false (sym f)),
  λ e. absurd (other-prices _ _ c.args.supplies.now _ _ _ c.loop-supply-test.true c.supply-item.is c.len-count.ensures c.loop-supply.invariant
      (λ same. true≢false (sym (c.are_prices_of.ensures.1 (same ∙ ap (map (λ (d : SupplyDetail). d.prices)) (sym c.as_slice.ensures))) ∙ c.if-not-are_prices_of.true)) (e ∙ supplied-prices c.args.supplies.now)),
)

pub loop-supply-preserved : goal.loop-supply-preserved
loop-supply-preserved c =
    next-rest _ _ c.args.supplies.now _ _ _ c.loop-supply-test.true c.supply-item.is c.len-count.ensures c.loop-supply.invariant
    (c.are_prices_of.ensures.0 c.if-not-are_prices_of.false ∙ ap (map (λ (d : SupplyDetail). d.prices)) c.as_slice.ensures)

pub returns : goal.returns
returns c =
    let known = none-left _ _ c.args.supplies.now _ _ c.loop-supply-test.false c.is_empty.ensures c.loop-supply.invariant in
    (λ e. known.0 e ∙ sym (supplied-prices c.args.supplies.now), λ e. known.1 (e ∙ supplied-prices c.args.supplies.now))
