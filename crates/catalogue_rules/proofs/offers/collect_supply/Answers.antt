use Rattle.std.proofs.Common.{◌≡◌, ◌<◌, ◌+◌, ◌∷◌, [], ℕ, List, subst, fold, ap, arith, length, length-take, map, sym, take, ◌∙◌}
use Rattle.std.proofs.lemmas.List.Sums.{fold-append}
use Rattle.onix_records.specs.declared.parts.SupplyDetail.{SupplyDetail}
use Rattle.catalogue_rules.specs.Offers.{offer_of, offers_from}
use Rattle.catalogue_rules.proofs.Places.{offers-push, take-next}
use Rattle.catalogue_rules.proofs.offers.collect_supply.Goals as goal

pub loop-detail-preserved : goal.loop-detail-preserved
loop-detail-preserved g c =
    let series = c.args.series.now in
    let reference = c.args.reference.now in
    let first = c.args.before + 1 in
    let market = c.args.supply.now.market in
    let details = c.args.supply.now.details in
    let i = c.loop-detail.detail-index in
    let d = c.detail-item.result in
    let old = c.args.collector.now in
    let collected = g.C.OfferCollector.collected in
    let past = take i details in
    let more = take-next details c.as_slice-detail-items.result.now i d c.as_slice-detail-items.ensures c.loop-detail-test.true c.detail-item.is in
    let is_at = c.loop-detail.invariant.place in
    let within : i < length details = subst (λ (ds : List SupplyDetail). i < length ds) c.as_slice-detail-items.ensures c.loop-detail-test.true in
    let place : c.loop-detail.place + 1 ≡ first + length past = omega (arith, is_at, within, length-take i details) in
    record {
      place = omega (arith, is_at);
      offers = c.in_ok-collect.ensures
          ∙ ap (collected c.loop-detail.collector) c.in_ok-offer.ensures
          ∙ ap (λ (n : ℕ). collected c.loop-detail.collector (offer_of series reference (n, (market, d)))) place
          ∙ ap (λ s. collected s (offer_of series reference (first + length past, (market, d)))) c.loop-detail.invariant.offers
          ∙ sym (fold-append collected old (offers_from series reference first (map (λ x. (market, x)) past)) (offer_of series reference (first + length past, (market, d)) ∷ []))
          ∙ ap (fold collected old) (sym (offers-push series reference first market past d))
          ∙ ap (λ (ds : List SupplyDetail). fold collected old (offers_from series reference first (map (λ x. (market, x)) ds))) (sym more);
    }
