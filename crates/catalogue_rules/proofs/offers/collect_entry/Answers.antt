use Rattle.std.proofs.Common.{◌+◌, ℕ, List, ap, fold, length, sym, take, ◌∙◌}
use Rattle.std.proofs.lemmas.List.Sums.{fold-append, sum_by_push}
use Rattle.onix_records.specs.DetailCount.{detail_count}
use Rattle.onix_records.specs.declared.parts.ProductSupply.{ProductSupply}
use Rattle.catalogue_rules.specs.Offers.{entry_details, offers_from, supply_details}
use Rattle.catalogue_rules.proofs.Places.{offers-supply, take-next}
use Rattle.catalogue_rules.proofs.offers.collect_entry.Goals as goal

pub loop-supply-preserved : goal.loop-supply-preserved
loop-supply-preserved g c =
    let series = c.args.series.now in
    let reference = c.args.reference.now in
    let supplies = c.args.entry.now.supplies in
    let i = c.loop-supply.supply-index in
    let s = c.supply-item.result in
    let old = c.args.collector.now in
    let collected = g.C.OfferCollector.collected in
    let past = take i supplies in
    let more = take-next supplies c.as_slice-supply-items.result.now i s c.as_slice-supply-items.ensures c.loop-supply-test.true c.supply-item.is in
    let before = c.loop-supply.invariant.count in
    record {
      count = c.in_ok-count.ensures.count
          ∙ ap (λ (n : ℕ). n + length s.details) before
          ∙ sym (sum_by_push (λ (t : ProductSupply). length t.details) past s)
          ∙ ap detail_count (sym more);
      offers = c.in_ok-count.ensures.offers
          ∙ ap (λ (n : ℕ). fold collected c.loop-supply.collector (offers_from series reference (n + 1) (supply_details s))) before
          ∙ ap (λ o. fold collected o (offers_from series reference (detail_count past + 1) (supply_details s))) c.loop-supply.invariant.offers
          ∙ sym (fold-append collected old (offers_from series reference 1 (entry_details past)) (offers_from series reference (detail_count past + 1) (supply_details s)))
          ∙ ap (fold collected old) (sym (offers-supply series reference past s))
          ∙ ap (λ (ss : List ProductSupply). fold collected old (offers_from series reference 1 (entry_details ss))) (sym more);
    }
