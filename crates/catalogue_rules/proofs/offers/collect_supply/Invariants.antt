use Rattle.std.proofs.Common.{◌≡◌, ◌+◌, fold, map, take}
use Rattle.catalogue_rules.specs.Offers.{offers_from}
use Rattle.catalogue_rules.proofs.offers.collect_supply.Given as goal

abbrev pub invariant-loop-detail : goal.invariant-loop-detail
invariant-loop-detail g l = record {
  place : l.place ≡ l.before + l.detail-index;
  offers : l.collector ≡ fold g.C.OfferCollector.collected l.fn.collector (offers_from l.series l.reference (l.before + 1) (map (λ d. (l.supply.market, d)) (take l.detail-index l.supply.details)));
}
