use Rattle.std.proofs.Common.{◌≡◌, fold, take}
use Rattle.onix_records.specs.DetailCount.{detail_count}
use Rattle.catalogue_rules.specs.Offers.{entry_details, offers_from}
use Rattle.catalogue_rules.proofs.offers.collect_entry.Given as goal

abbrev pub invariant-loop-supply : goal.invariant-loop-supply
invariant-loop-supply g l = record {
  count : l.count ≡ detail_count (take l.supply-index l.entry.supplies);
  offers : l.collector ≡ fold g.C.OfferCollector.collected l.fn.collector (offers_from l.series l.reference 1 (entry_details (take l.supply-index l.entry.supplies)));
}
