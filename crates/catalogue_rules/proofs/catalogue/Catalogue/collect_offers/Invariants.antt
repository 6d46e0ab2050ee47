use Rattle.std.proofs.Common.{◌≡◌, fold}
use Rattle.std.specs.List.{All, flat_map}
use Rattle.catalogue_rules.specs.Records.{HasFewDetails, by_bytes}
use Rattle.catalogue_rules.specs.Offers.{offers_in, record_offers}
use Rattle.catalogue_rules.proofs.catalogue.Catalogue.collect_offers.Given as goal

abbrev pub invariant-loop-reference : goal.invariant-loop-reference
invariant-loop-reference g l = record {
  offers : fold g.C.OfferCollector.collected l.collector (flat_map (record_offers l.series l.isbn) (by_bytes l.reference-iterator)) ≡ fold g.C.OfferCollector.collected l.fn.collector (offers_in l.series l.self l.isbn);
  few : All (λ r. HasFewDetails r.1) (by_bytes l.reference-iterator);
}
