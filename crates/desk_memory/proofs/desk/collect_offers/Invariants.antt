use Rattle.std.proofs.Common.{◌≡◌, List, fold, take}
use Rattle.std.specs.List.{flat_map}
use Rattle.series_rules.specs.Offers.{series_offers, with_names}
use Rattle.desk_memory.specs.Stands.{StandsFor, kept_agreements}
use Rattle.series_rules.specs.declared.requests.Request.{Request}
use Rattle.desk_memory.proofs.desk.collect_offers.Given as goal

abbrev pub invariant-loop-series : goal.invariant-loop-series
invariant-loop-series g l = (L : List Request) → StandsFor l.kept L
    → l.collector ≡ fold g.C.OfferCollector.collected l.fn.collector (flat_map (series_offers L l.isbn) (with_names (kept_agreements (take l.series-index l.kept))))
