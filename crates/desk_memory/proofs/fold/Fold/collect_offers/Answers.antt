use Rattle.std.proofs.Common.{◌≡◌, OnOk, fold, subst}
use Rattle.catalogue_rules.specs.Offers.{offers_in}
use Rattle.catalogue_rules.specs.Records.{ByReference}
use Rattle.desk_memory.proofs.fold.Fold.collect_offers.Goals as goal

pub returns : goal.returns
returns g c = λ from hs is.
    subst (λ (m : ByReference). OnOk c.collect_offers.result (c.collect_offers.new.collector ≡ fold g.C.OfferCollector.collected c.args.collector.now (offers_in c.args.series.now m c.args.isbn.now))) is.catalogue
    (c.collect_offers.ensures from hs is.listed is.next is.catalogue)
