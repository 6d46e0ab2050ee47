use Rattle.std.proofs.Common.{◌≡◌, fold}
use Rattle.std.specs.List.{flat_map}
use Rattle.catalogue_rules.proofs.ArticleIndexes.{offers_at}
use Rattle.catalogue_rules.proofs.Listings.{at_first}
use Rattle.catalogue_rules.proofs.article_index.ArticleIndex.collect_offers.Given as goal

abbrev pub invariant-loop-listing : goal.invariant-loop-listing
invariant-loop-listing g l =
    fold g.C.OfferCollector.collected l.collector (flat_map (offers_at l.series l.isbn l.catalogue) (at_first l.isbn l.listing-iterator))
    ≡ fold g.C.OfferCollector.collected l.fn.collector (flat_map (offers_at l.series l.isbn l.catalogue) (at_first l.isbn l.initial.listing-iterator))
