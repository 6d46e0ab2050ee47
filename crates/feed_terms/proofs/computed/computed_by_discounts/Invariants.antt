use Rattle.std.proofs.Common.{◌≡◌, [], fold, map, take}
use Rattle.feed_terms.specs.Computed.{HasPlaces, computed_with, with_least}
use Rattle.feed_terms.proofs.computed.computed_by_discounts.Given as goal

abbrev pub invariant-loop-discount : goal.invariant-loop-discount
invariant-loop-discount l = record {
  prices : l.prices.items ≡ fold with_least [] (map (computed_with l.term l.given) (take l.discount-index l.given.discounts));
  places : HasPlaces l.prices.items l.places;
}
