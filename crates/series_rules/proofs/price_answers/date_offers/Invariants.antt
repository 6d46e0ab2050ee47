use Rattle.std.proofs.Common.{◌≡◌, ◌++◌, length}
use Rattle.std.specs.Vec.Iter.{into_iter_items, into_iter_len}
use Rattle.series_rules.specs.PriceAnswers.{calendars_of}
use Rattle.series_rules.proofs.price_answers.date_offers.Given as goal

abbrev pub invariant-loop-offer : goal.invariant-loop-offer
invariant-loop-offer l = record {
  so_far : l.dated ++ calendars_of l.query (into_iter_items l.offer-iterator) ≡ calendars_of l.query l.fn.offers;
  counted : into_iter_len l.offer-iterator ≡ length (into_iter_items l.offer-iterator);
}
