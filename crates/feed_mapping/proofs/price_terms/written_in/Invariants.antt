use Rattle.std.proofs.Common.{◌≡◌, ◌++◌, length, map}
use Rattle.feed_mapping.specs.Notes.{note_views}
use Rattle.feed_mapping.specs.Outcomes.{all_notes, all_records}
use Rattle.feed_mapping.specs.PriceTexts.{price_view}
use Rattle.feed_mapping.specs.Prices.{context_view, price_outcome}
use Rattle.feed_mapping.specs.PriceTerms.{all_given, closed_kinds}
use Rattle.feed_mapping.proofs.price_terms.written_in.Given as goal

abbrev pub invariant-loop-rest : goal.invariant-loop-rest
invariant-loop-rest l =
    let context = context_view l.context in record {
      records : l.written.records ++ all_records (price_outcome context) (map price_view l.rest) ≡ all_records (price_outcome context) (map price_view l.prices);
      given : l.written.given.items ++ all_given context (map price_view l.rest) ≡ all_given context (map price_view l.prices);
      closed : l.written.closed.items ++ closed_kinds context (map price_view l.rest) ≡ closed_kinds context (map price_view l.prices);
      notes : note_views l.notes.items ++ all_notes (price_outcome context) (map price_view l.rest) ≡ note_views l.initial.notes.items ++ all_notes (price_outcome context) (map price_view l.prices);
    }

abbrev pub decreases-loop-rest : goal.decreases-loop-rest
decreases-loop-rest l = length l.rest
