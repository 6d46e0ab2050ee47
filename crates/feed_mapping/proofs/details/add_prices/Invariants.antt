use Rattle.std.proofs.Common.{◌≡◌, ◌++◌, length, map}
use Rattle.feed_mapping.specs.Notes.{note_views}
use Rattle.feed_mapping.specs.Outcomes.{all_notes, all_records}
use Rattle.feed_mapping.specs.PriceTexts.{price_view}
use Rattle.feed_mapping.specs.Prices.{context_view, price_outcome}
use Rattle.feed_mapping.proofs.details.add_prices.Given as goal

abbrev pub invariant-loop-rest : goal.invariant-loop-rest
invariant-loop-rest l =
    let comes = price_outcome (context_view l.context) in
    (l.records ++ all_records comes (map price_view l.rest) ≡ l.initial.records ++ all_records comes (map price_view l.prices))
    × (note_views l.notes.items ++ all_notes comes (map price_view l.rest) ≡ note_views l.initial.notes.items ++ all_notes comes (map price_view l.prices))

abbrev pub decreases-loop-rest : goal.decreases-loop-rest
decreases-loop-rest l = length l.rest
