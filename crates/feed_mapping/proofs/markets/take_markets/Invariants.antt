use Rattle.std.proofs.Common.{◌≡◌, ◌++◌, length, option_map}
use Rattle.std.specs.Prelude.{◌||◌}
use Rattle.std.specs.Prelude.{codes}
use Rattle.feed_mapping.specs.Elements.{composites}
use Rattle.std.specs.List.{flat_map, list_any}
use Rattle.std.specs.Option.{option_or}
use Rattle.feed_mapping.specs.Markets.{first_kept, is_foreign_market, market_notes, territories_of}
use Rattle.feed_mapping.specs.Notes.{note_views}
use Rattle.feed_mapping.specs.Territories.{area_view}
use Rattle.feed_mapping.proofs.markets.take_markets.Given as goal

abbrev pub invariant-loop-market : goal.invariant-loop-market
invariant-loop-market l =
    (l.kept.territories ++ territories_of (composites (codes "Market") l.rest) ≡ territories_of (composites (codes "Market") l.elements))
    × (option_or (option_map area_view l.kept.first) (first_kept (composites (codes "Market") l.rest)) ≡ first_kept (composites (codes "Market") l.elements))
    × ((l.kept.some_foreign || list_any is_foreign_market (composites (codes "Market") l.rest)) ≡ list_any is_foreign_market (composites (codes "Market") l.elements))
    × (note_views l.notes.items ++ flat_map market_notes (composites (codes "Market") l.rest) ≡ note_views l.initial.notes.items ++ flat_map market_notes (composites (codes "Market") l.elements))

abbrev pub decreases-loop-market : goal.decreases-loop-market
decreases-loop-market l = length (composites (codes "Market") l.rest)
