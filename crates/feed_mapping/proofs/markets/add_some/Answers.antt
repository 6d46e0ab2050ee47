use Rattle.std.specs.Prelude.{codes}
use Rattle.feed_mapping.specs.Elements.{composites}
use Rattle.std.specs.List.{flat_map}
use Rattle.feed_mapping.specs.Markets.{market_notes}
use Rattle.feed_mapping.proofs.markets.add_some.Goals as goal

pub returns-clause-reason : goal.returns-clause-reason
returns-clause-reason c =
    rw (c.in_ok-kept.ensures.first, c.in_ok-kept.ensures.territories, c.in_ok-kept.ensures.foreign) at (c.add_kept.ensures.reason (flat_map market_notes (composites (codes "Market") c.args.elements.now)))
