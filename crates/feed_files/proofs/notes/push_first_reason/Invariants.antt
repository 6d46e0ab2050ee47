use Rattle.std.proofs.Common.{length}
use Rattle.std.specs.Prelude.{codes}
use Rattle.feed_mapping.specs.Elements.{composites}
use Rattle.feed_files.proofs.notes.push_first_reason.Given as goal

abbrev pub decreases-loop-supply : goal.decreases-loop-supply
decreases-loop-supply l = length (composites (codes "ProductSupply") l.rest)
