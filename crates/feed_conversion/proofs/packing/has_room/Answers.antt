use Rattle.std.proofs.Common.{arith}
use Rattle.feed_conversion.specs.private.Stages.{has_room}
use Rattle.feed_conversion.proofs.EndLaws.{end_within}
use Rattle.feed_conversion.proofs.packing.has_room.Goals as goal

-- far from the limit there is room for the end
pub returns-then-size : goal.returns-then-size
unfolding has_room
returns-then-size c = grind (arith, end_within)
