use Rattle.feed_outline.proofs.OutlineLaws.{told, passes, again}
use Rattle.feed_outline.proofs.laws.outlines_tell.Goals as goal

pub returns : goal.returns
returns c = record { told = told; passes = passes; again = again }
