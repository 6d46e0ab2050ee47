use Rattle.std.proofs.Common.{◌≡◌, length}
use Rattle.feed_outline.specs.Names.{is_called_apart}
use Rattle.feed_outline.specs.Views.{word_views}
use Rattle.feed_outline.proofs.names.is_called_apart.Given as goal

abbrev pub invariant-loop-rest : goal.invariant-loop-rest
invariant-loop-rest l =
    is_called_apart (word_views l.rest) l.composite l.name ≡ is_called_apart (word_views l.words) l.composite l.name

abbrev pub decreases-loop-rest : goal.decreases-loop-rest
decreases-loop-rest l = length l.rest
