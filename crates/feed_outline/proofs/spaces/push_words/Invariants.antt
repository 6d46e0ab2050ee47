use Rattle.std.proofs.Common.{◌≡◌, length}
use Rattle.feed_outline.specs.private.Growing.{grown}
use Rattle.feed_outline.proofs.spaces.push_words.Given as goal

abbrev pub invariant-loop-rest : goal.invariant-loop-rest
invariant-loop-rest l = grown l.out.items l.waits l.rest ≡ grown l.initial.out.items l.initial.waits l.text

abbrev pub decreases-loop-rest : goal.decreases-loop-rest
decreases-loop-rest l = length l.rest
