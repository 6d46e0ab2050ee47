use Rattle.std.proofs.Common.{◌≡◌, ◌≤◌, length, reverse}
use Rattle.feed_outline.specs.private.Growing.{scopes_of}
use Rattle.feed_outline.specs.Namespaces.{address_within}
use Rattle.feed_outline.specs.private.OpenViews.{open_views}
use Rattle.feed_outline.proofs.grower.address_within.Given as goal

abbrev pub invariant-loop-rest : goal.invariant-loop-rest
invariant-loop-rest l =
    (address_within l.prefix (scopes_of (reverse (open_views l.rest)))
    ≡ address_within l.prefix (scopes_of (reverse (open_views l.opens))))
    × (length l.rest ≤ length l.opens)

abbrev pub decreases-loop-rest : goal.decreases-loop-rest
decreases-loop-rest l = length l.rest
