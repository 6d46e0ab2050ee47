use Rattle.std.proofs.Common.{◌≡◌, length}
use Rattle.feed_outline.specs.Namespaces.{address_among}
use Rattle.feed_outline.specs.Views.{binding_views}
use Rattle.feed_outline.proofs.namespaces.address_among.Given as goal

abbrev pub invariant-loop-rest : goal.invariant-loop-rest
invariant-loop-rest l =
    address_among l.prefix (binding_views l.rest) ≡ address_among l.prefix (binding_views l.bindings)

abbrev pub decreases-loop-rest : goal.decreases-loop-rest
decreases-loop-rest l = length l.rest
