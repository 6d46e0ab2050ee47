use Rattle.std.proofs.Common.{◌≡◌, ◌++◌, length}
use Rattle.feed_outline.specs.Namespaces.{bindings_of}
use Rattle.feed_outline.specs.Views.{binding_views}
use Rattle.feed_outline.proofs.NamespaceLaws.{left}
use Rattle.feed_outline.proofs.namespaces.bindings_of.Given as goal

abbrev pub invariant-loop-next : goal.invariant-loop-next
invariant-loop-next l =
    bindings_of l.attributes ≡ binding_views l.bindings.items ++ bindings_of (left l.next)

abbrev pub decreases-loop-next : goal.decreases-loop-next
decreases-loop-next l = length (left l.next)
