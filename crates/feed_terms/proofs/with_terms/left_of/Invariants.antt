use Rattle.std.proofs.Common.{◌≡◌, ◌≤◌, filter, length, not, take}
use Rattle.feed_terms.specs.WithTerms.{held_by}
use Rattle.feed_terms.proofs.with_terms.left_of.Given as goal

abbrev pub invariant-loop-computed : goal.invariant-loop-computed
invariant-loop-computed l = record {
  left : l.left.items ≡ filter (λ c. not (held_by l.beside l.price c)) (take l.computed-index l.prices);
  few : length l.left.items ≤ l.computed-index;
}
