use Rattle.std.proofs.Common.{◌≡◌, sym, ◌∙◌, subst, arith}
use Rattle.std.specs.BTreeMap.{get}
use Rattle.std.specs.Ordering.{nat_cmp}
use Rattle.desk_memory.proofs.HeldWalk.{Walked, walk_later, walk_next, walk_over, walk_start}
use Rattle.desk_memory.proofs.Walks.{entries_from, rest_from}
use Rattle.desk_memory.proofs.gaps.held_numbers.Goals as goal

pub loop-number-init : goal.loop-number-init
loop-number-init c =
    let entries = c.args.numbers.now.entries in
    let start : c.into_iter-number-iterator.result ≡ entries_from c.args.first entries = c.into_iter-number-iterator.ensures.into_iter_gives ∙ c.range-number-items.ensures.between tt in
    record {
      below = omega arith;
      walked = rw (c.value-next.ensures.value, c.new-held.ensures.items, start) (walk_start (get nat_cmp c.args.numbers.now) c.args.first (entries_from c.args.first entries) (rest_from entries c.args.first c.range-number-items.ensures.ordered));
    }

pub loop-number-preserved-then-value-next : goal.loop-number-preserved-then-value-next
loop-number-preserved-then-value-next c =
    let was = subst (Walked (get nat_cmp c.args.numbers.now) c.args.first c.loop-number.next c.loop-number.held.items) c.in-Some.ensures.steps c.loop-number.invariant.walked in
    record {
      below = omega arith;
      walked = walk_next _ _ _ _ _ _ was (sym c.value.ensures.value ∙ c.if-value-next.true);
    }

pub loop-number-preserved : goal.loop-number-preserved
loop-number-preserved c =
    let was = subst (Walked (get nat_cmp c.args.numbers.now) c.args.first c.loop-number.next c.loop-number.held.items) c.in-Some.ensures.steps c.loop-number.invariant.walked in
    record {
      below = c.loop-number.invariant.below;
      walked = rw c.in_ok-push.ensures.items (walk_later _ _ _ _ _ _ was (λ same. c.if-value-next.false (c.value.ensures.value ∙ same)));
    }

pub returns : goal.returns
returns c =
    let was = subst (Walked (get nat_cmp c.args.numbers.now) c.args.first c.loop-number.next c.loop-number.held.items) c.in-None.ensures.steps.0 c.loop-number.invariant.walked in
    let over = walk_over _ _ _ _ was in
    record { below = c.loop-number.invariant.below; next = over.0; held = over.1 }
