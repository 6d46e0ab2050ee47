use Rattle.std.proofs.Common.{◌≡◌, ◌+◌, ◌++◌, ◌∷◌, [], ap, ◌∙◌, subst, arith, rules, length}
use Rattle.std.specs.Ordering.{nat_cmp}
use Rattle.std.specs.BTreeMap.{get}
use Rattle.desk_memory.proofs.Folding.{begins_more, front_folded, last_length}
use Rattle.desk_memory.proofs.Walks.{Rest, entries_from, rest_first, rest_from, rest_gap, rest_more, rest_over}
use Rattle.desk_memory.proofs.fold.Fold.go_on.Goals as goal

pub loop-number-init : goal.loop-number-init
loop-number-init c =
    let entries = c.args.numbers.now.entries in
    let start : c.into_iter-number-iterator.result ≡ entries_from c.start_of-start.result entries = c.into_iter-number-iterator.ensures.into_iter_gives ∙ c.range-number-items.ensures.between (search rules) in
    record {
      walk = (c.start_of-start.result, c.start_of-start.ensures, rw start (rest_from entries c.start_of-start.result c.range-number-items.ensures.ordered));
      folded = c.requires;
    }

pub loop-number-preserved : goal.loop-number-preserved
loop-number-preserved c =
    let f = get nat_cmp c.args.numbers.now in
    let w = c.loop-number.invariant.walk in
    let was = c.loop-number.invariant.folded in
    let walk : Rest f w.0 ((c.in-Some.number.now, c.in-Some.standing.now) ∷ c.next.new.self) = subst (Rest f w.0) c.in-Some.ensures.steps w.2 in
    let next = was.2.next in
    let place : c.args.from + length was.0 ≡ c.in-Some.number.now = omega arith in
    let now = c.in_ok-add.ensures.ok c.args.from was.0 was.2 in
    let longer = last_length was.0 c.in-Some.standing.now in
    let next_now = now.next in
    record {
      walk = (c.in-Some.number.now + 1, omega arith, rest_more f w.0 _ _ walk);
      folded = (was.0 ++ c.in-Some.standing.now ∷ [], begins_more f c.args.from was.0 c.in-Some.standing.now was.1 (ap f place ∙ rest_first f w.0 _ _ walk), now);
    }

pub returns-then-value-self-2-clause-front : goal.returns-then-value-self-2-clause-front
returns-then-value-self-2-clause-front c = λ hs is.
    let f = get nat_cmp c.args.numbers.now in
    let w = c.loop-number.invariant.walk in
    let walk : Rest f w.0 ((c.in-Some.number.now, c.in-Some.standing.now) ∷ c.next.new.self) = subst (Rest f w.0) c.in-Some.ensures.steps w.2 in
    front_folded f c.args.from c.loop-number.self c.loop-number.invariant.folded (rest_gap f w.0 _ _ walk c.loop-number.self.next w.1 (omega arith)) hs is

pub add-requires : goal.add-requires
add-requires c = omega arith

pub returns-in_err-add-clause-folded : goal.returns-in_err-add-clause-folded
returns-in_err-add-clause-folded c =
    let was = c.loop-number.invariant.folded in
    (was.0, was.1, c.in_err-add.ensures.err c.args.from was.0 was.2)

pub returns : goal.returns
returns c =
    let f = get nat_cmp c.args.numbers.now in
    let w = c.loop-number.invariant.walk in
    let none = rest_over f w.0 c.loop-number.self.next (subst (Rest f w.0) c.in-None.ensures.steps.0 w.2) w.1 in
    record {
      folded = c.loop-number.invariant.folded;
      front = λ hs is. front_folded f c.args.from c.loop-number.self c.loop-number.invariant.folded none hs is;
    }
