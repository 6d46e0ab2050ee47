use Rattle.std.proofs.Common.{◌≡◌, ◌+◌, ◌++◌, ◌∷◌, [], arith, drop, refl, sym, ap, ◌∙◌, subst}
use Rattle.std.proofs.lemmas.List.{append_assoc, append-nil, drop_all, drop_more}
use Rattle.series_rules.specs.Gaps.{AreHeldFrom, range_below, ranges_of}
use Rattle.series_rules.proofs.GapLemmas.{held_rest}
use Rattle.series_rules.proofs.HeldNumbers.{lacking_from, ranges_next, ranges_over}
use Rattle.series_rules.proofs.gaps.missing_numbers.Goals as goal

pub loop-number-init : goal.loop-number-init
loop-number-init c = record {
  positive = c.requires;
  so_far = λ f greatest held is. (held, rw c.new-missing.ensures refl);
}

pub push_range-requires : goal.push_range-requires
push_range-requires c = c.loop-number.invariant.positive

pub loop-number-preserved : goal.loop-number-preserved
loop-number-preserved c =
    let held = c.args.held.now in
    let i = c.loop-number.number-index in
    let n = c.number-item.result in
    let left : drop i held ≡ n ∷ drop (i + 1) held = drop_more held i n c.loop-number-test.true ∙ ap (λ k. k ∷ drop (i + 1) held) (sym c.number-item.is) in
    record {
      positive = omega arith;
      so_far = λ f greatest are is.
          let before = c.loop-number.invariant.so_far f greatest are is in
          let now : AreHeldFrom f c.loop-number.seen (n ∷ drop (i + 1) held) = subst (AreHeldFrom f c.loop-number.seen) left before.0 in
          let next = ranges_next f greatest c.loop-number.seen n (drop (i + 1) held) is now in
          rw c.value-seen.ensures.value (
            held_rest f c.loop-number.seen n (drop (i + 1) held) now,
            ap (λ ps. ps ++ ranges_of (lacking_from f greatest (n + 1))) c.in_ok-push_range.ensures
                ∙ append_assoc c.loop-number.missing (range_below c.loop-number.seen n) (ranges_of (lacking_from f greatest (n + 1)))
                ∙ ap (λ ps. c.loop-number.missing ++ ps) (sym next) ∙ before.1,
          );
    }

pub returns : goal.returns
returns c = λ f greatest are is.
    let held = c.args.held.now in
    let before = c.loop-number.invariant.so_far f greatest are is in
    let none : drop c.loop-number.number-index held ≡ [] = drop_all c.loop-number.number-index held (omega arith) in
    let over = ranges_over f greatest c.loop-number.seen is (subst (AreHeldFrom f c.loop-number.seen) none before.0) in
    sym (append-nil c.loop-number.missing) ∙ ap (λ ps. c.loop-number.missing ++ ps) (sym over) ∙ before.1
