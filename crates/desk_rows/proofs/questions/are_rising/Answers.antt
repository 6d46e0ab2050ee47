use Rattle.std.proofs.Common.{◌≡◌, ◌+◌, ◌∷◌, [], arith, drop, ap, ◌∙◌, sym, subst}
use Rattle.std.proofs.lemmas.List.{drop_all, drop_more}
use Rattle.series_rules.specs.Gaps.{AreRisingFrom}
use Rattle.desk_rows.proofs.questions.are_rising.Goals as goal

pub loop-number-preserved : goal.loop-number-preserved
loop-number-preserved c =
    let numbers = c.args.numbers.now in
    let i = c.loop-number.number-index in
    let n = c.number-item.result in
    let left : drop i numbers ≡ n ∷ drop (i + 1) numbers = drop_more numbers i n c.loop-number-test.true ∙ ap (λ k. k ∷ drop (i + 1) numbers) (sym c.number-item.is) in
    record {
      so_far = λ rising. c.loop-number.invariant.so_far (subst (AreRisingFrom c.loop-number.least) (sym left) (omega arith, subst (λ m. AreRisingFrom (m + 1) (drop (i + 1) numbers)) c.value-least.ensures.value rising));
    }

pub returns : goal.returns
returns c = λ yes.
    let none : drop c.loop-number.number-index c.args.numbers.now ≡ [] = drop_all c.loop-number.number-index c.args.numbers.now (omega arith) in
    c.loop-number.invariant.so_far (subst (AreRisingFrom c.loop-number.least) (sym none) tt)
