use Rattle.std.proofs.Common.{◌≡◌, ◌+◌, Bool, true, false, arith, refl, subst, rules, sym, ◌∙◌}
use Rattle.desk_catalogue.proofs.DoesLemmas.{did_as, did_fail, did_nothing, did_stop, did_then}
use Rattle.desk_tables.specs.Rows.{DeskRows}
use Rattle.desk_rows.specs.Changes.{Drains}
use Rattle.desk_rows.proofs.Applied.{DrainsTo, drained_all, drained_more, drained_up, step_at}
use Rattle.desk_rows.proofs.NumberValues.{number_is}
use Rattle.desk_rows.proofs.applying.drain.Goals as goal

pub loop-value-init : goal.loop-value-init
loop-value-init g c = did_nothing (λ rows. λ f a base cut same. cut)

pub returns-in_default : goal.returns-in_default
returns-in_default g c = did_stop refl c.loop-value.invariant

pub returns-in_err-moved : goal.returns-in_err-moved
returns-in_err-moved g c = did_fail (search rules) c.loop-value.invariant c.in_err-moved.ensures

pub returns-then-not-moved : goal.returns-then-not-moved
returns-then-not-moved g c =
    let s = c.args.series.now in
    let k = c.loop-value.value in
    let Done : DeskRows → Bool → DeskRows → Type 0 = λ rows moved now. moved ≡ false → Drains s c.args.from rows now in
    let stopped : c.in_ok-moved.moved ≡ false = search rules in
    let at = number_is k c.in-Some.number (sym c.in-Some.is ∙ c.from_value.ensures) in
    did_as {First = Done}
    (did_then c.loop-value.invariant c.in_ok-moved.ensures
    (λ rows between now b one two. λ e. drained_up s c.args.from k rows between now one (step_at s c.in-Some.number k between b false now at e two)))
    (λ rows now one. one stopped)

pub loop-value-preserved : goal.loop-value-preserved
loop-value-preserved g c =
    let s = c.args.series.now in
    let k = c.loop-value.value in
    let More : DeskRows → Bool → DeskRows → Type 0 = λ rows moved now. moved ≡ true → DrainsTo s c.args.from (k + 1) rows now in
    let moved : c.in_ok-moved.moved ≡ true = search rules in
    let at = number_is k c.in-Some.number (sym c.in-Some.is ∙ c.from_value.ensures) in
    did_as {First = More}
    (did_then c.loop-value.invariant c.in_ok-moved.ensures
    (λ rows between now b one two. λ e. drained_more s c.args.from k rows between now one (step_at s c.in-Some.number k between b true now at e two)))
    (λ rows now one. one moved)

pub returns : goal.returns
returns g c =
    let s = c.args.series.now in
    let end : c.loop-value.value ≡ 1000000000 = omega arith in
    did_as c.loop-value.invariant (λ rows now one. drained_all s c.args.from 1000000000 rows now (omega arith) (subst (λ k. DrainsTo s c.args.from k rows now) end one))
