use Rattle.std.proofs.Common.{◌<◌, ◌≤◌, sym, ◌∙◌, arith}
use Rattle.desk_catalogue.proofs.DoesLemmas.{called, did_as, did_then}
use Rattle.desk_rows.proofs.Found.{waives_before, waives_named, waives_unknown}
use Rattle.desk_rows.proofs.decisions.waive_in.Goals as goal

pub returns-in_default : goal.returns-in_default
returns-in_default g c =
    did_as (called c.in_ok-found.ensures) (λ rows now one. waives_unknown rows now c.args.series.now c.args.number one.1 (sym c.in_default.is ∙ one.0))

pub returns-then-value : goal.returns-then-value
returns-then-value g c =
    let row = c.in-Some.row in
    let lt : c.args.number < row.agreement.first = omega (arith, c.value.ensures.value, c.value-2.ensures.value, c.if-value.true) in
    did_as (called c.in_ok-found.ensures) (λ rows now one. waives_before rows now c.args.series.now c.args.number row one.1 (sym c.in-Some.is ∙ one.0) lt)

pub returns : goal.returns
returns g c =
    let n = c.args.number in
    let row = c.in-Some.row in
    let le : row.agreement.first ≤ n = omega (arith, c.value.ensures.value, c.value-2.ensures.value, c.if-value.false) in
    let lt : n < 1000000000 = omega (arith, c.value.ensures.value, c.value.ensures.below) in
    did_then (called c.in_ok-found.ensures) c.waive_at.ensures
    (λ rows between now answer one two. waives_named rows between now c.args.series.now n row answer one.1 (sym c.in-Some.is ∙ one.0) le lt two)
