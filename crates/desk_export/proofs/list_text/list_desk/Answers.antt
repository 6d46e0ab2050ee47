use Rattle.std.proofs.Common.{◌≡◌, Err, arith, rules}
use Rattle.desk_export.specs.ListTexts.{series_texts}
use Rattle.desk_export.proofs.TakenTexts.{all_listed, got_at, more_listed, not_told, series_stopped}
use Rattle.desk_export.proofs.list_text.list_desk.Goals as goal

pub loop-agreement-preserved : goal.loop-agreement-preserved
loop-agreement-preserved g c =
    let inv = c.loop-agreement.invariant in
    let agreements = c.as_slice-all.result.now in
    let i = c.loop-agreement.agreement-index in
    let a = c.agreement-item.result in
    record {
      names = λ L stands sound. inv.names L stands (c.in_ok-list_series.ensures.premise sound);
      done = more_listed (series_texts c.args.listed) agreements i a tt _ tt inv.done inv.names c.in_ok-list_series.ensures (got_at agreements i a c.agreement-item.is c.loop-agreement-test.true);
    }

pub returns : goal.returns
returns g c =
    let inv = c.loop-agreement.invariant in
    all_listed (series_texts c.args.listed) c.as_slice-all.result.now c.loop-agreement.agreement-index tt _ inv.done inv.names (omega (arith, c.loop-agreement-test.false))

pub returns-in-Err : goal.returns-in-Err
returns-in-Err g c = not_told _ c.in-Err.ensures

pub returns-in_err-list_series : goal.returns-in_err-list_series
returns-in_err-list_series g c =
    let inv = c.loop-agreement.invariant in
    let agreements = c.as_slice-all.result.now in
    let i = c.loop-agreement.agreement-index in
    let a = c.agreement-item.result in
    let fault = c.in_err-list_series.field-0.0 in
    let is : c.from_residual.result ≡ Err fault = search rules in
    rw is (series_stopped (series_texts c.args.listed) agreements i a tt fault inv.done inv.names c.in_err-list_series.ensures (got_at agreements i a c.agreement-item.is c.loop-agreement-test.true))
