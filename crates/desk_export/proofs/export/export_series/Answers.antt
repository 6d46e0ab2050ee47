use Rattle.std.proofs.Common.{◌≡◌, Err, rules}
use Rattle.desk_export.proofs.TakenTexts.{agreement_stopped, series_exported}
use Rattle.desk_export.proofs.export.export_series.Goals as goal

pub returns : goal.returns
returns g c =
    series_exported c.gaps_are_true.ensures c.args.agreement.now c.in-Ok-Some.report c.export_held.result
    (rw c.in-Ok-Some.field-0-is at c.in-Ok-Some.ensures)
    c.in_ok-take_agreement.ensures
    c.export_held.ensures

pub returns-in_err-take_agreement : goal.returns-in_err-take_agreement
returns-in_err-take_agreement g c =
    let fault = c.in_err-take_agreement.field-0.0 in
    let is : c.from_residual.result ≡ Err fault = search rules in
    rw is (agreement_stopped c.args.agreement.now fault c.in-Ok-Some.ensures c.in_err-take_agreement.ensures)
