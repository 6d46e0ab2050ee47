use Rattle.series_rules.specs.declared.requests.Request.TheVariants.{Agree}
use Rattle.desk_export.specs.RequestRecords.{request_text}
use Rattle.desk_export.proofs.TakenTexts.{one_taken}
use Rattle.desk_export.proofs.list_text.list_series.Goals as goal

pub returns-in-Agreements : goal.returns-in-Agreements
returns-in-Agreements g c =
    rw c.in-Agreements.is (one_taken (g.D.Desk.seen c.args.desk.now) (request_text (Agree c.args.agreement.now)) c.take_agreement.result c.take_agreement.ensures)

pub returns-in-Gaps : goal.returns-in-Gaps
returns-in-Gaps g c = rw c.in-Gaps.is c.list_gaps.ensures

pub returns-in-Requests : goal.returns-in-Requests
returns-in-Requests g c = rw c.in-Requests.is c.export_series.ensures
