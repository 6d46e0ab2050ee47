use Rattle.std.proofs.Common.{◌∙◌, sym}
use Rattle.desk_export.proofs.FilledRecords.{if_ok}
use Rattle.desk_export.proofs.Waivers.{is_waiver}
use Rattle.desk_export.proofs.request_text.write_standing.Goals as goal

pub returns-then-is_waived : goal.returns-then-is_waived
returns-then-is_waived c =
    if_ok c.write_waiver.result
    (λ text is h same. is_waiver c.args.agreement.now c.args.number c.args.stored.now _ (sym c.is_waived.ensures ∙ c.if-is_waived.true) is h same)
    c.write_waiver.ensures
