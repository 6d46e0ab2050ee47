use Rattle.desk_export.proofs.ExportLaw.{export_is_true}
use Rattle.desk_export.proofs.laws.export_is_true.Goals as goal

pub returns : goal.returns
returns c = export_is_true c.messages_read_back.ensures.read
