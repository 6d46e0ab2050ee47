use Rattle.desk_export.proofs.ExportTexts.{export_is_read}
use Rattle.desk_export.proofs.laws.export_is_read.Goals as goal

pub returns : goal.returns
returns c = export_is_read c.one_text.ensures.read c.export_is_true.ensures
