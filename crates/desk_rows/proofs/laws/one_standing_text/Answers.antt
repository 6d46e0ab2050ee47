use Rattle.desk_rows.proofs.OneText.{texts_tell_apart}
use Rattle.desk_rows.proofs.laws.one_standing_text.Goals as goal

pub returns : goal.returns
returns c = texts_tell_apart c.one_contents_text.ensures
