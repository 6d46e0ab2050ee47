use Rattle.desk_stops.proofs.OneContent.{rows_have_one_content}
use Rattle.desk_stops.proofs.laws.rows_have_one_content.Goals as goal

pub returns : goal.returns
returns c = rows_have_one_content c.one_standing_text.ensures
