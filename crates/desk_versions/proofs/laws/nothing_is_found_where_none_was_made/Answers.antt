use Rattle.desk_versions.proofs.EmptyFiles.{nothing_found}
use Rattle.desk_versions.proofs.laws.nothing_is_found_where_none_was_made.Goals as goal

pub returns : goal.returns
returns c = nothing_found
