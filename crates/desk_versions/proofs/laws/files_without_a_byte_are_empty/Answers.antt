use Rattle.desk_versions.proofs.EmptyFiles.{empty_files}
use Rattle.desk_versions.proofs.laws.files_without_a_byte_are_empty.Goals as goal

pub returns : goal.returns
returns c = empty_files
