use Rattle.desk_tables.proofs.OneSchema.{strangers}
use Rattle.desk_versions.proofs.laws.tables_of_strangers_tell_no_version.Goals as goal

pub returns : goal.returns
returns c = λ db none. strangers db.schema.tables none
