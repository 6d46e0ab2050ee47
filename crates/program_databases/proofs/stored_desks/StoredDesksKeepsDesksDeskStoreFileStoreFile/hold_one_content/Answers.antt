use Rattle.program_databases.proofs.ContentLemmas.{image_holds_one}
use Rattle.program_databases.proofs.stored_desks.StoredDesksKeepsDesksDeskStoreFileStoreFile.hold_one_content.Goals as goal

pub returns : goal.returns
returns g c databases name creation sound L M held also =
    image_holds_one c.rows_have_one_content.ensures (g.O.Databases.held databases.databases name) creation sound L M held also
