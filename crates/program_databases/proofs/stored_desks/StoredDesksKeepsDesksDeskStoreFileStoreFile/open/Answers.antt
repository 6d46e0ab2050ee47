use Rattle.std.proofs.Common.{◌∙◌, subst}
use Rattle.sqlite.specs.Files.{file_state, image_of}
use Rattle.desk_rows.specs.Seen.{seen_in}
use Rattle.desk_versions.specs.Creation.{AreRefused}
use Rattle.desk_versions.specs.Openings.{opening}
use Rattle.program_desks.specs.DeskFiles.{OpensAs}
use Rattle.program_databases.proofs.SettledLemmas.{none_left, spares_refused, spares_settled}
use Rattle.program_databases.proofs.ViewLemmas.{opens_as}
use Rattle.program_databases.specs.FileViews.{seen_image}
use Rattle.program_databases.specs.Found.{store_creation}
use Rattle.program_databases.proofs.stored_desks.StoredDesksKeepsDesksDeskStoreFileStoreFile.open.Goals as goal

pub returns-in-Ok-open_files_with-clause-ok : goal.returns-in-Ok-open_files_with-clause-ok
returns-in-Ok-open_files_with-clause-ok g c =
    let opened = c.in-Ok-open_files_with.ensures in
    let state = file_state c.in-Ok-open_files_with.desk.tables.connection in
    let same = c.in-Ok.ensures.chosen ∙ c.creation_of-creation.ensures in
    subst (λ i. OpensAs (seen_image i c.args.creation) (seen_in state)) c.in-Ok.ensures.settled.0
    (opens_as _ c.args.creation state opened.stands opened.alone opened.taken (λ clean. subst (λ by. ¬ AreRefused by (image_of g.O.File.Disk c.in-Ok.opened.0)) same (opened.chosen clean)))

pub returns-clause-err : goal.returns-clause-err
returns-clause-err g c = λ clean.
    let image = g.O.Databases.held c.args.self.databases c.args.name.now in (
      spares_settled g.O.File.Disk opening image c.in-Ok.opened.0 c.in-Err-open_files_with.left c.in-Ok.ensures.settled (c.in-Err-open_files_with.ensures.left clean),
      spares_refused g.O.File.Disk c.in-Ok.opened.1.creation (store_creation c.args.creation) image c.in-Ok.opened.0 c.in-Err-open_files_with.left c.in-Ok.ensures.settled (c.in-Ok.ensures.chosen ∙ c.creation_of-creation.ensures)
          (c.in-Err-open_files_with.ensures.spared clean),
    )

pub returns-in-Err-clause-err : goal.returns-in-Err-clause-err
returns-in-Err-clause-err g c = none_left g.O.File.Disk opening (store_creation c.args.creation) (g.O.Databases.held c.args.self.databases c.args.name.now) c.in-Err.none c.in-Err.ensures.none
