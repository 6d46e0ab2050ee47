use Rattle.std.proofs.Common.{◌≡◌, ◌∙◌, List, subst, sym}
use Rattle.sqlite.specs.Files.{image_of}
use Rattle.sqlite_disk.specs.declared.Disk.{Ghosts}
use Rattle.sqlite_disk.specs.declared.Files.{Files}
use Rattle.sqlite_wal.specs.Recovery.{Image}
use Rattle.series_rules.specs.declared.requests.Request.{Request}
use Rattle.desk_versions.specs.Creation.{AreRefused}
use Rattle.desk_versions.specs.Migrations.{AreFilesOfEither, AreMigrated, migration}
use Rattle.desk_versions.specs.Openings.{HoldRowsOf}
use Rattle.desk_versions.specs.declared.opening.Creation.{Creation}
use Rattle.desk_versions.specs.declared.version_two.MigrateAnswer.{MigrateAnswer}
use Rattle.program_desks.specs.declared.kept_desks.Migration.{Migration}
use Rattle.program_databases.proofs.SettledLemmas.{none_left, spares_refused, spares_settled}
use Rattle.program_databases.proofs.ViewLemmas.{same_refl}
use Rattle.program_databases.specs.Found.{store_creation}
use Rattle.program_databases.specs.Migrated.{IsMigrationDone, answer_as}
use Rattle.program_databases.proofs.stored_desks.StoredDesksKeepsDesksDeskStoreFileStoreFile.migrate.Goals as goal

-- it was done over what the files held
done : {D : Type 0} (g : Ghosts D) (by creation : Creation) (image : Image) (files now : Files D) (answer : MigrateAnswer) (did : Migration) → image_of g files ≡ image → answer_as did ≡ answer → by ≡ creation → AreMigrated answer (image_of g files) (image_of g now)
    → ((L : List Request) → AreFilesOfEither (image_of g files) L → HoldRowsOf (image_of g now) L) → ¬ AreRefused by (image_of g files) → IsMigrationDone g creation image did now
done g by creation image files now answer did same is made_by made holds chosen =
    subst (λ i. IsMigrationDone g creation i did now) same (record {
      made = subst (λ a. AreMigrated a (image_of g files) (image_of g now)) (sym is) made;
      holds = holds;
      taken = subst (λ c. ¬ AreRefused c (image_of g files)) made_by chosen;
    })

pub returns-in-Ok-migrate_files_with-clause-ok : goal.returns-in-Ok-migrate_files_with-clause-ok
returns-in-Ok-migrate_files_with-clause-ok g c =
    let it = c.in-Ok-migrate_files_with.ensures in
    let image = g.O.Databases.held c.args.self.databases c.args.name.now in
    let made_by = c.in-Ok.ensures.chosen ∙ c.creation_of-creation.ensures in
    record {
      requests = λ clean L either. (L, (done g.O.File.Disk c.in-Ok.opened.1.creation (store_creation c.args.creation) image c.in-Ok.opened.0 c.in-Ok-migrate_files_with.files c.in-Ok-migrate_files_with.answer c.migration_of.result c.in-Ok.ensures.settled.0 c.migration_of.ensures made_by (it.kept clean) (it.holds clean) (it.chosen clean)).holds L either, same_refl L);
      alone = λ clean. let one = it.copied clean in (one.0, (one.1, one.2));
      made = λ clean. done g.O.File.Disk c.in-Ok.opened.1.creation (store_creation c.args.creation) image c.in-Ok.opened.0 c.in-Ok-migrate_files_with.files c.in-Ok-migrate_files_with.answer c.migration_of.result c.in-Ok.ensures.settled.0 c.migration_of.ensures made_by (it.kept clean) (it.holds clean) (it.chosen clean);
    }

pub returns-clause-err : goal.returns-clause-err
returns-clause-err g c = λ clean.
    let image = g.O.Databases.held c.args.self.databases c.args.name.now in (
      spares_settled g.O.File.Disk migration image c.in-Ok.opened.0 c.in-Err-migrate_files_with.left c.in-Ok.ensures.settled (c.in-Err-migrate_files_with.ensures.left clean),
      spares_refused g.O.File.Disk c.in-Ok.opened.1.creation (store_creation c.args.creation) image c.in-Ok.opened.0 c.in-Err-migrate_files_with.left c.in-Ok.ensures.settled (c.in-Ok.ensures.chosen ∙ c.creation_of-creation.ensures)
          (c.in-Err-migrate_files_with.ensures.spared clean),
    )

pub returns-in-Err-clause-err : goal.returns-in-Err-clause-err
returns-in-Err-clause-err g c = none_left g.O.File.Disk migration (store_creation c.args.creation) (g.O.Databases.held c.args.self.databases c.args.name.now) c.in-Err.none c.in-Err.ensures.none
