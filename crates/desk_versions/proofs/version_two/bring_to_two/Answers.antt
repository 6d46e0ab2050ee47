use Rattle.std.proofs.Common.{Ok, Some, subst}
use Rattle.sqlite.specs.Held.{state}
use Rattle.desk_versions.specs.Migrations.{migration}
use Rattle.desk_versions.specs.Openings.{IsVersionRead}
use Rattle.desk_versions.specs.declared.version_two.MigrateAnswer.TheVariants.{Migrated, AlreadyTwo}
use Rattle.desk_versions.proofs.FoundTables.{became_created, became_other, became_same, became_uncreated, became_unread}
use Rattle.desk_versions.proofs.MigratedTables.{became_first, became_second, takes_neither}
use Rattle.desk_versions.proofs.version_two.bring_to_two.Goals as goal

pub returns-in-Ok-Some-eq2 : goal.returns-in-Ok-Some-eq2
returns-in-Ok-Some-eq2 g c =
    let s0 = state g.S.Store c.args.tables.now.connection in
    let s1 = state g.S.Store c.read_version.new.tables.connection in
    became_same migration s0 s1 (λ d up may. g.met.S.Store.settled c.args.tables.now.connection.store d up may) AlreadyTwo (λ db shown. tt)
    (subst (λ n. IsVersionRead s0 s1 (Ok (Some n))) c.in-Ok-Some-eq2.field-0-0-test (subst (λ o. IsVersionRead s0 s1 (Ok o)) c.in-Ok-Some-eq2.field-0-is c.in-Ok-Some-eq2.ensures))

pub returns-in-Ok : goal.returns-in-Ok
returns-in-Ok g c =
    let s0 = state g.S.Store c.args.tables.now.connection in
    let s1 = state g.S.Store c.read_version.new.tables.connection in
    let s2 = state g.S.Store c.migrate_first.new.tables.connection in
    became_second s0 s1 s2 (λ d up may. g.met.S.Store.settled c.args.tables.now.connection.store d up may)
    (subst (λ n. IsVersionRead s0 s1 (Ok (Some n))) c.in-Ok-Some-eq1.field-0-0-test (subst (λ o. IsVersionRead s0 s1 (Ok o)) c.in-Ok-Some-eq1.field-0-is c.in-Ok-Some-eq1.ensures)) c.in-Ok.ensures.makes c.in-Ok.ensures.again

pub returns-in-Err-migrate_first : goal.returns-in-Err-migrate_first
returns-in-Err-migrate_first g c =
    let s0 = state g.S.Store c.args.tables.now.connection in
    let s1 = state g.S.Store c.read_version.new.tables.connection in
    let s2 = state g.S.Store c.migrate_first.new.tables.connection in
    became_first s0 s1 s2 (λ d up may. g.met.S.Store.settled c.args.tables.now.connection.store d up may)
    (subst (λ n. IsVersionRead s0 s1 (Ok (Some n))) c.in-Ok-Some-eq1.field-0-0-test (subst (λ o. IsVersionRead s0 s1 (Ok o)) c.in-Ok-Some-eq1.field-0-is c.in-Ok-Some-eq1.ensures)) c.in-Err-migrate_first.fault c.in-Err-migrate_first.ensures.makes c.in-Err-migrate_first.ensures.again

pub returns-in-Ok-Some : goal.returns-in-Ok-Some
returns-in-Ok-Some g c =
    let s0 = state g.S.Store c.args.tables.now.connection in
    let s1 = state g.S.Store c.read_version.new.tables.connection in
    became_other migration s0 s1 (λ d up may. g.met.S.Store.settled c.args.tables.now.connection.store d up may) c.in-Ok-Some.found (takes_neither c.in-Ok-Some.found c.in-Ok-Some.found-test.1 c.in-Ok-Some.found-test.0.1)
    (subst (λ o. IsVersionRead s0 s1 (Ok o)) c.in-Ok-Some.field-0-is c.in-Ok-Some.ensures)

pub returns-in-Ok-create_tables : goal.returns-in-Ok-create_tables
returns-in-Ok-create_tables g c =
    let s0 = state g.S.Store c.args.tables.now.connection in
    let s1 = state g.S.Store c.read_version.new.tables.connection in
    let s2 = state g.S.Store c.create_tables.new.tables.connection in
    became_created migration Migrated s0 s1 s2 (λ d up may. g.met.S.Store.settled c.args.tables.now.connection.store d up may) tt
    (subst (λ o. IsVersionRead s0 s1 (Ok o)) c.in-Ok-None.field-0-is c.in-Ok-None.ensures) c.in-Ok-create_tables.ensures

pub returns-in-Err-create_tables : goal.returns-in-Err-create_tables
returns-in-Err-create_tables g c =
    let s0 = state g.S.Store c.args.tables.now.connection in
    let s1 = state g.S.Store c.read_version.new.tables.connection in
    let s2 = state g.S.Store c.create_tables.new.tables.connection in
    became_uncreated migration Migrated s0 s1 s2 (λ d up may. g.met.S.Store.settled c.args.tables.now.connection.store d up may) tt
    (subst (λ o. IsVersionRead s0 s1 (Ok o)) c.in-Ok-None.field-0-is c.in-Ok-None.ensures) c.in-Err-create_tables.fault c.in-Err-create_tables.ensures

pub returns-in-Err : goal.returns-in-Err
returns-in-Err g c =
    let s0 = state g.S.Store c.args.tables.now.connection in
    let s1 = state g.S.Store c.read_version.new.tables.connection in
    became_unread migration s0 s1 (λ d up may. g.met.S.Store.settled c.args.tables.now.connection.store d up may) c.in-Err.fault c.in-Err.ensures
