use Rattle.std.proofs.Common.{◌≡◌, Ok, Err, refl, rules, subst}
use Rattle.sqlite.specs.Held.{state}
use Rattle.desk_tables.specs.Rows.{Holds, HoldsFirst, with_version}
use Rattle.desk_tables.specs.Schema.{desk_schema}
use Rattle.desk_versions.specs.Openings.{MakesAll}
use Rattle.desk_versions.proofs.MadeTables.{made_ended, made_failed}
use Rattle.desk_versions.proofs.version_two.migrate_first.Goals as goal

pub returns-in_err-migrate-clause-makes : goal.returns-in_err-migrate-clause-makes
returns-in_err-migrate-clause-makes g c = λ rows.
    let s0 = state g.S.Store c.args.tables.now.connection in
    let s1 = state g.S.Store c.in_ok-work.work.tables.now.connection in
    let s2 = state g.S.Store c.migrate.new.self.tables.now.connection in
    let s3 = state g.S.Store c.drop-work.new.self.0.connection in
    let e = c.in_err-migrate.field-0.0 in
    let result = c.from_residual-in_err-migrate.result in
    let failed : result ≡ Err e = search rules in
    let same : c.drop-work.new.self.0 ≡ c.tables-in_err-migrate-1.given.0 = search rules in
    subst (λ t. MakesAll (λ db. HoldsFirst db rows) (λ db. Holds db (with_version 2 rows)) s0 (state g.S.Store t.connection) result) same
    (made_failed (λ db. HoldsFirst db rows) (λ db. Holds db (with_version 2 rows)) c.in_ok-work.work s0 s1 s2 s3 c.in_ok-work.work.spent c.migrate.new.self.spent c.in_ok-work.ensures.begun (Err e) (c.in_err-migrate.ensures.migrates rows) result e failed c.drop-work.ensures.undone c.drop-work.ensures.survives)

pub returns-in_err-migrate-clause-again : goal.returns-in_err-migrate-clause-again
returns-in_err-migrate-clause-again g c =
    let s0 = state g.S.Store c.args.tables.now.connection in
    let s1 = state g.S.Store c.in_ok-work.work.tables.now.connection in
    let s2 = state g.S.Store c.migrate.new.self.tables.now.connection in
    let s3 = state g.S.Store c.drop-work.new.self.0.connection in
    let e = c.in_err-migrate.field-0.0 in
    let result = c.from_residual-in_err-migrate.result in
    let failed : result ≡ Err e = search rules in
    let same : c.drop-work.new.self.0 ≡ c.tables-in_err-migrate-1.given.0 = search rules in
    subst (λ t. MakesAll (λ db. db.schema ≡ desk_schema) (λ _. ⊥) s0 (state g.S.Store t.connection) result) same
    (made_failed (λ db. db.schema ≡ desk_schema) (λ _. ⊥) c.in_ok-work.work s0 s1 s2 s3 c.in_ok-work.work.spent c.migrate.new.self.spent c.in_ok-work.ensures.begun (Err e) c.in_err-migrate.ensures.again result e failed c.drop-work.ensures.undone c.drop-work.ensures.survives)

pub returns-clause-makes : goal.returns-clause-makes
returns-clause-makes g c = λ rows.
    let s0 = state g.S.Store c.args.tables.now.connection in
    let s1 = state g.S.Store c.in_ok-work.work.tables.now.connection in
    let s2 = state g.S.Store c.migrate.new.self.tables.now.connection in
    let s3 = state g.S.Store c.commit.new.self.0.connection in
    let same : c.commit.new.self.0 ≡ c.tables-2-1.given.0 = search rules in
    subst (λ t. MakesAll (λ db. HoldsFirst db rows) (λ db. Holds db (with_version 2 rows)) s0 (state g.S.Store t.connection) c.commit.result) same
    (made_ended (λ db. HoldsFirst db rows) (λ db. Holds db (with_version 2 rows)) c.in_ok-work.work s0 s1 s2 s3 c.in_ok-work.work.spent c.migrate.new.self.spent c.in_ok-work.ensures.begun (Ok c.in_ok-migrate.field-0) (c.in_ok-migrate.ensures.migrates rows) c.in_ok-migrate.field-0 refl c.commit.result c.commit.ensures.end.ends c.commit.ensures.end.durable)

pub returns-clause-again : goal.returns-clause-again
returns-clause-again g c =
    let s0 = state g.S.Store c.args.tables.now.connection in
    let s1 = state g.S.Store c.in_ok-work.work.tables.now.connection in
    let s2 = state g.S.Store c.migrate.new.self.tables.now.connection in
    let s3 = state g.S.Store c.commit.new.self.0.connection in
    let same : c.commit.new.self.0 ≡ c.tables-2-1.given.0 = search rules in
    subst (λ t. MakesAll (λ db. db.schema ≡ desk_schema) (λ _. ⊥) s0 (state g.S.Store t.connection) c.commit.result) same
    (made_ended (λ db. db.schema ≡ desk_schema) (λ _. ⊥) c.in_ok-work.work s0 s1 s2 s3 c.in_ok-work.work.spent c.migrate.new.self.spent c.in_ok-work.ensures.begun (Ok c.in_ok-migrate.field-0) c.in_ok-migrate.ensures.again c.in_ok-migrate.field-0 refl c.commit.result c.commit.ensures.end.ends c.commit.ensures.end.durable)
