use Rattle.std.proofs.Common.{◌≡◌, rules, subst}
use Rattle.sqlite.specs.Held.{state}
use Rattle.desk_versions.specs.Openings.{IsVersionRead}
use Rattle.desk_versions.proofs.MadeTables.{version_read}
use Rattle.desk_versions.proofs.opening.read_version.Goals as goal

pub returns : goal.returns
returns g c =
    let s0 = state g.S.Store c.args.tables.now.connection in
    let s1 = state g.S.Store c.in_ok-work.work.tables.now.connection in
    let s2 = state g.S.Store c.version.new.self.tables.now.connection in
    let s3 = state g.S.Store c.drop-work.new.self.0.connection in
    let told = c.version.ensures in
    let same : c.drop-work.new.self.0 ≡ c.tables-2-1.given.0 = search rules in
    subst (λ t. IsVersionRead s0 (state g.S.Store t.connection) c.version.result) same
    (version_read c.in_ok-work.work s0 s1 s2 s3 c.in_ok-work.work.spent c.version.new.self.spent c.version.result c.in_ok-work.ensures.begun
    (λ none. (told.absent none).0) told.present told.tells told.keeps_meta c.drop-work.ensures.undone c.drop-work.ensures.survives)
