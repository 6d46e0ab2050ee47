use Rattle.std.proofs.Common.{◌≡◌, ◌∙◌, ap, false, true, sym, Ok, Some, rules, subst}
use Rattle.sqlite.specs.Effect.{Database}
use Rattle.sqlite.specs.Held.{state}
use Rattle.desk_tables.specs.Schema.{lacks_index}
use Rattle.desk_versions.specs.Openings.{IsVersionRead, opening}
use Rattle.desk_versions.proofs.FoundTables.{became_created, became_indexed, became_other, became_same, became_uncreated, became_unindexed, became_unread}
use Rattle.desk_versions.proofs.opening.prepare.Goals as goal

pub returns-then-not-lacks_index : goal.returns-then-not-lacks_index
returns-then-not-lacks_index g c =
    let s0 = state g.S.Store c.args.tables.now.connection in
    let s1 = state g.S.Store c.read_version.new.tables.connection in
    let whole : lacks_index s1.now.schema ≡ false = search rules in
    became_same opening s0 s1 (λ d up may. g.met.S.Store.settled c.args.tables.now.connection.store d up may) tt (λ db shown. ap (λ (x : Database). lacks_index x.schema) (sym shown) ∙ whole)
    (subst (λ n. IsVersionRead s0 s1 (Ok (Some n))) c.in-Ok-Some-eq2.field-0-0-test (subst (λ o. IsVersionRead s0 s1 (Ok o)) c.in-Ok-Some-eq2.field-0-is c.in-Ok-Some-eq2.ensures))

pub returns-in-Ok : goal.returns-in-Ok
returns-in-Ok g c =
    let s0 = state g.S.Store c.args.tables.now.connection in
    let s1 = state g.S.Store c.read_version.new.tables.connection in
    let s2 = state g.S.Store c.index_articles.new.tables.connection in
    let lacks : lacks_index s1.now.schema ≡ true = search rules in
    became_indexed s0 s1 s2 (λ d up may. g.met.S.Store.settled c.args.tables.now.connection.store d up may)
    (subst (λ n. IsVersionRead s0 s1 (Ok (Some n))) c.in-Ok-Some-eq2.field-0-0-test (subst (λ o. IsVersionRead s0 s1 (Ok o)) c.in-Ok-Some-eq2.field-0-is c.in-Ok-Some-eq2.ensures)) lacks c.in-Ok.ensures

pub returns-in-Err-index_articles : goal.returns-in-Err-index_articles
returns-in-Err-index_articles g c =
    let s0 = state g.S.Store c.args.tables.now.connection in
    let s1 = state g.S.Store c.read_version.new.tables.connection in
    let s2 = state g.S.Store c.index_articles.new.tables.connection in
    let lacks : lacks_index s1.now.schema ≡ true = search rules in
    became_unindexed s0 s1 s2 (λ d up may. g.met.S.Store.settled c.args.tables.now.connection.store d up may)
    (subst (λ n. IsVersionRead s0 s1 (Ok (Some n))) c.in-Ok-Some-eq2.field-0-0-test (subst (λ o. IsVersionRead s0 s1 (Ok o)) c.in-Ok-Some-eq2.field-0-is c.in-Ok-Some-eq2.ensures)) lacks c.in-Err-index_articles.fault c.in-Err-index_articles.ensures

pub returns-in-Ok-Some : goal.returns-in-Ok-Some
returns-in-Ok-Some g c =
    let s0 = state g.S.Store c.args.tables.now.connection in
    let s1 = state g.S.Store c.read_version.new.tables.connection in
    became_other opening s0 s1 (λ d up may. g.met.S.Store.settled c.args.tables.now.connection.store d up may) c.in-Ok-Some.found (λ done is. c.in-Ok-Some.found-test.1 is)
    (subst (λ o. IsVersionRead s0 s1 (Ok o)) c.in-Ok-Some.field-0-is c.in-Ok-Some.ensures)

pub returns-in-Ok-create_tables : goal.returns-in-Ok-create_tables
returns-in-Ok-create_tables g c =
    let s0 = state g.S.Store c.args.tables.now.connection in
    let s1 = state g.S.Store c.read_version.new.tables.connection in
    let s2 = state g.S.Store c.create_tables.new.tables.connection in
    became_created opening tt s0 s1 s2 (λ d up may. g.met.S.Store.settled c.args.tables.now.connection.store d up may) tt
    (subst (λ o. IsVersionRead s0 s1 (Ok o)) c.in-Ok-None.field-0-is c.in-Ok-None.ensures) c.in-Ok-create_tables.ensures

pub returns-in-Err-create_tables : goal.returns-in-Err-create_tables
returns-in-Err-create_tables g c =
    let s0 = state g.S.Store c.args.tables.now.connection in
    let s1 = state g.S.Store c.read_version.new.tables.connection in
    let s2 = state g.S.Store c.create_tables.new.tables.connection in
    became_uncreated opening tt s0 s1 s2 (λ d up may. g.met.S.Store.settled c.args.tables.now.connection.store d up may) tt
    (subst (λ o. IsVersionRead s0 s1 (Ok o)) c.in-Ok-None.field-0-is c.in-Ok-None.ensures) c.in-Err-create_tables.fault c.in-Err-create_tables.ensures

pub returns-in-Err : goal.returns-in-Err
returns-in-Err g c =
    let s0 = state g.S.Store c.args.tables.now.connection in
    let s1 = state g.S.Store c.read_version.new.tables.connection in
    became_unread opening s0 s1 (λ d up may. g.met.S.Store.settled c.args.tables.now.connection.store d up may) c.in-Err.fault c.in-Err.ensures
