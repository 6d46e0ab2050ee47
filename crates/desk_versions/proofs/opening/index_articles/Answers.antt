use Rattle.std.proofs.Common.{◌≡◌, Ok, Err, refl, rules, subst}
use Rattle.sqlite.specs.Held.{state}
use Rattle.desk_tables.specs.Rows.{Holds, HoldsUnindexed}
use Rattle.desk_versions.specs.Openings.{MakesAll}
use Rattle.desk_versions.proofs.MadeTables.{made_ended, made_failed}
use Rattle.desk_versions.proofs.opening.index_articles.Goals as goal

pub returns-in_err-index_articles : goal.returns-in_err-index_articles
returns-in_err-index_articles g c = λ rows.
    let s0 = state g.S.Store c.args.tables.now.connection in
    let s1 = state g.S.Store c.in_ok-work.work.tables.now.connection in
    let s2 = state g.S.Store c.index_articles.new.self.tables.now.connection in
    let s3 = state g.S.Store c.drop-work.new.self.0.connection in
    let e = c.in_err-index_articles.field-0.0 in
    let result = c.from_residual-in_err-index_articles.result in
    let failed : result ≡ Err e = search rules in
    let same : c.drop-work.new.self.0 ≡ c.tables-in_err-index_articles-1.given.0 = search (rules, (c.in_err-index_articles.ensures rows).same_reference) in
    subst (λ t. MakesAll (λ db. HoldsUnindexed db rows) (λ db. Holds db rows) s0 (state g.S.Store t.connection) result) same
    (made_failed (λ db. HoldsUnindexed db rows) (λ db. Holds db rows) c.in_ok-work.work s0 s1 s2 s3 c.in_ok-work.work.spent c.index_articles.new.self.spent c.in_ok-work.ensures.begun (Err e) (c.in_err-index_articles.ensures rows).makes result e failed c.drop-work.ensures.undone c.drop-work.ensures.survives)

pub returns : goal.returns
returns g c = λ rows.
    let s0 = state g.S.Store c.args.tables.now.connection in
    let s1 = state g.S.Store c.in_ok-work.work.tables.now.connection in
    let s2 = state g.S.Store c.index_articles.new.self.tables.now.connection in
    let s3 = state g.S.Store c.commit.new.self.0.connection in
    let same : c.commit.new.self.0 ≡ c.tables-2-1.given.0 = search (rules, (c.in_ok-index_articles.ensures rows).same_reference) in
    subst (λ t. MakesAll (λ db. HoldsUnindexed db rows) (λ db. Holds db rows) s0 (state g.S.Store t.connection) c.commit.result) same
    (made_ended (λ db. HoldsUnindexed db rows) (λ db. Holds db rows) c.in_ok-work.work s0 s1 s2 s3 c.in_ok-work.work.spent c.index_articles.new.self.spent c.in_ok-work.ensures.begun (Ok c.in_ok-index_articles.field-0) (c.in_ok-index_articles.ensures rows).makes c.in_ok-index_articles.field-0 refl c.commit.result c.commit.ensures.end.ends c.commit.ensures.end.durable)
