use Rattle.std.proofs.Common.{◌≡◌, Ok, Err, inl, inr, refl, rules, subst, sym}
use Rattle.desk_tables.specs.Calls.{seen, state_of}
use Rattle.desk_rows.specs.Desks.{Finishes}
use Rattle.desk_store.proofs.committing.commit_answer.Goals as goal

pub returns-in_err-answer : goal.returns-in_err-answer
returns-in_err-answer g c =
    let old = seen g.S.Store c.args.work in
    let new = state_of g.S.Store c.drop-work.new.self.0 in
    let same : c.from_residual.result ≡ Err c.in_err-answer.field-0.0 = search rules in
    subst (λ x. Finishes old new c.args.work.spent x c.from_residual.result) (sym c.in_err-answer.was) (same, c.drop-work.ensures)

pub returns-in_err-commit : goal.returns-in_err-commit
returns-in_err-commit g c =
    let old = seen g.S.Store c.args.work in
    let new = state_of g.S.Store c.commit.new.self.0 in
    let result = c.from_residual-in_err-commit.result in
    let same : result ≡ Err c.in_err-commit.field-0.0 = search rules in
    subst (λ x. Finishes old new c.args.work.spent x result) (sym c.in_ok-answer.was) (inr (c.in_err-commit.field-0.0, same, c.in_err-commit.ensures.end))

pub returns : goal.returns
returns g c =
    let old = seen g.S.Store c.args.work in
    let new = state_of g.S.Store c.commit.new.self.0 in
    subst (λ x. Finishes old new c.args.work.spent x (Ok c.in_ok-answer.answer)) (sym c.in_ok-answer.was) (inl (refl, c.in_ok-commit.ensures.end))
