use Rattle.std.proofs.Common.{rules}
use Rattle.sqlite.specs.Held.{state}
use Rattle.desk_tables.proofs.TableSteps.{step_index}
use Rattle.desk_tables.proofs.work.Work.index_articles.Goals as goal

pub returns : goal.returns
returns g c = λ rows.
    let s0 = state g.S.Store c.args.self.now.tables.now.connection in
    let s1 = state g.S.Store c.run.new.self.tables.now.connection in
    record {
      same_reference = search rules;
      untouched = search rules;
      makes = step_index rows s0 s1 c.args.self.now.spent c.run.new.self.spent c.run.result c.run.ensures.runs c.run.ensures.spent (λ s. (c.run.ensures.untouched s).0);
    }
