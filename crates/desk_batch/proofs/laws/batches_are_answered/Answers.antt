use Rattle.std.specs.Io.KnownBytes.{Appends}
use Rattle.series_rules.specs.Steps.{Asked}
use Rattle.desk_batch.proofs.OutputLemmas.{batches_end}
use Rattle.desk_batch.proofs.laws.batches_are_answered.Goals as goal

pub returns : goal.returns
returns g c rules =
    batches_end rules (Asked g.D.Desk.seen rules c.args.old.now c.args.new.now) (Appends (g.W.Write.contents c.args.before.now) (g.W.Write.contents c.args.after.now)) (g.D.Desk.seen c.args.old.now) (g.D.Desk.seen c.args.new.now)
    (λ steps asked. c.traces_lead.ensures rules steps c.args.old.now c.args.new.now asked)
