use Rattle.std.proofs.Common.{rules}
use Rattle.desk_memory.proofs.Walks.{at_test}
use Rattle.desk_memory.proofs.series.take_out.Goals as goal

pub returns : goal.returns
returns c = λ n. rw (← at_test c.args.number n) (search rules)
