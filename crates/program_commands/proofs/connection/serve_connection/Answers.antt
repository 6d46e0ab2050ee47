use Rattle.std.proofs.Common.{arith}
use Rattle.program_commands.specs.Serving.{batch, exchange}
use Rattle.program_commands.proofs.ClientLemmas.{batch_steps}
use Rattle.program_commands.proofs.connection.serve_connection.Goals as goal

pub returns-in-Exchange-clause-served : goal.returns-in-Exchange-clause-served
returns-in-Exchange-clause-served g c = record {
  steps = c.serve_routed-outcome.ensures.served.0;
  ending = exchange c.serve_routed-outcome.result;
  is_by = c.in-Exchange.is;
  were_asked = c.serve_routed-outcome.ensures.served.1;
  ends = c.serve_routed-outcome.ensures.served.2;
  line = c.print_line.ensures;
}

pub returns-in-Exchange-clause-taken : goal.returns-in-Exchange-clause-taken
returns-in-Exchange-clause-taken g c = let taken = c.serve_routed-outcome.ensures.taken in (taken.0, taken.1, c.wanted_is_bounded.ensures taken.0 taken.2)

pub returns-in-Batch-clause-served : goal.returns-in-Batch-clause-served
returns-in-Batch-clause-served g c =
    let ran = c.answer_batch-outcome.ensures.ran in
    let one = batch_steps _ _ ran.0 c.answer_batch-outcome.result ran.2 in
    record {
      steps = one.0;
      ending = batch ran.0 c.answer_batch-outcome.result;
      is_by = c.in-Batch.is;
      were_asked = one.1;
      ends = (ran.1, one.2);
      line = c.print_batch_line.ensures ran.0;
    }

pub returns-in-Batch-clause-taken : goal.returns-in-Batch-clause-taken
returns-in-Batch-clause-taken g c = let taken = c.answer_batch-outcome.ensures.taken in (taken.0, taken.1, omega (arith, taken.2))
