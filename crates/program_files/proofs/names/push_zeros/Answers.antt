use Rattle.std.proofs.Common.{arith, append_assoc}
use Rattle.program_files.proofs.NameLemmas.{repeat_more}
use Rattle.program_files.proofs.names.push_zeros.Goals as goal

pub loop-preserved : goal.loop-preserved
loop-preserved c = grind (arith, append_assoc, repeat_more c.loop.counter 48)
