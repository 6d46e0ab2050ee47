use Rattle.std.proofs.Common.{take}
use Rattle.onix_records.proofs.Fronts.{Holds}
use Rattle.onix_message.proofs.message.read_products.Given as goal

abbrev pub invariant-loop-i : goal.invariant-loop-i
invariant-loop-i l = Holds l.opening (take l.i l.rest) l.draft
