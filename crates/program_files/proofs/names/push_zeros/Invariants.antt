use Rattle.std.proofs.Common.{◌≡◌, ◌++◌, ◌∷◌, [], string_bytes}
use Rattle.std.specs.List.{repeat}
use Rattle.program_files.proofs.names.push_zeros.Given as goal

abbrev pub invariant-loop : goal.invariant-loop
invariant-loop l = string_bytes l.text ≡ string_bytes l.initial.text ++ repeat l.counter (48 ∷ [])
