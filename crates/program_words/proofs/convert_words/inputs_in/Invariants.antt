use Rattle.std.proofs.Common.{◌≡◌, ◌≤◌, List, map, take, ℕ}
use Rattle.std.specs.Borrow.{Bor}
use Rattle.program_words.specs.ConvertWords.{inputs_in}
use Rattle.program_words.proofs.convert_words.inputs_in.Given as goal

-- those among the FILEs so far
abbrev pub invariant-loop-file : goal.invariant-loop-file
invariant-loop-file l = record {
  counted : l.count ≡ inputs_in (map (λ (f : Bor (List ℕ)). f.now) (take l.file-index l.files));
  most : l.count ≤ l.file-index;
}
