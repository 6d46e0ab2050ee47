use Rattle.std.proofs.Common.{◌≡◌, map}
use Rattle.std.specs.Prelude.{string_bytes}
use Rattle.program_files.specs.Names.{part_paths}
use Rattle.program_files.proofs.targets.targets_of.Given as goal

-- the files so far have their names
abbrev pub invariant-loop-file : goal.invariant-loop-file
invariant-loop-file g l = record {
  named : map (λ target. string_bytes target.name) l.targets.items
      ≡ part_paths l.fn.folder l.fn.name l.parts l.file-index;
  counted : l.number ≡ l.file-index;
}
