use Rattle.std.proofs.Common.{◌≡◌, ◌≤◌, ℕ, List, drop, map}
use Rattle.std.specs.Borrow.{Bor}
use Rattle.std.specs.Io.KnownBytes.{Appends}
use Rattle.feed_files.specs.Ends.{FileEnd}
use Rattle.feed_files.specs.Runs.{outputs, run_asking, status_of_all}
use Rattle.feed_files.proofs.RunLemmas.{Continues}
use Rattle.feed_files.proofs.converting.convert_files.Given as goal

-- the FILEs so far have ended
abbrev pub invariant-loop-file : goal.invariant-loop-file
invariant-loop-file g l = record {
  ends : List FileEnd;
  so_far : Continues (run_asking l.run) (g.R.Read.remaining l.fn.input) (g.F.NamedFiles.holds l.fn.files)
      (map (λ (f : Bor (List ℕ)). f.now) l.fn.names) (g.R.Read.remaining l.input) (g.F.NamedFiles.holds l.files)
      (drop l.file-index (map (λ (f : Bor (List ℕ)). f.now) l.fn.names)) ends;
  written : Appends (g.W.Write.contents l.fn.output) (g.W.Write.contents l.output) (outputs ends);
  status_is : l.status ≡ status_of_all ends;
  most : l.status ≤ 3;
}
