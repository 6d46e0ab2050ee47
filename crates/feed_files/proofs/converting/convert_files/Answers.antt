use Rattle.std.proofs.Common.{◌≡◌, ◌++◌, ◌∷◌, ◌∙◌, ℕ, suc, List, [], ap, arith, drop, inl, inr, map, refl, subst, sym, true}
use Rattle.std.specs.Borrow.{Bor}
use Rattle.std.specs.Prelude.{max, slice_index_or}
use Rattle.std.specs.Io.KnownBytes.{Appends}
use Rattle.std.proofs.Math.Numerals.{add-one}
use Rattle.std.proofs.KnownBytes.{Appends-nil, Appends-trans}
use Rattle.std.proofs.lemmas.List.{length-map}
use Rattle.feed_files.specs.Ends.{file_end}
use Rattle.feed_files.specs.Runs.{AreEnds, run_asking, status_of_all}
use Rattle.feed_files.proofs.RunLemmas.{Continues, all_ended, continues_more, names_from, outputs_more, status_more}
use Rattle.feed_files.proofs.converting.convert_files.Goals as goal

abbrev nameless : Bor (List ℕ)
nameless = record { ref_ptr = (0, 0); now = [] }

pub loop-file-init : goal.loop-file-init
loop-file-init g c = record {
  ends = [];
  so_far = λ more after are. subst (λ held. AreEnds (run_asking c.args.run.now) (g.R.Read.remaining c.args.input.now) held after (map (λ (f : Bor (List ℕ)). f.now) c.args.names.now) more) c.leave-leave.ensures are;
  written = Appends-nil (g.W.Write.contents c.args.output.now);
  status_is = refl;
  most = omega arith;
}

pub loop-file-preserved : goal.loop-file-preserved
loop-file-preserved g c =
    let inv = c.loop-file.invariant in
    let ran = c.convert_file-ended.ensures.end in
    let i = c.loop-file.file-index in
    let a = run_asking c.args.run.now in
    let told = g.R.Read.remaining c.args.input.now in
    let left = g.R.Read.remaining c.loop-file.input in
    let still = g.R.Read.remaining c.convert_file-ended.new.input in
    let before = g.F.NamedFiles.holds c.args.files.now in
    let mid = g.F.NamedFiles.holds c.loop-file.files in
    let names : List (List ℕ) = map (λ (f : Bor (List ℕ)). f.now) c.args.names.now in
    let name : List ℕ = (slice_index_or c.args.names.now i nameless).now in
    let e = file_end c.convert_file-ended.result ran.1 mid (g.F.NamedFiles.holds c.convert_file-ended.new.files) in
    let more = inv.ends ++ e ∷ [] in
    record {
      ends = more;
      so_far = subst (λ k. Continues a told before names still e.after (drop k names) more) (sym (add-one i))
          (continues_more a told before names left mid (drop i names) inv.ends name (drop (suc i) names) ran.0 still e inv.so_far
          (names_from c.args.names.now i nameless c.loop-file-test.true) ran.2
          (λ other. (ap g.R.Read.remaining (c.convert_file-ended.ensures.untouched other), ran.3 other)) c.convert_file-ended.ensures.packed refl ran.5);
      written = rw (outputs_more inv.ends e) (Appends-trans _ _ _ _ _ inv.written ran.4);
      status_is = c.greater-status.ensures.is ∙ ap (λ s. max s c.status.result) inv.status_is ∙ ap (λ s. max (status_of_all inv.ends) s) c.status.ensures.is ∙ sym (status_more inv.ends e);
      most = c.greater-status.ensures.most inv.most c.status.ensures.most;
    }

pub returns-then-not-has_folder-clause-end : goal.returns-then-not-has_folder-clause-end
returns-then-not-has_folder-clause-end g c =
    inr (c.has_folder.ensures c.if-not-has_folder.true, refl, Appends-nil (g.W.Write.contents c.args.output.now), refl)

pub returns-clause-end : goal.returns-clause-end
returns-clause-end g c =
    let inv = c.loop-file.invariant in
    let count = length-map c.args.names.now (λ (f : Bor (List ℕ)). f.now) in
    let ends = all_ended (run_asking c.args.run.now) (g.R.Read.remaining c.args.input.now) (g.F.NamedFiles.holds c.args.files.now) (map (λ (f : Bor (List ℕ)). f.now) c.args.names.now)
    (g.R.Read.remaining c.loop-file.input) (g.F.NamedFiles.holds c.loop-file.files) c.loop-file.file-index inv.ends (omega (arith, count)) inv.so_far in
    inl (inv.ends, ends, inv.written, inv.status_is)
