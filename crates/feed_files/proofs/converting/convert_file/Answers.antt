use Rattle.std.proofs.Common.{◌≡◌, ◌≢◌, ◌∙◌, [], None, Some, codes, false, refl, rules, subst, sym, true}
use Rattle.std.proofs.KnownBytes.{Appends-nil}
use Rattle.program_files.specs.Names.{is_packed}
use Rattle.feed_conversion.specs.Views.{options_view}
use Rattle.feed_files.specs.Ends.{IsEnd, asking, file_end}
use Rattle.feed_files.specs.Runs.{run_asking}
use Rattle.feed_files.proofs.EndLemmas.{fault_end, packed_end}
use Rattle.feed_files.proofs.converting.convert_file.Goals as goal

-- standard input
pub returns-in-Some-clause-end : goal.returns-in-Some-clause-end
returns-in-Some-clause-end g c =
    let is : c.args.file.now ≡ codes "-" = search rules in
    (g.R.Read.remaining c.args.input.now, [], λ _. refl, λ other. absurd (other is), Appends-nil (g.W.Write.contents c.args.output.now), rw c.in-Some.is c.convert_into.ensures)

pub returns-in-None-clause-end : goal.returns-in-None-clause-end
returns-in-None-clause-end g c =
    let is : c.args.file.now ≡ codes "-" = search rules in
    let out = c.convert_out.ensures in
    (g.R.Read.remaining c.args.input.now, out.0, λ _. refl, λ other. absurd (other is), out.1, rw c.in-None.is out.2)

-- it is not packed by its name
pub returns-in-Some-clause-packed : goal.returns-in-Some-clause-packed
returns-in-Some-clause-packed g c packed =
    let is : c.args.file.now ≡ codes "-" = search rules in
    let none : false ≡ true = subst (λ name. is_packed name ≡ true) is packed in absurd cc

pub returns-in-None-clause-packed : goal.returns-in-None-clause-packed
returns-in-None-clause-packed g c packed =
    let is : c.args.file.now ≡ codes "-" = search rules in
    let none : false ≡ true = subst (λ name. is_packed name ≡ true) is packed in absurd cc

-- a FILE that is named
pub returns-then-is_packed-clause-end : goal.returns-then-is_packed-clause-end
returns-then-is_packed-clause-end g c =
    let other : c.args.file.now ≢ codes "-" = search rules in
    let holds = g.F.NamedFiles.holds c.args.files.now in (
      holds c.args.file.now,
      [],
      λ is. absurd (other is),
      λ _. refl,
      Appends-nil (g.W.Write.contents c.args.output.now),
      packed_end (run_asking c.args.run.now) c.args.file.now (holds c.args.file.now) holds c.report_packed.result (sym c.is_packed.ensures ∙ c.if-is_packed.true) c.report_packed.ensures,
    )

pub returns-in-Err-clause-end : goal.returns-in-Err-clause-end
returns-in-Err-clause-end g c =
    let other : c.args.file.now ≢ codes "-" = search rules in
    let holds = g.F.NamedFiles.holds c.args.files.now in (
      holds c.args.file.now,
      [],
      λ is. absurd (other is),
      λ _. refl,
      Appends-nil (g.W.Write.contents c.args.output.now),
      fault_end (run_asking c.args.run.now) c.args.file.now (holds c.args.file.now) holds c.report_fault.result c.report_fault.ensures,
    )

pub returns-in-Some-folder-clause-end : goal.returns-in-Some-folder-clause-end
returns-in-Some-folder-clause-end g c =
    let other : c.args.file.now ≢ codes "-" = search rules in
    let holds = g.F.NamedFiles.holds c.args.files.now in
    let after = g.F.NamedFiles.holds c.convert_into-in-Some-folder.new.files in (
      holds c.args.file.now,
      [],
      λ is. absurd (other is),
      λ _. refl,
      Appends-nil (g.W.Write.contents c.args.output.now),
      rw c.in-Some-folder.is
          (subst (λ bytes. IsEnd (asking (options_view c.args.run.now.options) (Some c.in-Some-folder.folder.now)) c.args.file.now bytes (file_end c.convert_into-in-Some-folder.result [] holds after))
          c.in-Ok.ensures c.convert_into-in-Some-folder.ensures),
    )

pub returns-clause-end : goal.returns-clause-end
returns-clause-end g c =
    let other : c.args.file.now ≢ codes "-" = search rules in
    let holds = g.F.NamedFiles.holds c.args.files.now in
    let out = c.convert_out-in-None-folder.ensures in (
      holds c.args.file.now,
      out.0,
      λ is. absurd (other is),
      λ _. refl,
      out.1,
      rw c.in-None-folder.is
          (subst (λ bytes. IsEnd (asking (options_view c.args.run.now.options) None) c.args.file.now bytes (file_end c.convert_out-in-None-folder.result out.0 holds holds)) c.in-Ok.ensures out.2),
    )
