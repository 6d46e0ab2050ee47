use Rattle.std.proofs.Common.{◌≡◌, List, map, refl, rules, subst, ℕ}
use Rattle.std.proofs.KnownBytes.{Appends-nil}
use Rattle.std.specs.Borrow.{Bor}
use Rattle.std.specs.Io.KnownBytes.{Appends}
use Rattle.std.specs.String.{string_bytes}
use Rattle.program_words.specs.Asked.{Reads}
use Rattle.program_clients.specs.Printing.{PrintEnds}
use Rattle.program_words.specs.declared.invocation.Reading.TheVariants as reading
use Rattle.program_run.proofs.program.read_words.Goals as goal

abbrev words_of : List (Bor (List ℕ)) → List (List ℕ)
words_of = map (λ word. word.now)

pub returns-in-Run-clause-ok : goal.returns-in-Run-clause-ok
returns-in-Run-clause-ok g c = (refl, subst (Reads (words_of c.args.words.now)) c.in-Run.is c.read.ensures)

pub returns-in-Help-clause-err : goal.returns-in-Help-clause-err
returns-in-Help-clause-err g c =
    let same : c.as_str.result.now ≡ string_bytes c.in-Help.text = search rules in (
      reading.Help c.in-Help.text,
      subst (Reads (words_of c.args.words.now)) c.in-Help.is c.read.ensures,
      subst (λ text. PrintEnds 0 (Appends (g.W.Write.contents c.args.streams.now.output) (g.W.Write.contents c.print_help.new.output)) text c.print_help.result) same c.print_help.ensures,
    )

pub returns-in-Wrong-clause-err : goal.returns-in-Wrong-clause-err
returns-in-Wrong-clause-err g c = (reading.Wrong c.in-Wrong.text, subst (Reads (words_of c.args.words.now)) c.in-Wrong.is c.read.ensures, (c.print_wrong.ensures, Appends-nil (g.W.Write.contents c.args.streams.now.output)))

pub returns-in-NoDatabase-clause-err : goal.returns-in-NoDatabase-clause-err
returns-in-NoDatabase-clause-err g c = (reading.NoDatabase, subst (Reads (words_of c.args.words.now)) c.in-NoDatabase.is c.read.ensures, (c.print_hinted.ensures, Appends-nil (g.W.Write.contents c.args.streams.now.output)))

pub returns-in-NoDesk-clause-err : goal.returns-in-NoDesk-clause-err
returns-in-NoDesk-clause-err g c = (reading.NoDesk, subst (Reads (words_of c.args.words.now)) c.in-NoDesk.is c.read.ensures, (c.print_hinted-in-NoDesk.ensures, Appends-nil (g.W.Write.contents c.args.streams.now.output)))

pub returns-in-NoBatch-clause-err : goal.returns-in-NoBatch-clause-err
returns-in-NoBatch-clause-err g c = (reading.NoBatch, subst (Reads (words_of c.args.words.now)) c.in-NoBatch.is c.read.ensures, (c.print_hinted-in-NoBatch.ensures, Appends-nil (g.W.Write.contents c.args.streams.now.output)))

pub returns-in-Memory-clause-err : goal.returns-in-Memory-clause-err
returns-in-Memory-clause-err g c = (reading.Memory, subst (Reads (words_of c.args.words.now)) c.in-Memory.is c.read.ensures, (c.report.ensures, Appends-nil (g.W.Write.contents c.args.streams.now.output)))
