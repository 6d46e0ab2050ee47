use Rattle.std.proofs.Common.{inl, inr, refl, subst}
use Rattle.std.proofs.KnownBytes.{Appends-nil}
use Rattle.desk_memory.specs.contracts.desk.MemoryDeskDesk.TheImpl.{ghosts}
use Rattle.program_desks.specs.declared.files_left.FilesLeft.TheVariants.{Untouched}
use Rattle.program_run.specs.Kinds.{ActionEnds, InvocationEnds}
use Rattle.program_run.proofs.program.run_words.Goals as goal

pub returns-in-Err-clause-end : goal.returns-in-Err-clause-end
returns-in-Err-clause-end g c = inr (c.in-Err.ensures.err, (refl, refl, refl, tt))

-- where the words are read, the streams are as before
pub returns-in-Err-rules_of-clause-end : goal.returns-in-Err-rules_of-clause-end
returns-in-Err-rules_of-clause-end g c =
    let holds = g.F.NamedFiles.holds in
    let lacks = g.F.NamedFiles.lacks_folder in
    let contents = g.W.Write.contents in
    let remaining = g.R.Read.remaining in
    let machine = c.args.machine.now in
    let after = record machine { streams = c.read_words.new.streams } in
    inl (
      c.in-Ok.invocation,
      c.in-Ok.ensures.ok.1,
      subst (λ s. InvocationEnds ghosts.seen g.K.KeepsDesks.files holds lacks contents remaining c.args.databases (record machine { streams = s }) after (c.status_of.result, Untouched c.args.databases) c.in-Ok.invocation
          (ActionEnds ghosts.seen g.K.KeepsDesks.files holds lacks contents remaining c.args.databases (record machine { streams = s }) after (c.status_of.result, Untouched c.args.databases) g.O.OpenDesks.sends))
          c.in-Ok.ensures.ok.0 (inr (c.in-Err-rules_of.fault, c.in-Err-rules_of.ensures, c.status_of.ensures, Appends-nil (contents c.read_words.new.streams.output), (refl, refl, refl, tt))),
    )

pub returns-clause-end : goal.returns-clause-end
returns-clause-end g c =
    let holds = g.F.NamedFiles.holds in
    let lacks = g.F.NamedFiles.lacks_folder in
    let contents = g.W.Write.contents in
    let remaining = g.R.Read.remaining in
    let machine = c.args.machine.now in
    let after = c.run_action-ended.new.machine in
    let result = c.run_action-ended.result in
    inl (
      c.in-Ok.invocation,
      c.in-Ok.ensures.ok.1,
      subst (λ s. InvocationEnds ghosts.seen g.K.KeepsDesks.files holds lacks contents remaining c.args.databases (record machine { streams = s }) after result c.in-Ok.invocation
          (ActionEnds ghosts.seen g.K.KeepsDesks.files holds lacks contents remaining c.args.databases (record machine { streams = s }) after result g.O.OpenDesks.sends))
          c.in-Ok.ensures.ok.0 (inl (c.in-Ok-rules_of.precedence, c.in-Ok-rules_of.ensures, c.run_action-ended.ensures.end)),
    )
