use Rattle.std.proofs.Common.{◌∙◌, Some, [], ap, inl, inr, length, refl}
use Rattle.std.proofs.KnownBytes.{Appends-nil}
use Rattle.std.specs.Prelude.{⊤}
use Rattle.program_clients.specs.declared.fault.CausedFault.{CausedFault}
use Rattle.program_commands.proofs.SendingLemmas.{sent_whole}
use Rattle.program_commands.proofs.sending.send_batch.Goals as goal

pub returns-in-Err : goal.returns-in-Err
returns-in-Err g c = inr (refl, Appends-nil (g.W.Write.contents c.args.output.now))

pub returns : goal.returns
returns g c =
    inl (Some [], c.in-Err-send.ensures.err, ([], [], refl, Appends-nil (g.W.Write.contents c.args.output.now)))

pub returns-in-Ok-take_answers : goal.returns-in-Ok-take_answers
returns-in-Ok-take_answers g c =
    sent_whole CausedFault c.args.text.now c.len.result _ ⊤ _ _ c.in-Ok-take_answers.refused c.in-Ok.ensures.0 (c.len.ensures ∙ ap length c.in-Ok.ensures.1) c.in-Ok-send.ensures.ok c.in-Ok-take_answers.ensures

pub returns-in-Ok-send : goal.returns-in-Ok-send
returns-in-Ok-send g c = inl (_, c.in-Ok-send.ensures.ok, c.in-Err-take_answers.ensures)
