use Rattle.std.proofs.Common.{◌∷◌, ◌∙◌, [], Ok, Err, refl, subst}
use Rattle.std.proofs.KnownBytes.{Appends-nil}
use Rattle.std.specs.Io.KnownBytes.{Appends}
use Rattle.series_rules.specs.Steps.{Asked}
use Rattle.desk_batch.specs.Batch.{RequestGives}
use Rattle.desk_batch.specs.Talks.{Talks}
use Rattle.program_commands.specs.Deliveries.{Delivers}
use Rattle.program_commands.specs.declared.deliver.DeliveryFault.TheVariants.{Request}
use Rattle.program_commands.proofs.DeliveryLemmas.{unread_delivers}
use Rattle.program_commands.proofs.deliver.deliver_one.Goals as goal

pub returns-in-Err-clause-run : goal.returns-in-Err-clause-run
returns-in-Err-clause-run g c =
    let read = c.in-Err.ensures.text in
    let asked = Asked g.D.Desk.seen c.args.precedence.now c.args.desk.now c.args.desk.now in
    let written = Appends (g.W.Write.contents c.args.writer.now) (g.W.Write.contents c.args.writer.now) in
    (read.0, read.1, unread_delivers asked written read.0 c.in-Err.fault read.2 refl (Appends-nil (g.W.Write.contents c.args.writer.now)))

pub returns-in-Err-delivery_of-clause-run : goal.returns-in-Err-delivery_of-clause-run
returns-in-Err-delivery_of-clause-run g c =
    let read = c.in-Ok.ensures.text in
    let asked = Asked g.D.Desk.seen c.args.precedence.now c.args.desk.now c.args.desk.now in
    let written = Appends (g.W.Write.contents c.args.writer.now) (g.W.Write.contents c.args.writer.now) in
    let fault = c.in-Err-delivery_of.fault in (
      read.0,
      read.1,
      subst (λ text. Delivers asked written text (Err fault)) (c.as_slice-bytes.ensures.value ∙ read.2)
          (unread_delivers asked written c.as_slice-bytes.result.now fault c.in-Err-delivery_of.ensures refl (Appends-nil (g.W.Write.contents c.args.writer.now))),
    )

pub returns-in-Ok-outcome-clause-run : goal.returns-in-Ok-outcome-clause-run
returns-in-Ok-outcome-clause-run g c =
    let read = c.in-Ok.ensures.text in
    let made = c.in-Ok-delivery_of.ensures in
    let asked = Asked g.D.Desk.seen c.args.precedence.now c.args.desk.now c.run_request-outcome.new.desk in
    let written = Appends (g.W.Write.contents c.args.writer.now) (g.W.Write.contents c.run_request-outcome.new.writer) in
    let refused = c.in-Ok-outcome.is_refused in (
      read.0,
      read.1,
      subst (λ text. Delivers asked written text (Ok refused)) (c.as_slice-bytes.ensures.value ∙ read.2)
          (made.0, subst (λ r. Talks asked written (r ∷ []) (RequestGives (Ok refused))) made.1 c.in-Ok-outcome.ensures),
    )

pub returns-clause-run : goal.returns-clause-run
returns-clause-run g c =
    let read = c.in-Ok.ensures.text in
    let made = c.in-Ok-delivery_of.ensures in
    let asked = Asked g.D.Desk.seen c.args.precedence.now c.args.desk.now c.run_request-outcome.new.desk in
    let written = Appends (g.W.Write.contents c.args.writer.now) (g.W.Write.contents c.run_request-outcome.new.writer) in
    let fault = c.in-Err-outcome.fault in (
      read.0,
      read.1,
      subst (λ text. Delivers asked written text (Err (Request fault))) (c.as_slice-bytes.ensures.value ∙ read.2)
          (made.0, subst (λ r. Talks asked written (r ∷ []) (RequestGives (Err fault))) made.1 c.in-Err-outcome.ensures),
    )
