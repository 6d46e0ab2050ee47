use Rattle.std.proofs.Common.{◌≢◌, codes, refl, rules, subst}
use Rattle.std.proofs.KnownBytes.{Appends-nil}
use Rattle.std.specs.Io.KnownBytes.{Appends}
use Rattle.csv_records.specs.Streams.{IsTold}
use Rattle.series_rules.specs.Steps.{Asked}
use Rattle.program_commands.proofs.DeliveryLemmas.{unopened_delivers}
use Rattle.program_commands.proofs.InputLemmas.{text_of_file, told_text}
use Rattle.program_commands.proofs.deliver.deliver_named.Goals as goal

pub returns-in-Ok : goal.returns-in-Ok
returns-in-Ok g c =
    let other : c.args.name.now ≢ codes "-" = search rules in
    let one = c.deliver_one-in-Ok.ensures.run in (
      one.0,
      text_of_file (g.F.NamedFiles.holds c.args.files.now) (g.R.Read.remaining c.args.streams.now.input) c.args.name.now one.0 other (subst (λ told. IsTold told one.0) c.in-Ok.ensures one.1),
      one.2,
    )

pub returns-in-Err : goal.returns-in-Err
returns-in-Err g c =
    let other : c.args.name.now ≢ codes "-" = search rules in
    let asked = Asked g.D.Desk.seen c.args.precedence.now c.args.desk.now c.args.desk.now in
    let written = Appends (g.W.Write.contents c.args.streams.now.output) (g.W.Write.contents c.args.streams.now.output) in
    let told = told_text (g.F.NamedFiles.holds c.args.files.now c.args.name.now) in (
      told.0,
      text_of_file (g.F.NamedFiles.holds c.args.files.now) (g.R.Read.remaining c.args.streams.now.input) c.args.name.now told.0 other told.1,
      unopened_delivers asked written told.0 c.open_fault.result c.open_fault.ensures refl (Appends-nil (g.W.Write.contents c.args.streams.now.output)),
    )
