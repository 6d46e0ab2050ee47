use Rattle.std.proofs.Common.{◌≡◌, ◌∙◌, [], List, Option, Some, ℕ, subst, sym, true}
use Rattle.feed_conversion.specs.Conversion.{Options}
use Rattle.feed_conversion.specs.Views.{options_view}
use Rattle.feed_files.specs.Ends.{asking, is_converted}
use Rattle.feed_files.proofs.EndLemmas.{IsTaken, folder_done, folder_failed, read_taken, stopped_end}
use Rattle.feed_files.proofs.converting.convert_into.Given.{Over}
use Rattle.feed_files.proofs.converting.convert_into.Goals.{After-finish-made}
use Rattle.feed_files.proofs.converting.convert_into.Goals as goal

abbrev kept : Unit {0} → List ℕ → Unit {0}
kept was text = was

-- what was read of the FILE
module _ (g : Over) (c : After-finish-made g) where
  abbrev options : Options
  options = options_view c.args.options.now

  abbrev bytes : Option (List ℕ)
  bytes = g.R.Read.remaining c.args.reader.now

  taken : IsTaken kept options bytes tt tt c.end_of_seen-read.result
  taken =
      let was = c.end_of_seen-read.result in
      let read = read_taken kept options (g.R.Read.remaining c.new-watched.result.reader.now) tt tt c.convert-target.result.ended was
      c.convert-target.ensures.converted c.convert-target.ensures.fault c.end_of_seen-read.ensures.ok c.end_of_seen-read.ensures.err in
      subst (λ reader. IsTaken kept options (g.R.Read.remaining reader.now) tt tt was) c.new-watched.ensures read

pub returns-then-not-is_converted : goal.returns-then-not-is_converted
returns-then-not-is_converted g c =
    let s = (goal.at.returns-then-not-is_converted g c).After-finish-made in
    stopped_end kept (asking (options g s) (Some c.args.folder.now)) c.args.file.now (bytes g s) tt tt (g.F.NamedFiles.holds c.args.files.now) c.end_of_seen-read.result
    (sym c.is_converted.ensures ∙ c.if-not-is_converted.true) (taken g s)

pub returns-then-not-is_placed : goal.returns-then-not-is_placed
returns-then-not-is_placed g c =
    let s = (goal.at.returns-then-not-is_placed g c).After-finish-made in
    let converted : is_converted c.end_of_seen-read.result ≡ true = sym c.is_converted.ensures ∙ c.if-not-is_converted.false in
    folder_failed kept (options g s) c.args.folder.now c.args.file.now (bytes g s) tt tt c.end_of_seen-read.result (g.F.NamedFiles.holds c.args.files.now)
    (g.F.NamedFiles.holds c.place_parts-is_placed.new.files) converted (taken g s)

pub returns : goal.returns
returns g c =
    let s = (goal.at.returns g c).After-finish-made in
    let converted : is_converted c.end_of_seen-read.result ≡ true = sym c.is_converted.ensures ∙ c.if-not-is_converted.false in
    folder_done kept (options g s) c.args.folder.now c.args.file.now (bytes g s) tt tt c.end_of_seen-read.result (g.F.NamedFiles.holds c.args.files.now)
    (g.F.NamedFiles.holds c.place_parts-is_placed.new.files) converted (taken g s)
