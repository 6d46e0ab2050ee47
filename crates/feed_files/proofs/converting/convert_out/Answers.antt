use Rattle.std.proofs.Common.{◌≡◌, ◌∙◌, ℕ, List, Option, [], None, Some, false, subst, sym, true}
use Rattle.std.proofs.KnownBytes.{Appends-nil}
use Rattle.program_files.specs.Texts.{told_texts, with_text}
use Rattle.feed_conversion.specs.Conversion.{Options}
use Rattle.feed_conversion.specs.Views.{options_view}
use Rattle.feed_files.specs.Ends.{asking, is_converted}
use Rattle.feed_files.proofs.EndLemmas.{IsTaken, out_done, out_failed, read_taken, stopped_end}
use Rattle.feed_files.proofs.converting.convert_out.Given.{Over}
use Rattle.feed_files.proofs.converting.convert_out.Goals.{After-end_of_seen-ended}
use Rattle.feed_files.proofs.converting.convert_out.Goals as goal

-- what was read of the FILE, and the texts of the parts that it came to
module _ (g : Over) (c : After-end_of_seen-ended g) where
  abbrev options : Options
  options = options_view c.args.options.now

  abbrev bytes : Option (List ℕ)
  bytes = g.R.Read.remaining c.args.reader.now

  abbrev texts : Option (List ℕ)
  texts =
      let store = c.convert-target.result.target.store in
      told_texts store.first.items store.rest

  taken : IsTaken with_text options bytes (Some []) texts c.end_of_seen-ended.result
  taken =
      let ended = c.end_of_seen-ended.result in
      let first = told_texts c.new.result.first.items c.new.result.rest in
      let read = read_taken with_text options (g.R.Read.remaining c.new-watched.result.reader.now) first texts
      c.convert-target.result.ended ended c.convert-target.ensures.converted c.convert-target.ensures.fault c.end_of_seen-ended.ensures.ok
      c.end_of_seen-ended.ensures.err in
      let of_bytes : IsTaken with_text options bytes first texts ended =
      subst (λ reader. IsTaken with_text options (g.R.Read.remaining reader.now) first texts ended) c.new-watched.ensures read in
      subst (λ before. IsTaken with_text options bytes before texts ended) c.new.ensures of_bytes

pub returns-then-not-is_converted : goal.returns-then-not-is_converted
returns-then-not-is_converted g c =
    let s = (goal.at.returns-then-not-is_converted g c).After-end_of_seen-ended in
    let holds = g.F.NamedFiles.holds c.args.files.now in (
      [],
      Appends-nil (g.W.Write.contents c.args.output.now),
      stopped_end with_text (asking (options g s) None) c.args.file.now (bytes g s) (Some []) (texts g s) holds c.end_of_seen-ended.result
          (sym c.is_converted.ensures ∙ c.if-not-is_converted.true) (taken g s),
    )

pub returns-in-Ok : goal.returns-in-Ok
returns-in-Ok g c =
    let s = (goal.at.returns-in-Ok g c).After-end_of_seen-ended in
    let holds = g.F.NamedFiles.holds c.args.files.now in
    let converted : is_converted c.end_of_seen-ended.result ≡ true = sym c.is_converted.ensures ∙ c.if-not-is_converted.false in (
      c.place.ensures.0,
      c.place.ensures.1,
      out_done (options g s) c.args.file.now (bytes g s) (texts g s) holds c.end_of_seen-ended.result c.place.result c.in-Ok.field-0
          c.place.ensures.0 converted c.in-Ok.is (taken g s) c.place.ensures.2,
    )

pub returns : goal.returns
returns g c =
    let s = (goal.at.returns g c).After-end_of_seen-ended in
    let holds = g.F.NamedFiles.holds c.args.files.now in
    let converted : is_converted c.end_of_seen-ended.result ≡ true = sym c.is_converted.ensures ∙ c.if-not-is_converted.false in (
      c.place.ensures.0,
      c.place.ensures.1,
      out_failed (options g s) c.args.file.now (bytes g s) (texts g s) holds c.end_of_seen-ended.result c.report_fault.result
          c.place.result c.in-Err.fault c.place.ensures.0 converted c.in-Err.is c.report_fault.ensures (taken g s) c.place.ensures.2,
    )
