use Rattle.std.proofs.KnownBytes.{Appends-nil}
use Rattle.std.specs.Io.KnownBytes.{Appends}
use Rattle.program_desks.specs.declared.kept_desks.Creation.TheVariants.{Never}
use Rattle.program_run.proofs.EndLemmas.{over_files}
use Rattle.program_run.proofs.ListingLemmas.{asked_seen, listing_between}
use Rattle.program_run.specs.ListingEnds.{ListingEnds}
use Rattle.program_run.proofs.listing.list_file.Goals as goal

pub returns-in-Ok-clause-end : goal.returns-in-Ok-clause-end
returns-in-Ok-clause-end g c =
    let seen = g.K.KeepsDesks.seen in
    let written = Appends (g.W.Write.contents c.args.streams.now.output) (g.W.Write.contents c.list_desk-status.new.streams.output) in
    over_files g.K.KeepsDesks.files c.args.databases c.args.db.now.name.now Never written (ListingEnds written c.args.listing) (listing_between written c.args.listing)
    (seen c.in-Ok.desk) (seen c.list_desk-status.new.desk) c.list_desk-status.result c.close_desk.result.0 c.close_desk.result.1 c.in-Ok.ensures.ok c.close_desk.ensures.end
    (asked_seen g.D.Desk.kind g.K.KeepsDesks.kind g.D.Desk.seen seen g.met.K.KeepsDesks.same c.in-Ok.desk c.list_desk-status.new.desk _ c.list_desk-status.ensures.end.0, c.list_desk-status.ensures.end.1)

pub returns-in-Err-clause-end : goal.returns-in-Err-clause-end
returns-in-Err-clause-end g c = (c.report_unopened.ensures, Appends-nil (g.W.Write.contents c.args.streams.now.output), c.in-Err.ensures.err)
