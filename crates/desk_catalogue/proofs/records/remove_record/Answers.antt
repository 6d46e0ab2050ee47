use Rattle.std.proofs.Common.{None, subst, sym}
use Rattle.desk_tables.specs.Rows.{DeskRows}
use Rattle.desk_catalogue.specs.Holding.{Became}
use Rattle.desk_catalogue.proofs.BecameLemmas.{record_removed}
use Rattle.desk_catalogue.proofs.DoesLemmas.{called, did_also}
use Rattle.desk_catalogue.proofs.records.remove_record.Goals as goal

pub returns : goal.returns
returns g c =
    let s = c.args.row.now.series in
    let r = c.args.row.now.reference in
    did_also (called (rw c.as_str.ensures at c.delete_record.ensures))
    (λ rows after a one. subst (λ (d : DeskRows). Became s r None rows d) (sym one.1) (record_removed s r rows))
