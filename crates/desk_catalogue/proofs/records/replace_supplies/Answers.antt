use Rattle.std.proofs.Common.{Some, ap, subst, sym, ◌∙◌}
use Rattle.desk_tables.specs.Rows.{DeskRows}
use Rattle.desk_catalogue.specs.Holding.{Became}
use Rattle.desk_catalogue.specs.WrittenRows.{with_supplies}
use Rattle.desk_catalogue.proofs.BecameLemmas.{supplies_replaced}
use Rattle.desk_catalogue.proofs.DoesLemmas.{called, did_then}
use Rattle.desk_catalogue.proofs.records.replace_supplies.Goals as goal

pub returns : goal.returns
returns g c =
    let s = c.args.row.now.series in
    let r = c.args.row.now.reference in
    let supplies = c.args.supplies.now in
    did_then (called (rw c.as_str.ensures at c.in_ok-delete_offers.ensures)) c.put_supplies.ensures
    (λ rows between after b one two. λ e was storable. subst (λ (d : DeskRows). Became s r (Some (record e { supplies = supplies })) rows d) (sym (two ∙ ap (with_supplies s r supplies) one.1))
    (supplies_replaced s r e supplies rows was storable))
