use Rattle.std.proofs.Common.{Some, ap, subst, sym, ◌∙◌}
use Rattle.desk_tables.specs.Rows.{DeskRows}
use Rattle.desk_catalogue.specs.Holding.{Became}
use Rattle.desk_catalogue.specs.WrittenRows.{with_supplies}
use Rattle.desk_catalogue.proofs.BecameLemmas.{record_written}
use Rattle.desk_catalogue.proofs.DoesLemmas.{did_then}
use Rattle.desk_catalogue.proofs.records.write_record.Goals as goal

pub returns : goal.returns
returns g c =
    let s = c.args.row.now.series in
    let r = c.args.row.now.reference in
    let ids = c.args.ids.now in
    let supplies = c.args.supplies.now in
    did_then c.in_ok-put_identified.ensures c.put_supplies.ensures
    (λ rows between after b one two. λ none some storable. subst (λ (d : DeskRows). Became s r (Some (record { ids = ids; supplies = supplies })) rows d) (sym (two ∙ ap (with_supplies s r supplies) one))
    (record_written s r ids supplies rows none some storable))
