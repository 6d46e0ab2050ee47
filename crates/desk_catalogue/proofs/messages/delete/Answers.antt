use Rattle.std.proofs.Common.{sym, ◌∙◌}
use Rattle.desk_catalogue.proofs.DoesLemmas.{did_also, did_nothing}
use Rattle.desk_catalogue.proofs.ProductLemmas.{deleted_unknown}
use Rattle.desk_catalogue.proofs.messages.delete.Goals as goal

pub returns-then-is_there : goal.returns-then-is_there
returns-then-is_there g c = did_also c.remove_record.ensures (λ rows after a one. λ o held finds storable. one)

pub returns : goal.returns
returns g c = did_nothing (λ rows. deleted_unknown c.args.row.now c.args.product.now c.args.found rows (sym c.is_there-is_there.ensures ∙ c.if-is_there.false))
