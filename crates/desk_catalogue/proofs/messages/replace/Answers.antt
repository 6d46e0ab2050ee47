use Rattle.std.proofs.Common.{sym, ◌∙◌}
use Rattle.desk_catalogue.proofs.DoesLemmas.{did_also, did_nothing}
use Rattle.desk_catalogue.specs.ReadRows.{has_same_identifiers, has_same_supplies}
use Rattle.desk_catalogue.proofs.ProductLemmas.{both_true, replaced_known, replaced_same, replaced_unknown}
use Rattle.desk_catalogue.proofs.messages.replace.Goals as goal

pub returns-then-is_same : goal.returns-then-is_same
returns-then-is_same g c =
    let found = c.args.found in
    let same = both_true (has_same_identifiers found) (has_same_supplies found) (sym c.is_same-is_same.ensures ∙ c.if-is_same.true) in
    did_nothing (λ rows. replaced_same c.args.row.now c.args.product.now found rows same.0 same.1)

pub returns-then-is_there : goal.returns-then-is_there
returns-then-is_there g c =
    did_also c.rewrite_record.ensures
    (λ rows after a one. replaced_known c.args.row.now c.args.product.now c.as_slice-ids.result.now c.as_slice-supplies.result.now c.args.found rows after c.as_slice-ids.ensures c.as_slice-supplies.ensures (sym c.is_there-is_there.ensures ∙ c.if-is_there.true) one)

pub returns : goal.returns
returns g c =
    did_also c.write_record.ensures
    (λ rows after a one. replaced_unknown c.args.row.now c.args.product.now c.as_slice-ids.result.now c.as_slice-supplies.result.now c.args.found rows after c.as_slice-ids.ensures c.as_slice-supplies.ensures (sym c.is_there-is_there.ensures ∙ c.if-is_there.false) one)
