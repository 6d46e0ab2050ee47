use Rattle.std.proofs.Common.{◌≡◌, [], ap, ◌∙◌}
use Rattle.desk_catalogue.proofs.DoesLemmas.{did_also, did_nothing}
use Rattle.desk_catalogue.specs.ReadRows.{has_same_supplies, is_there}
use Rattle.desk_catalogue.proofs.ProductLemmas.{updated_empty, updated_known, updated_same, updated_unknown}
use Rattle.desk_catalogue.proofs.messages.update.Goals as goal

pub returns-then-is_empty : goal.returns-then-is_empty
returns-then-is_empty g c = did_nothing (λ rows. updated_empty c.args.row.now c.args.product.now c.args.found rows (c.is_empty-is_empty.ensures.0 c.if-is_empty.true))

pub returns-in-Absent : goal.returns-in-Absent
returns-in-Absent g c = did_nothing (λ rows. updated_unknown c.args.row.now c.args.product.now c.args.found rows (ap is_there c.in-Absent.is))

pub returns-then-same_supplies : goal.returns-then-same_supplies
returns-then-same_supplies g c =
    let p = c.args.product.now in
    let some : p.supplies ≡ [] → ⊥ = λ none. let t = c.is_empty-is_empty.ensures.1 none in let f = c.if-is_empty.false in absurd cc in
    did_nothing (λ rows. updated_same c.args.row.now p c.args.found rows (ap has_same_supplies c.in-Present.is ∙ c.if-same_supplies.true) some)

pub returns-else-same_supplies : goal.returns-else-same_supplies
returns-else-same_supplies g c =
    let p = c.args.product.now in
    let some : p.supplies ≡ [] → ⊥ = λ none. let t = c.is_empty-is_empty.ensures.1 none in let f = c.if-is_empty.false in absurd cc in
    did_also c.replace_supplies.ensures
    (λ rows after a one. updated_known c.args.row.now p c.as_slice.result.now c.args.found rows after c.as_slice.ensures (ap is_there c.in-Present.is) some one)
