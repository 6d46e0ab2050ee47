use Rattle.std.proofs.Common.{◌<◌, ◌≤◌, List, sym, ◌∙◌, arith}
use Rattle.desk_catalogue.proofs.DoesLemmas.{called, did_as, did_then}
use Rattle.onix_records.specs.declared.parts.Header.{Header}
use Rattle.onix_records.specs.declared.parts.Product.{Product}
use Rattle.desk_rows.proofs.Found.{delivers_before, delivers_found, delivers_unknown}
use Rattle.desk_rows.proofs.decisions.deliver_in.Goals as goal

pub returns-in_default : goal.returns-in_default
returns-in_default g c =
    let products : List Product = c.args.contents in
    let m : Header × List Product = (c.args.header.now, products) in
    did_as (called (rw c.as_ref.ensures.value at c.in_ok-found.ensures))
    (λ rows now one. λ records read number. delivers_unknown records m c.args.number read number rows now one.1 (sym c.in_default.is ∙ one.0))

pub returns-then-value : goal.returns-then-value
returns-then-value g c =
    let products : List Product = c.args.contents in
    let m : Header × List Product = (c.args.header.now, products) in
    let row = c.in-Some.row in
    let lt : c.args.number < row.agreement.first = omega (arith, c.value.ensures.value, c.value-2.ensures.value, c.if-value.true) in
    did_as (called (rw c.as_ref.ensures.value at c.in_ok-found.ensures))
    (λ rows now one. λ records read number. delivers_before records m c.args.number read number rows now row one.1 (sym c.in-Some.is ∙ one.0) lt)

pub returns : goal.returns
returns g c =
    let n = c.args.number in
    let products : List Product = c.args.contents in
    let m : Header × List Product = (c.args.header.now, products) in
    let row = c.in-Some.row in
    let le : row.agreement.first ≤ n = omega (arith, c.value.ensures.value, c.value-2.ensures.value, c.if-value.false) in
    let lt : n < 1000000000 = omega (arith, c.value.ensures.value, c.value.ensures.below) in
    did_then (called (rw c.as_ref.ensures.value at c.in_ok-found.ensures)) c.deliver_at.ensures
    (λ rows between now answer one two. λ records read number. delivers_found records m n read number rows between now row answer one.1 (sym c.in-Some.is ∙ one.0) le lt c.can_be_read_back.ensures two)
