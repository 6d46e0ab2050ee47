use Rattle.std.proofs.Common.{List, sym, subst, ◌∙◌}
use Rattle.desk_catalogue.proofs.DoesLemmas.{did_as, did_then}
use Rattle.onix_records.specs.declared.parts.Product.{Product}
use Rattle.desk_rows.specs.Answering.{IsStored}
use Rattle.desk_rows.proofs.Answered.{delivers_again, delivers_new}
use Rattle.desk_rows.proofs.answers_at.deliver_at.Goals as goal

pub returns-in-Some : goal.returns-in-Some
returns-in-Some g c =
    let s = c.args.series.now in
    let n = c.args.number in
    let products : List Product = c.args.contents in
    let own = sym c.in-Ok.ensures ∙ sym c.as_str.ensures.value in
    did_as c.in_ok-stored.ensures
    (λ rows now one. delivers_again s c.args.next n products c.in-Some.stored c.as_str.result.now rows now c.answer_again.result own one.0 (subst (IsStored s n rows) c.in-Some.is one.1) c.answer_again.ensures)

pub returns-in-None : goal.returns-in-None
returns-in-None g c =
    let s = c.args.series.now in
    let n = c.args.number in
    let products : List Product = c.args.contents in
    let own = sym c.in-Ok.ensures ∙ sym c.as_str-in-None.ensures.value in
    did_then c.in_ok-stored.ensures c.put_new.ensures
    (λ rows between now answer one two. delivers_new s c.args.next n products c.as_str-in-None.result.now rows between now answer own one.0 (subst (IsStored s n rows) c.in-None.is one.1) two)
