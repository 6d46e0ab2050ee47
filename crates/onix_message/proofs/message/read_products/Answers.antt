use Rattle.std.proofs.Common.{◌+◌, ◌∷◌, refl, sym, arith}
use Rattle.std.proofs.lemmas.Option.{get_or_from_slice_get}
use Rattle.std.proofs.lemmas.Result.{IfErr-weaker, IfOk-weaker}
use Rattle.onix_records.proofs.Fronts.{begins, ends-well, goes-on, its-end, no-end, stops-end, stops-in, stops-many}
use Rattle.onix_records.proofs.RowParts.{message-computed}
use Rattle.onix_message.proofs.message.read_products.Goals as goal

pub loop-i-init : goal.loop-i-init
loop-i-init c = begins c.args.opening.now c.args.rest.now c.new.result c.new.ensures

pub returns-then-i-ge-MOST_RECORDS-clause-fault : goal.returns-then-i-ge-MOST_RECORDS-clause-fault
returns-then-i-ge-MOST_RECORDS-clause-fault c =
    stops-many (c.args.first.now ∷ c.args.rest.now) c.args.first.now c.args.rest.now c.args.opening.now c.loop-i.i c.record-next.result c.loop-i.draft refl c.requires (sym (get_or_from_slice_get c.args.rest.now c.loop-i.i c.record-next.result c.record-next.result c.record-next.ensures)) (omega (arith, c.len-i-end.ensures)) c.loop-i.invariant (let many = c.if-i-ge-MOST_RECORDS.true in omega (arith, many))

pub loop-i-preserved : goal.loop-i-preserved
loop-i-preserved c =
    goes-on c.args.opening.now c.args.rest.now c.loop-i.i c.record-next.result c.loop-i.draft c.read_next.new.draft (sym (get_or_from_slice_get c.args.rest.now c.loop-i.i c.record-next.result c.record-next.result c.record-next.ensures)) (omega (arith, c.len-i-end.ensures)) c.loop-i.invariant (let few = c.if-i-ge-MOST_RECORDS.false in omega (arith, few)) c.in-Ok.ensures

pub returns-in-Err-Wrong-clause-fault : goal.returns-in-Err-Wrong-clause-fault
returns-in-Err-Wrong-clause-fault c =
    stops-in (c.args.first.now ∷ c.args.rest.now) c.args.first.now c.args.rest.now c.args.opening.now c.loop-i.i c.record-next.result c.loop-i.draft (c.loop-i.i + 2) refl c.requires (sym (get_or_from_slice_get c.args.rest.now c.loop-i.i c.record-next.result c.record-next.result c.record-next.ensures)) (omega (arith, c.len-i-end.ensures)) c.loop-i.invariant
    (rw c.in-Err-Wrong.field-0-is at c.in-Err-Wrong.ensures) refl

pub close-requires : goal.close-requires
close-requires c = λ e.
    let ended = its-end c.loop-i.draft.part e in
    c.contents_of_messages.ensures _ _ _ (message-computed (c.args.first.now ∷ c.args.rest.now) c.args.opening.now.header c.loop-i.draft.products
    (ends-well (c.args.first.now ∷ c.args.rest.now) c.args.first.now c.args.rest.now c.args.opening.now c.loop-i.i c.loop-i.draft ended.0 refl c.requires c.loop-i.invariant (omega (arith, c.len-i-end.ensures)) ended.1))

pub returns-clause-message : goal.returns-clause-message
returns-clause-message c =
    IfOk-weaker c.close.result _ _
    (λ contents h.
    let ended = its-end c.loop-i.draft.part h.0 in
    rw h.1 (ends-well (c.args.first.now ∷ c.args.rest.now) c.args.first.now c.args.rest.now c.args.opening.now c.loop-i.i c.loop-i.draft ended.0 refl c.requires c.loop-i.invariant (omega (arith, c.len-i-end.ensures)) ended.1))
    c.close.ensures.ended

pub returns-clause-fault : goal.returns-clause-fault
returns-clause-fault c =
    IfErr-weaker c.close.result _ _
    (λ e h.
    rw h.1 (stops-end (c.args.first.now ∷ c.args.rest.now) c.args.first.now c.args.rest.now c.args.opening.now c.loop-i.i c.loop-i.draft (c.len.result + 2) refl c.requires c.loop-i.invariant (omega (arith, c.len-i-end.ensures))
    (no-end c.loop-i.draft.part h.0) (omega (arith, c.len.ensures))))
    c.close.ensures.fault
