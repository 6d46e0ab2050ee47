use Rattle.std.proofs.Common.{sym, ◌∙◌, ap, length, arith}
use Rattle.std.proofs.lemmas.Result.{err_from_is_err_and}
use Rattle.feed_xml.proofs.AttributeLaws.{shorter}
use Rattle.feed_xml.proofs.PartLaws.{run_takes}
use Rattle.feed_xml.specs.Grammar.{is_space}
use Rattle.feed_xml.proofs.AttributeRuns.{at_first, space_fails, attribute_fails, one_more, no_more, spells}
use Rattle.feed_xml.proofs.attributes.attribute_bytes.Goals as goal

pub reading-init : goal.reading-init
reading-init c = at_first c.args.bytes.now

pub returns-in_err-before-clause-gives : goal.returns-in_err-before-clause-gives
returns-in_err-before-clause-gives c =
    let p = err_from_is_err_and c.from_residual.result c.from_residual.ensures.1 in
    rw (p.1, p.2) (space_fails c.args.bytes.now c.reading.rest.now c.in_err-before.field-0.0 c.reading.invariant c.in_err-before.ensures)

pub returns-in_err-next-clause-gives : goal.returns-in_err-next-clause-gives
returns-in_err-next-clause-gives c =
    let p = err_from_is_err_and c.from_residual-in_err-next.result c.from_residual-in_err-next.ensures.1 in
    rw (p.1, p.2) (attribute_fails c.args.bytes.now c.reading.rest.now _ c.in_err-next.field-0.0 c.reading.invariant c.in_ok-before.ensures (sym c.begins_name.ensures ∙ c.if-begins_name.true) c.in_err-next.ensures)

pub reading-smaller : goal.reading-smaller
reading-smaller c =
    omega (arith, shorter c.in_ok-before.before.now c.in_ok-before.behind.now _ c.in_ok-next.ensures, ap length (run_takes is_space c.reading.rest.now _ c.in_ok-before.ensures).0)

pub reading-preserved : goal.reading-preserved
reading-preserved c = one_more c.args.bytes.now c.reading.rest.now _ _ c.reading.invariant c.in_ok-before.ensures (sym c.begins_name.ensures ∙ c.if-begins_name.true) c.in_ok-next.ensures

pub returns-else-begins_name-clause-gives : goal.returns-else-begins_name-clause-gives
returns-else-begins_name-clause-gives c = no_more c.args.bytes.now c.reading.rest.now _ c.reading.invariant c.in_ok-before.ensures (sym c.begins_name.ensures ∙ c.if-begins_name.false)

pub returns-else-begins_name-clause-spell : goal.returns-else-begins_name-clause-spell
returns-else-begins_name-clause-spell c = spells c.args.bytes.now c.reading.rest.now c.reading.invariant
