use Rattle.std.proofs.lemmas.Result.{err_from_is_err_and}
use Rattle.feed_xml.proofs.PieceLaws.{section_begins, section_fails, stretch_begins}
use Rattle.feed_xml.proofs.pieces.section_piece.Goals as goal

pub returns-in_err-token-clause-err : goal.returns-in_err-token-clause-err
returns-in_err-token-clause-err c =
    let p = err_from_is_err_and c.from_residual.result c.from_residual.ensures.1 in
    rw (p.1, p.2) (section_fails c.args.count c.in_err-token.field-0.0 c.args.bytes.now c.in_err-token.ensures)

pub returns-in_ok-token-clause-ok : goal.returns-in_ok-token-clause-ok
returns-in_ok-token-clause-ok c = section_begins c.args.count c.args.bytes.now c.in_ok-token.rest.now _ c.in_ok-token.ensures

pub returns-then-begins_stretch-clause-ok : goal.returns-then-begins_stretch-clause-ok
returns-then-begins_stretch-clause-ok c =
    let e = c.begins_stretch.ensures in
    let s = c.split_run.ensures in
    stretch_begins c.args.count c.args.bytes.now c.split_run.result.0.now c.split_run.result.1.now (e.none c.if-begins_stretch.true) s.whole s.each (s.some (e.begins c.if-begins_stretch.true))
