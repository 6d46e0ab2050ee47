use Rattle.std.proofs.lemmas.Result.{err_from_is_err_and}
use Rattle.std.proofs.Common.{sym, ◌∙◌}
use Rattle.feed_xml.proofs.PieceLaws.{outside_begins, text_begins, outside_fails}
use Rattle.feed_xml.proofs.pieces.outside_piece.Goals as goal

pub returns-in_err-token-clause-err : goal.returns-in_err-token-clause-err
returns-in_err-token-clause-err c =
    let p = err_from_is_err_and c.from_residual.result c.from_residual.ensures.1 in
    rw (p.1, p.2) (outside_fails c.in_err-token.field-0.0 c.args.bytes.now c.in_err-token.ensures)

pub returns-in_ok-token-clause-ok : goal.returns-in_ok-token-clause-ok
returns-in_ok-token-clause-ok c = outside_begins c.args.bytes.now c.in_ok-token.rest.now _ c.in_ok-token.ensures

pub returns-then-first_passes-clause-ok : goal.returns-then-first_passes-clause-ok
returns-then-first_passes-clause-ok c =
    let s = c.split_run.ensures in
    text_begins c.args.bytes.now c.split_run.result.0.now c.split_run.result.1.now s.whole s.each (s.some (sym c.first_passes.ensures ∙ c.if-first_passes.true))
