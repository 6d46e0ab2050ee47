use Rattle.std.proofs.Common.{sym, length-take-le, take_all, arith}
use Rattle.feed_xml.proofs.document_reading.front.Goals as goal

pub slice_bounds-result-end : goal.slice_bounds-result-end
slice_bounds-result-end c = sym (length-take-le 1024 c.args.head.now (omega (arith, c.if-head-gt-HEAD.true)))

pub returns-else-head-gt-HEAD : goal.returns-else-head-gt-HEAD
returns-else-head-gt-HEAD c = sym (take_all 1024 c.args.head.now (omega (arith, c.if-head-gt-HEAD.false)))
