use Rattle.std.proofs.Common.{arith}
use Rattle.feed_xml.proofs.Runs.{literal_init, literal_more, literal_never, literal_short, literal_done}
use Rattle.feed_xml.proofs.scan.literal.Goals as goal

pub loop-at-init : goal.loop-at-init
loop-at-init c = record { within = omega arith; inside = omega arith; so_far = literal_init c.args.mark.now c.args.bytes.now }

pub loop-at-preserved : goal.loop-at-preserved
loop-at-preserved c = record {
  within = omega arith;
  inside = omega arith;
  so_far = literal_more c.args.mark.now c.args.bytes.now c.loop-at.at c.loop-at-test.true c.if-at-bytes.true c.if-bytes-at.true c.loop-at.invariant.so_far;
}

pub returns-else-bytes-at : goal.returns-else-bytes-at
returns-else-bytes-at c = literal_never c.args.mark.now c.args.bytes.now c.loop-at.at c.loop-at-test.true c.if-at-bytes.true c.if-bytes-at.false c.loop-at.invariant.so_far

pub returns-else-at-bytes : goal.returns-else-at-bytes
returns-else-at-bytes c = literal_short c.args.mark.now c.args.bytes.now c.loop-at.at c.loop-at-test.true c.if-at-bytes.false c.loop-at.invariant.so_far

pub returns : goal.returns
returns c = literal_done c.args.mark.now c.args.bytes.now c.loop-at.at c.loop-at-test.false c.loop-at.invariant.so_far
