use Rattle.std.proofs.Common.{arith}
use Rattle.feed_xml.proofs.Runs.{rest_is, until_init, until_more, until_found, until_short, until_end}
use Rattle.feed_xml.proofs.scan.until.Goals as goal

pub loop-at-init : goal.loop-at-init
loop-at-init c = record { within = omega arith; so_far = until_init c.args.mark.now c.args.bytes.now }

pub loop-at-preserved : goal.loop-at-preserved
loop-at-preserved c = record {
  within = omega arith;
  so_far = until_more c.args.mark.now c.args.bytes.now c.loop-at.at c.loop-at-test.true (rw (rest_is, c.in-Err-Never.field-0-is) at c.in-Err-Never.ensures) c.loop-at.invariant.so_far;
}

pub returns-in-Ok : goal.returns-in-Ok
returns-in-Ok c = until_found c.args.mark.now c.args.bytes.now c.loop-at.at _ c.loop-at-test.true (rw rest_is at c.in-Ok.ensures) c.loop-at.invariant.so_far

pub returns-in-Err-More : goal.returns-in-Err-More
returns-in-Err-More c = until_short c.args.mark.now c.args.bytes.now c.loop-at.at c.loop-at-test.true (rw (rest_is, c.in-Err-More.field-0-is) at c.in-Err-More.ensures) c.loop-at.invariant.so_far

pub returns : goal.returns
returns c = until_end c.args.mark.now c.args.bytes.now c.loop-at.at c.loop-at-test.false c.loop-at.invariant.so_far
