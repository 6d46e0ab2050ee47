use Rattle.std.proofs.Common.{◌+◌, arith}
use Rattle.feed_xml.proofs.Runs.{rest_is}
use Rattle.feed_xml.proofs.ValueLaws.{body_more, body_ends, body_last}
use Rattle.feed_xml.proofs.values.split_body.Goals as goal

pub returns-then-bytes-at-eq59-clause-text : goal.returns-then-bytes-at-eq59-clause-text
returns-then-bytes-at-eq59-clause-text c =
    rw (rest_is c.args.bytes.now (c.loop-at.at + 1)) (body_ends c.args.bytes.now c.loop-at.at c.loop-at-test.true c.if-bytes-at-eq59.true c.loop-at.invariant.so_far)

pub loop-at-preserved : goal.loop-at-preserved
loop-at-preserved c = record {
  within = omega arith;
  so_far = body_more c.args.bytes.now c.loop-at.at c.loop-at-test.true c.if-bytes-at-eq59.false c.loop-at.invariant.so_far;
}

pub returns-clause-text : goal.returns-clause-text
returns-clause-text c = body_last c.args.bytes.now c.loop-at.at c.loop-at-test.false c.loop-at.invariant.so_far
