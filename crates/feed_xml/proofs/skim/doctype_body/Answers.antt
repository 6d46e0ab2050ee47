use Rattle.std.proofs.Common.{sym, ◌∙◌, arith}
use Rattle.feed_xml.proofs.Runs.{rest_is}
use Rattle.feed_xml.proofs.SkimLaws.{skim_init, skim_more, skim_done, skim_end}
use Rattle.feed_xml.proofs.skim.doctype_body.Goals as goal

pub loop-at-init : goal.loop-at-init
loop-at-init c = record { within = omega arith; so_far = skim_init c.args.bytes.now }

pub loop-at-preserved : goal.loop-at-preserved
loop-at-preserved c = record {
  within = omega arith;
  so_far = rw c.next_skim-stage.ensures (skim_more c.loop-at.stage c.args.bytes.now c.loop-at.at _ c.loop-at-test.true (sym c.ends_skim.ensures ∙ c.if-ends_skim.false) c.loop-at.invariant.so_far);
}

pub returns-then-ends_skim : goal.returns-then-ends_skim
returns-then-ends_skim c =
    rw rest_is (skim_done c.loop-at.stage c.args.bytes.now c.loop-at.at _ c.loop-at-test.true (sym c.ends_skim.ensures ∙ c.if-ends_skim.true) c.loop-at.invariant.so_far)

pub returns : goal.returns
returns c = skim_end c.loop-at.stage c.args.bytes.now c.loop-at.at _ c.loop-at-test.false c.loop-at.invariant.so_far
