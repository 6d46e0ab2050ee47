use Rattle.std.proofs.Common.{sym, ◌∙◌}
use Rattle.feed_xml.specs.Kinds.{passes}
use Rattle.feed_xml.proofs.Runs.{run_split, run_short}
use Rattle.feed_xml.proofs.scan.run.Goals as goal

pub returns-then-is_filled : goal.returns-then-is_filled
returns-then-is_filled c =
    let s = c.split_run.ensures in
    rw s.whole (run_split c.args.kind c.split_run.result.0.now c.split_run.result.1.now s.each s.ends (sym c.is_filled.ensures ∙ c.if-is_filled.true))

pub returns-else-is_filled : goal.returns-else-is_filled
returns-else-is_filled c =
    let s = c.split_run.ensures in
    rw s.whole (run_short (passes c.args.kind) c.split_run.result.0.now c.split_run.result.1.now s.each (sym c.is_filled.ensures ∙ c.if-is_filled.false))
