use Rattle.std.proofs.Common.{ap, length, arith}
use Rattle.feed_xml.specs.Grammar.{is_space}
use Rattle.feed_xml.proofs.PartLaws.{run_takes}
use Rattle.feed_xml.proofs.AttributeLaws.{shorter}
use Rattle.feed_xml.proofs.AttributeRuns.{next_some, next_bad, next_none}
use Rattle.feed_xml.proofs.attributes.next_attribute.Goals as goal

pub returns-in-Ok-read_attribute-clause-next : goal.returns-in-Ok-read_attribute-clause-next
returns-in-Ok-read_attribute-clause-next c = λ list s. next_some c.args.bytes.now _ _ list c.in-Ok.ensures c.in-Ok-read_attribute.ensures s

pub returns-in-Ok-read_attribute-clause-shorter : goal.returns-in-Ok-read_attribute-clause-shorter
returns-in-Ok-read_attribute-clause-shorter c =
    omega (arith, shorter c.in-Ok.before.now c.in-Ok.behind.now _ c.in-Ok-read_attribute.ensures, ap length (run_takes is_space c.args.bytes.now _ c.in-Ok.ensures).0)

pub returns-in-Err-read_attribute-clause-next : goal.returns-in-Err-read_attribute-clause-next
returns-in-Err-read_attribute-clause-next c = λ list s. next_bad c.args.bytes.now _ _ list c.in-Ok.ensures c.in-Err-read_attribute.ensures s

pub returns-in-Err-clause-next : goal.returns-in-Err-clause-next
returns-in-Err-clause-next c = λ list s. next_none c.args.bytes.now _ list c.in-Err.ensures s
