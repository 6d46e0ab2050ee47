use Rattle.std.proofs.Common.{arith}
use Rattle.feed_xml.proofs.PlaceLaws.{section_no_text}
use Rattle.feed_xml.proofs.place.section_tail.Goals as goal

pub returns-in-len1-up : goal.returns-in-len1-up
returns-in-len1-up c = section_no_text c.args.count c.args.run.now (omega (arith, c.in-len1-up.len_at_least))
