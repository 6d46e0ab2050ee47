use Rattle.feed_xml.proofs.ReadingLaws.{cut}
use Rattle.feed_xml.proofs.document_reading.keep_text.Goals as goal

pub returns-in-Err : goal.returns-in-Err
returns-in-Err c = cut c.args.window.now.items c.as_slice.result.now c.truncate.new.self.items c.args.start c.in-Err.whole c.args.part c.as_slice.ensures.value c.in-Err.ensures.none c.truncate.ensures.items
