use Rattle.std.proofs.Common.{◌∙◌}
use Rattle.feed_xml.specs.Encodings.{decoded}
use Rattle.feed_xml.proofs.ReadingLaws.{kept}
use Rattle.feed_xml.proofs.document_reading.take_in.Goals as goal

pub returns-clause-grows : goal.returns-clause-grows
returns-clause-grows c =
    kept c.args.window.now.items (decoded c.args.encoding c.args.bytes.now) c.push_decoded.new.out.items c.keep_text.new.window.items c.len-start.result c.args.part c.keep_text.result
    c.in-Ok.ensures (c.len-start.ensures ∙ c.args.window.now.ok.0) c.keep_text.ensures
