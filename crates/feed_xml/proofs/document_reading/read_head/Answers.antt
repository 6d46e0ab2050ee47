use Rattle.std.proofs.Common.{arith}
use Rattle.feed_xml.proofs.HeadLaws.{enough}
use Rattle.feed_xml.proofs.document_reading.read_head.Goals as goal

pub returns-clause-whole : goal.returns-clause-whole
returns-clause-whole g c =
    enough (g.R.Read.remaining c.args.reader.now) (g.R.Read.remaining c.loop-reader.reader) c.loop-reader.head.items c.loop-reader.invariant.read
    (omega (arith, c.loop-reader-test.false, c.len.ensures, c.loop-reader.head.ok.0))
