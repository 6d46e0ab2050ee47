use Rattle.std.proofs.Common.{◌<◌, ◌-◌, length}
use Rattle.std.specs.Io.KnownBytes.{Consumes}
use Rattle.feed_xml.proofs.document_reading.read_head.Given as goal

abbrev pub invariant-loop-reader : goal.invariant-loop-reader
invariant-loop-reader g l = record {
  read : Consumes (g.R.Read.remaining l.fn.reader) (g.R.Read.remaining l.reader) l.head.items;
  room : 0 < length l.chunk.items;
}

abbrev pub decreases-loop-reader : goal.decreases-loop-reader
decreases-loop-reader g l = 1024 - length l.head.items
