use Rattle.std.proofs.Common.{◌≡◌, List, length, fold}
use Rattle.feed_xml.specs.Grammar.{Token}
use Rattle.feed_xml.specs.private.Windows.{Advances}
use Rattle.feed_xml.proofs.document_reading.drain.Given as goal

abbrev pub invariant-reading : goal.invariant-reading
invariant-reading g l = record {
  tokens : List Token;
  advances : Advances l.window tokens l.rest l.fn.place l.place;
  sunk : l.sink ≡ fold g.S.Sink.after l.fn.sink tokens;
}

abbrev pub decreases-reading : goal.decreases-reading
decreases-reading g l = length l.rest
