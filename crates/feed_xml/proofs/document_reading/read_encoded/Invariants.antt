use Rattle.std.proofs.Common.{◌≡◌, ◌<◌, List, length, fold}
use Rattle.std.specs.Prelude.{IfSome}
use Rattle.feed_xml.specs.Grammar.{Token}
use Rattle.feed_xml.specs.private.Decoders.{decoded_rest, text_left}
use Rattle.feed_xml.specs.Texts.{IsSmall}
use Rattle.feed_xml.proofs.ReadingLaws.{State}
use Rattle.feed_xml.proofs.document_reading.read_encoded.Given as goal

abbrev pub invariant-loop : goal.invariant-loop
invariant-loop g l = record {
  tokens : List Token;
  state : State (text_left l.encoding l.head (g.R.Read.remaining l.fn.reader)) (decoded_rest l.encoding (g.R.Read.remaining l.reader)) l.window.items tokens l.place l.part;
  small : IfSome l.part IsSmall;
  sunk : l.sink ≡ fold g.S.Sink.after l.fn.sink tokens;
  room : 0 < length l.chunk.items;
}
