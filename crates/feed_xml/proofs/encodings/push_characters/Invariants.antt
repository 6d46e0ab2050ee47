use Rattle.std.proofs.Common.{◌≡◌, ◌++◌, length}
use Rattle.std.specs.List.{flat_map}
use Rattle.feed_xml.specs.Encodings.{byte_text}
use Rattle.feed_xml.proofs.encodings.push_characters.Given as goal

abbrev pub invariant-loop-rest : goal.invariant-loop-rest
invariant-loop-rest l = l.out.items ++ flat_map (byte_text l.encoding) l.rest ≡ l.fn.out.items ++ flat_map (byte_text l.encoding) l.bytes

abbrev pub decreases-loop-rest : goal.decreases-loop-rest
decreases-loop-rest l = length l.rest
