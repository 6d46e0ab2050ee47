use Rattle.std.proofs.Common.{◌≡◌, length}
use Rattle.std.specs.List.{list_all}
use Rattle.feed_xml.specs.Grammar.{is_encoding_byte}
use Rattle.feed_xml.proofs.instructions.are_of_encoding_name.Given as goal

abbrev pub invariant-loop-rest : goal.invariant-loop-rest
invariant-loop-rest l = list_all is_encoding_byte l.rest ≡ list_all is_encoding_byte l.bytes

abbrev pub decreases-loop-rest : goal.decreases-loop-rest
decreases-loop-rest l = length l.rest
