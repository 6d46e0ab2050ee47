use Rattle.std.proofs.Common.{◌≡◌, ◌≤◌, true, length}
use Rattle.std.specs.List.{list_all}
use Rattle.feed_xml.specs.Grammar.{is_hex_digit}
use Rattle.feed_xml.specs.Characters.{in_base}
use Rattle.feed_xml.proofs.numbers.hexadecimal.Given as goal

abbrev pub invariant-loop-rest : goal.invariant-loop-rest
invariant-loop-rest l = record {
  so_far : in_base 16 l.number l.rest ≡ in_base 16 0 l.digits;
  digits : list_all is_hex_digit l.rest ≡ true;
  bound : l.number ≤ 1114111;
}

abbrev pub decreases-loop-rest : goal.decreases-loop-rest
decreases-loop-rest l = length l.rest
