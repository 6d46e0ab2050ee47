use Rattle.std.proofs.Common.{◌≡◌, ◌<◌, ◌≤◌, true, length}
use Rattle.std.specs.Str.{chars_after}
use Rattle.feed_xml.specs.private.NameCharacters.{are_left}
use Rattle.feed_xml.proofs.characters.are_left.Given as goal

abbrev pub invariant-loop-rest : goal.invariant-loop-rest
invariant-loop-rest l = record {
  so_far : are_left l.first (chars_after l.left l.value l.rest) ≡ are_left true (chars_after l.fn.left l.fn.value l.bytes);
  most : l.left ≤ 3;
  three : l.left ≡ 3 → l.value < 128;
  two : l.left ≡ 2 → l.value < 8400;
  one : l.left ≡ 1 → l.value < 540000;
}

abbrev pub decreases-loop-rest : goal.decreases-loop-rest
decreases-loop-rest l = length l.rest
