use Rattle.std.proofs.Common.{◌≡◌, ◌≤◌, length}
use Rattle.onix_terms.specs.Territory.{words_of}
use Rattle.feed_mapping.proofs.regions.next_word.Given as goal

abbrev pub invariant-loop-rest : goal.invariant-loop-rest
invariant-loop-rest l = record {
  words : words_of l.rest ≡ words_of l.text;
  shorter : length l.rest ≤ length l.text;
}

abbrev pub decreases-loop-rest : goal.decreases-loop-rest
decreases-loop-rest l = length l.rest
