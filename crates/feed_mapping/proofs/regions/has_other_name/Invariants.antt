use Rattle.std.proofs.Common.{◌≡◌, length}
use Rattle.std.specs.List.{list_any}
use Rattle.onix_terms.specs.Territory.{words_of}
use Rattle.feed_mapping.specs.Regions.{is_other_name}
use Rattle.feed_mapping.proofs.regions.has_other_name.Given as goal

abbrev pub invariant-loop-country : goal.invariant-loop-country
invariant-loop-country l = list_any is_other_name (words_of l.rest) ≡ list_any is_other_name (words_of l.text)

abbrev pub decreases-loop-country : goal.decreases-loop-country
decreases-loop-country l = length l.rest
