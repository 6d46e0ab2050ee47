use Rattle.std.proofs.Common.{◌≡◌, ◌++◌, length, map}
use Rattle.onix_terms.specs.Territory.{words_of}
use Rattle.feed_mapping.specs.Regions.{country_code, spaced}
use Rattle.feed_mapping.proofs.regions.spaced_codes.Given as goal

abbrev pub invariant-loop-country : goal.invariant-loop-country
invariant-loop-country l = l.codes.items ++ spaced (map country_code (words_of l.rest)) ≡ spaced (map country_code (words_of l.text))

abbrev pub decreases-loop-country : goal.decreases-loop-country
decreases-loop-country l = length l.rest
