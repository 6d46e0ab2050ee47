use Rattle.std.proofs.Common.{◌≡◌, length}
use Rattle.std.specs.Prelude.{fold, option_map}
use Rattle.onix_terms.specs.Territory.{codes_in, in_order, with_code}
use Rattle.onix_terms.proofs.countries.read_codes.Given as goal

abbrev pub invariant-loop-codes : goal.invariant-loop-codes
invariant-loop-codes l = option_map (λ more. fold with_code l.codes more) (codes_in l.rest) ≡ option_map in_order (codes_in l.text)

abbrev pub decreases-loop-codes : goal.decreases-loop-codes
decreases-loop-codes l = length l.rest
