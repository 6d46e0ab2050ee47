use Rattle.std.proofs.Common.{◌≡◌, find, length}
use Rattle.std.specs.Option.{option_copied}
use Rattle.feed_terms.specs.Fits.{fits}
use Rattle.feed_terms.proofs.table.Terms.fitting.Given as goal

abbrev pub invariant-loop-rest : goal.invariant-loop-rest
invariant-loop-rest l =
    find (fits (option_copied l.supplier) l.given) l.rest ≡ find (fits (option_copied l.supplier) l.given) l.self

abbrev pub decreases-loop-rest : goal.decreases-loop-rest
decreases-loop-rest l = length l.rest
