use Rattle.std.proofs.Common.{◌≡◌, ◌++◌, length, map}
use Rattle.std.specs.Option.{option_copied}
use Rattle.feed_terms.specs.HeldBack.{place_text, unfitted}
use Rattle.feed_terms.proofs.barred.unfitted_places.Given as goal

abbrev pub invariant-loop-rest : goal.invariant-loop-rest
invariant-loop-rest l =
    l.places ++ map place_text (unfitted l.terms (option_copied l.supplier) l.rest) ≡ map place_text (unfitted l.terms (option_copied l.supplier) l.given)

abbrev pub decreases-loop-rest : goal.decreases-loop-rest
decreases-loop-rest l = length l.rest
