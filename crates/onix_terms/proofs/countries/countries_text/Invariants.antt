use Rattle.std.proofs.Common.{◌≡◌, take}
use Rattle.onix_terms.specs.Territory.{countries_text}
use Rattle.onix_terms.proofs.countries.countries_text.Given as goal

abbrev pub invariant-loop-i : goal.invariant-loop-i
invariant-loop-i l = l.text ≡ countries_text (take l.i l.countries)
