use Rattle.std.proofs.Common.{◌≡◌, ◌++◌, take, drop}
use Rattle.onix_terms.specs.Territory.{with_code}
use Rattle.onix_terms.proofs.countries.add_code.Given as goal

abbrev pub invariant-loop-i : goal.invariant-loop-i
invariant-loop-i l = (l.codes ≡ l.initial.codes) × (take l.i l.initial.codes ++ with_code (drop l.i l.initial.codes) l.code ≡ with_code l.initial.codes l.code)
