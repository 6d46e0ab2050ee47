use Rattle.std.proofs.Common.{◌≡◌, ◌++◌, drop}
use Rattle.std.specs.Option.{option_copied}
use Rattle.feed_terms.specs.WithTerms.{is_held_beside, with_all}
use Rattle.feed_terms.proofs.with_terms.add_with_terms.Given as goal

abbrev pub invariant-loop-place : goal.invariant-loop-place
invariant-loop-place l =
    l.output ++ with_all l.terms (option_copied l.supplier) (is_held_beside l.beside) (drop l.place l.records) (drop l.place l.given)
    ≡ l.fn.output ++ with_all l.terms (option_copied l.supplier) (is_held_beside l.beside) l.records l.given
