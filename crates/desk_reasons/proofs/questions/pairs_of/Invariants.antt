use Rattle.std.proofs.Common.{◌≡◌, ◌++◌}
use Rattle.std.specs.Prelude.{map}
use Rattle.form_urlencoded.specs.Parse.{pairs_left}
use Rattle.desk_http.specs.Query.{decoded, pairs_of, texts}
use Rattle.desk_reasons.proofs.questions.pairs_of.Given as goal

abbrev pub invariant-loop-pair : goal.invariant-loop-pair
invariant-loop-pair l =
    pairs_of l.query ≡ map texts l.pairs.items ++ map (λ pair. (decoded pair.0, decoded pair.1)) (pairs_left l.pair-iterator)
