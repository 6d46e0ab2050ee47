use Rattle.std.proofs.Common.{◌≡◌, ◌<◌, [], length, IfOk, subst, arith}
use Rattle.std.proofs.lemmas.Grind.{common_steps}
use Rattle.toml.specs.View.{view}
use Rattle.feed_terms.specs.TermsFile.{types_behind}
use Rattle.feed_terms.proofs.TermTables.{array_of_some}
use Rattle.feed_terms.proofs.toml_terms.types_at.Goals as goal

pub returns : goal.returns
returns c =
    let values = c.as_slice.result.now in
    let some : 0 < length values = grind (arith, common_steps) in
    let is = array_of_some (types_behind []) _ (view c.in-Some.value.now) values c.in-Some.ensures (rw c.as_slice.ensures.value c.in-Some-as_array.ensures) some in
    subst (λ z. IfOk c.read_types.result (λ found. found ≡ z)) is c.read_types.ensures
