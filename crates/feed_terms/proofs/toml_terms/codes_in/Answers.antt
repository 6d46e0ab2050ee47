use Rattle.std.proofs.Common.{◌≡◌, ◌<◌, [], Some, length, IfOk, refl, subst, arith}
use Rattle.std.proofs.lemmas.Grind.{common_steps}
use Rattle.toml.specs.View.{view}
use Rattle.feed_terms.specs.TermsFile.{typed_behind}
use Rattle.feed_terms.proofs.TermTables.{array_of_some}
use Rattle.feed_terms.proofs.toml_terms.codes_in.Goals as goal

pub returns : goal.returns
returns c =
    let values = c.as_slice.result.now in
    let some : 0 < length values = grind (arith, common_steps) in
    let is = array_of_some (typed_behind []) (Some (view c.args.value.now)) (view c.args.value.now) values refl (rw c.as_slice.ensures.value c.in-Some.ensures) some in
    subst (λ z. IfOk c.read_codes.result (λ found. found ≡ z)) is c.read_codes.ensures
