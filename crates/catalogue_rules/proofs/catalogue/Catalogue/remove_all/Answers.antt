use Rattle.std.proofs.Common.{◌≡◌, ℕ, List, None, refl, ap, ◌∙◌}
use Rattle.std.specs.FinMap as map
use Rattle.std.specs.FinMap.{get-remove}
use Rattle.std.proofs.lemmas.Cmp.{nat_list_cmp_total}
use Rattle.catalogue_rules.proofs.Changes.{all_taken, one_more, others_stay}
use Rattle.catalogue_rules.proofs.catalogue.Catalogue.remove_all.Goals as goal

pub loop-reference-preserved : goal.loop-reference-preserved
loop-reference-preserved c =
    let was = c.loop-reference.self in
    let now = λ (q : List ℕ). ap (λ m. map.get m q) c.remove.ensures ∙ get-remove nat_list_cmp_total was _ q in (
      others_stay c.args.new_references.now c.loop-reference.reference-index _ c.args.self.now was c.remove.new.self None c.loop-reference-test.true now c.loop-reference.invariant.0,
      one_more c.args.new_references.now c.loop-reference.reference-index _ c.args.self.now was c.remove.new.self None c.loop-reference-test.true now (λ o. o ≡ None) refl c.loop-reference.invariant.1,
    )

pub returns-clause-gone : goal.returns-clause-gone
returns-clause-gone c = all_taken c.args.new_references.now c.loop-reference.reference-index (λ k. map.get c.loop-reference.self k ≡ None) c.loop-reference-test.false c.loop-reference.invariant.1
