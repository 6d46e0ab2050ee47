use Rattle.std.proofs.Common.{ℕ, List, Some, IsSome, refl, ap, ◌∙◌}
use Rattle.std.specs.FinMap as map
use Rattle.std.specs.FinMap.{get-insert}
use Rattle.std.proofs.lemmas.Cmp.{nat_list_cmp_total}
use Rattle.catalogue_rules.specs.declared.entry.Entry.{Entry}
use Rattle.catalogue_rules.proofs.Changes.{all_taken, one_more, others_stay}
use Rattle.catalogue_rules.proofs.catalogue.Catalogue.put_all.Goals as goal

pub loop-reference-preserved : goal.loop-reference-preserved
loop-reference-preserved c =
    let was = c.loop-reference.self in
    let empty : Entry = record { ids = c.new.result; supplies = c.new-in-loop-reference.result } in
    let now = λ (q : List ℕ). ap (λ m. map.get m q) c.in_ok-put.ensures.ok ∙ get-insert nat_list_cmp_total was _ empty q in (
      others_stay c.args.new_references.now c.loop-reference.reference-index _ c.args.self.now was c.put.new.self (Some empty) c.loop-reference-test.true now c.loop-reference.invariant.0,
      one_more c.args.new_references.now c.loop-reference.reference-index _ c.args.self.now was c.put.new.self (Some empty) c.loop-reference-test.true now IsSome refl c.loop-reference.invariant.1,
    )

pub returns-clause-there : goal.returns-clause-there
returns-clause-there c = all_taken c.args.new_references.now c.loop-reference.reference-index (λ k. IsSome (map.get c.loop-reference.self k)) c.loop-reference-test.false c.loop-reference.invariant.1
