use Rattle.std.proofs.Common.{◌≡◌, ℕ, List, IfSome, Option, Some, None, refl, sym, ap, subst, ◌∙◌}
use Rattle.std.specs.FinMap as map
use Rattle.std.specs.FinMap.{get-insert, get-remove}
use Rattle.std.proofs.lemmas.Cmp.{nat_list_cmp_total}
use Rattle.catalogue_rules.specs.Records.{EachHas, HasFewDetails}
use Rattle.catalogue_rules.specs.Plans.{Changes, IsReady}
use Rattle.catalogue_rules.specs.declared.entry.Entry.{Entry}
use Rattle.catalogue_rules.proofs.Bounds.{each-removed}
use Rattle.catalogue_rules.proofs.Changes.{applied_more, ready_more, all_applied}
use Rattle.catalogue_rules.proofs.catalogue.Catalogue.apply_draft.Goals as goal

pub loop-reference-init : goal.loop-reference-init
loop-reference-init c = (c.requires.ready, λ q. refl, c.requires.few)

pub replace-requires-clause-there : goal.replace-requires-clause-there
replace-requires-clause-there c =
    let key = c.in-Some.reference.now in
    let found : map.get c.loop-reference.rest key ≡ Some (Some c.in-Some-change.entry) = c.in-Some.ensures.some ∙ ap (λ o. Some o) c.in-Some-change.is in
    let ready : IsReady (map.get c.loop-reference.self key) (Some (Some c.in-Some-change.entry)) = subst (IsReady (map.get c.loop-reference.self key)) found (c.loop-reference.invariant.0 key) in
    ready refl

pub replace-requires-clause-few : goal.replace-requires-clause-few
replace-requires-clause-few c =
    let key = c.in-Some.reference.now in
    let found : map.get c.loop-reference.rest key ≡ Some (Some c.in-Some-change.entry) = c.in-Some.ensures.some ∙ ap (λ o. Some o) c.in-Some-change.is in
    subst (λ o. IfSome o (λ (w : Option Entry). IfSome w HasFewDetails)) found (c.loop-reference.invariant.2 key)

still_few : (before rest : Changes) (k : List ℕ) → rest ≡ map.remove before k → EachHas (λ w. IfSome w HasFewDetails) before → EachHas (λ w. IfSome w HasFewDetails) rest
still_few before rest k e few = subst (EachHas (λ w. IfSome w HasFewDetails)) (sym e) (each-removed (λ w. IfSome w HasFewDetails) before k few)

pub loop-reference-preserved-in-Some-change : goal.loop-reference-preserved-in-Some-change
loop-reference-preserved-in-Some-change c =
    let key = c.in-Some.reference.now in
    let now = λ (q : List ℕ). ap (λ m. map.get m q) c.replace.ensures ∙ get-insert nat_list_cmp_total c.loop-reference.self key c.in-Some-change.entry q in
    let found : map.get c.loop-reference.rest key ≡ Some (Some c.in-Some-change.entry) = c.in-Some.ensures.some ∙ ap (λ o. Some o) c.in-Some-change.is in (
      ready_more c.loop-reference.self c.replace.new.self c.loop-reference.rest c.pop.new.self key (Some c.in-Some-change.entry) now c.in-Some.ensures.rest c.loop-reference.invariant.0,
      λ q. applied_more c.loop-reference.self c.replace.new.self c.loop-reference.rest c.pop.new.self key (Some c.in-Some-change.entry) now found c.in-Some.ensures.rest q ∙ c.loop-reference.invariant.1 q,
      still_few c.loop-reference.rest c.pop.new.self key c.in-Some.ensures.rest c.loop-reference.invariant.2,
    )

pub loop-reference-preserved : goal.loop-reference-preserved
loop-reference-preserved c =
    let key = c.in-Some.reference.now in
    let now = λ (q : List ℕ). ap (λ m. map.get m q) c.remove.ensures ∙ get-remove nat_list_cmp_total c.loop-reference.self key q in
    let found : map.get c.loop-reference.rest key ≡ Some None = c.in-Some.ensures.some ∙ ap (λ o. Some o) c.in-None.is in (
      ready_more c.loop-reference.self c.remove.new.self c.loop-reference.rest c.pop.new.self key None now c.in-Some.ensures.rest c.loop-reference.invariant.0,
      λ q. applied_more c.loop-reference.self c.remove.new.self c.loop-reference.rest c.pop.new.self key None now found c.in-Some.ensures.rest q ∙ c.loop-reference.invariant.1 q,
      still_few c.loop-reference.rest c.pop.new.self key c.in-Some.ensures.rest c.loop-reference.invariant.2,
    )

pub returns : goal.returns
returns c = λ q. sym (all_applied (map.get c.loop-reference.self q) (map.get c.loop-reference.rest q) (c.in_default.ensures.none q)) ∙ c.loop-reference.invariant.1 q
