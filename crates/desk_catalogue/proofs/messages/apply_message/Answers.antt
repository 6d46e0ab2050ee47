use Rattle.std.proofs.Common.{◌+◌, List, [], length, take, drop, arith, ap, subst, sym, ◌∙◌, rules}
use Rattle.std.proofs.Math.Seq.{take-add}
use Rattle.std.proofs.lemmas.List.{length-drop, take_all}
use Rattle.std.proofs.lemmas.Slice.{between_to_end}
use Rattle.std.proofs.lemmas.List.Elements.{All-drop}
use Rattle.std.specs.List.{All}
use Rattle.onix_records.specs.declared.parts.Product.{Product}
use Rattle.catalogue_rules.specs.Effects.{after as after_all, no_effect}
use Rattle.catalogue_rules.specs.Plans.{total}
use Rattle.catalogue_rules.specs.Records.{ByReference}
use Rattle.onix_records.specs.declared.effects.Effect.{Effect}
use Rattle.desk_tables.specs.Rows.{DeskRows}
use Rattle.desk_catalogue.proofs.DoesLemmas.{did_as, did_fail, did_then}
use Rattle.desk_catalogue.specs.AppliedProducts.{IsCatalogueReadAs}
use Rattle.desk_catalogue.specs.Holding.{HoldsCatalogue}
use Rattle.desk_catalogue.proofs.MinimumLemmas.{held_without_minimums, none_after_first}
use Rattle.desk_catalogue.specs.Runs.{AppliesSome, AreApplied}
use Rattle.desk_catalogue.specs.Storable.{IsStorableProduct}
use Rattle.desk_catalogue.proofs.StorableLemmas.{contents-storable}
use Rattle.desk_catalogue.specs.declared.messages.Step.{Step}
use Rattle.desk_catalogue.proofs.RunLemmas.{applied_then, none_applied}
use Rattle.desk_catalogue.proofs.messages.apply_message.Goals as goal

pub loop-done-init : goal.loop-done-init
loop-done-init g c = record {
  within = omega arith;
  counted = ap total c.none-effect.ensures;
  so_far = did_as c.in_ok-with_minimums.ensures.does
      (λ rows after one. λ m held. (
        λ without. held_without_minimums c.args.series.now m rows held (one.1 without),
        subst (λ (x : DeskRows). AreApplied c.args.series.now m [] no_effect rows c.none-effect.result x) (sym one.0)
            (subst (λ (e : Effect). AreApplied c.args.series.now m [] no_effect rows e rows) (sym c.none-effect.ensures) (none_applied c.args.series.now m rows held)),
      ));
}

pub loop-done-preserved : goal.loop-done-preserved
loop-done-preserved g c =
    let ps = c.products-products.result.now in
    let done = c.loop-done.done in
    let step = c.in_ok-step.step in
    let rest = between_to_end ps done (length ps) (omega arith) in
    let left = ap length rest ∙ length-drop done ps in
    record {
      within = omega (arith, left, c.loop-done-test.true, c.in_ok-step.ensures.counted.within);
      counted = c.in_ok-step.ensures.counted.counted ∙ ap (λ x. x + step.count) c.loop-done.invariant.counted;
      so_far =
          let s = c.args.series.now in
          let may = c.in_ok-with_minimums.with_minimums in
          let before = c.loop-done.effect in
          let all : All IsStorableProduct ps = subst (λ (l : List Product). All IsStorableProduct l) (sym c.products-products.ensures.products) (contents-storable c.args.contents.now c.can_be_read_back.ensures) in
          let More : DeskRows → Step → DeskRows → Type 0 = λ rows t after. (m : ByReference) → HoldsCatalogue s m rows → IsCatalogueReadAs may m × AreApplied s m (take (done + t.count) ps) no_effect rows t.effect after in
          did_as {First = More}
          (did_then c.loop-done.invariant.so_far c.in_ok-step.ensures.does
          (λ rows between after t one two. λ k held.
          let so_far = one k held in
          let now = subst (λ (l : List Product). AppliesSome may s l before between t after) rest two (after_all k (take done ps)) so_far.1.catalogue (λ without. none_after_first k done ps (c.in_ok-with_minimums.ensures.products without) (so_far.0 without)) (All-drop IsStorableProduct done ps all) in (
            so_far.0,
            subst (λ l. AreApplied s k l no_effect rows t.effect after) (sym (take-add done t.count ps)) (applied_then s k (take done ps) (take t.count (drop done ps)) no_effect before t.effect rows between after so_far.1 now),
          )))
          (λ rows after one. one);
    }

pub returns-in_err-step : goal.returns-in_err-step
returns-in_err-step g c = record { applied = did_fail (search rules) c.loop-done.invariant.so_far c.in_err-step.ensures.does }

pub returns : goal.returns
returns g c =
    let all = take_all c.loop-done.done c.products-products.result.now c.loop-done-test.false in
    record {
      applied = did_as c.loop-done.invariant.so_far
          (λ rows after one. λ m held.
          let are = subst (λ l. AreApplied c.args.series.now m l no_effect rows c.loop-done.effect after) (all ∙ c.products-products.ensures.products) (one m held).1 in record { catalogue = are.catalogue; counts = are.counts; others = are.others });
    }
