use Rattle.std.proofs.Common.{◌≡◌, ◌+◌, ◌<◌, ap, [], ◌∷◌, arith, length, subst, sym, take, rules}
use Rattle.std.proofs.lemmas.List.Elements.{All-take}
use Rattle.catalogue_rules.specs.Effects.{after as after_all}
use Rattle.onix_records.specs.declared.effects.Effect.{Effect}
use Rattle.desk_tables.specs.Rows.{DeskRows}
use Rattle.desk_catalogue.proofs.Additions.{take_push}
use Rattle.desk_catalogue.proofs.DoesLemmas.{did_as, did_both, did_fail, did_then}
use Rattle.desk_catalogue.specs.Runs.{ended, AppliesRun, AppliesSome, AreApplied, BeginsWith}
use Rattle.desk_catalogue.specs.Storable.{IsStorableProduct}
use Rattle.desk_catalogue.proofs.RunLemmas.{applied_then, one_applied}
use Rattle.desk_catalogue.proofs.messages.apply_some.Goals as goal

pub returns-in_default-clause-does : goal.returns-in_default-clause-does
returns-in_default-clause-does g c =
    let s = c.args.series.now in
    let ps = c.args.products.now in
    let n = c.in_ok-run.run'.count in
    let before = c.args.effect in
    did_as {First = λ rows e after. AppliesSome c.args.with_minimums s ps before rows (record { count = n; effect = e }) after}
    (did_then c.in_ok-run.ensures.does c.in_ok-effect.ensures.does
    (λ rows between after e one two. λ m held reads storable. subst (λ (d : DeskRows). AppliesRun s (take n ps) before d e after) one.0 two m held (one.1 m held reads).new (All-take IsStorableProduct n ps storable)))
    (λ rows after one. one)

pub returns-clause-does : goal.returns-clause-does
returns-clause-does g c =
    let s = c.args.series.now in
    let ps = c.args.products.now in
    let w = c.args.with_minimums in
    let run = c.in_ok-run.run' in
    let n = run.count in
    let before = c.args.effect in
    let mid = c.in_ok-effect.effect in
    let p = c.index-products-count.result in
    let Both : DeskRows → Effect → DeskRows → Type 0 = λ rows e after. BeginsWith w s ps rows run × AppliesRun s (take n ps) before rows e after in
    did_as {First = λ rows e after. AppliesSome w s ps before rows (record { count = n + 1; effect = e }) after}
    (did_then {First = Both}
    (did_then c.in_ok-run.ensures.does c.in_ok-effect.ensures.does (λ rows between after e one two. (one.1, subst (λ (d : DeskRows). AppliesRun s (take n ps) before d e after) one.0 two)))
    c.in_ok-effect-2.ensures.does
    (λ rows between after e one two. λ m held reads storable.
    let begins = one.0 m held reads in
    let first = one.1 m held begins.new (All-take IsStorableProduct n ps storable) in
    let one_more : ended run.found ≡ 1 = ap ended c.in-Some.is in
    let low : n < length ps = omega (arith, c.in_ok-run.ensures.within, one_more) in
    let last = two (after_all m (take n ps)) first.catalogue (subst IsStorableProduct (sym c.index-products-count.is) (storable n p low)) (begins.next p c.in-Some.found c.index-products-count.is c.in-Some.is) in
    subst (λ l. AreApplied s m l before rows e after) (sym (take_push ps n p low c.index-products-count.is)) (applied_then s m (take n ps) (p ∷ []) before mid e rows between after first (one_applied s (after_all m (take n ps)) p mid e between after last))))
    (λ rows after one. one)

pub returns-in_err-effect-clause-does : goal.returns-in_err-effect-clause-does
returns-in_err-effect-clause-does g c = did_fail (search rules) c.in_ok-run.ensures.does c.in_err-effect.ensures.does

pub returns-in_err-effect-2-clause-does : goal.returns-in_err-effect-2-clause-does
returns-in_err-effect-2-clause-does g c =
    did_fail (search rules) (did_both c.in_ok-run.ensures.does c.in_ok-effect.ensures.does) c.in_err-effect-2.ensures.does
