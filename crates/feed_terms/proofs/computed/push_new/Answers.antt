use Rattle.std.proofs.Common.{◌∙◌, ◌≡◌, ℕ, List, Some, cond, length, position, ap, sym}
use Rattle.std.specs.Prelude.{◌==◌}
use Rattle.std.specs.BTreeMap.{get}
use Rattle.std.specs.Ordering.{is_eq, nat_cmp}
use Rattle.feed_terms.specs.declared.computed.ComputedPrice.{ComputedPrice}
use Rattle.feed_terms.proofs.LeastPrices.{least_new, places_new}
use Rattle.feed_terms.proofs.computed.push_new.Goals as goal

pub returns-clause-prices : goal.returns-clause-prices
returns-clause-prices c = c.in_ok-push.ensures.items ∙ least_new c.args.price c.args.prices.now.items c.requires.1

pub returns-clause-places : goal.returns-clause-places
returns-clause-places c = λ m.
    let xs = c.args.prices.now.items in
    let y = c.args.price in
    let there = get nat_cmp c.args.places.now m in
    c.in_ok-insert.ensures.updates.0 m
    ∙ ap (λ (k : ℕ). cond (is_eq (nat_cmp k m)) (Some c.len-place.result) there) c.value-minimum.ensures.value
    ∙ ap (λ (n : ℕ). cond (is_eq (nat_cmp y.minimum m)) (Some n) there) (c.len-place.ensures ∙ c.args.prices.now.ok.0)
    ∙ ap (cond (is_eq (nat_cmp y.minimum m)) (Some (length xs))) (c.requires.0 m)
    ∙ places_new xs y c.requires.1 m
    ∙ ap (λ (zs : List ComputedPrice). position (λ p. p.minimum == m) zs) (sym c.in_ok-push.ensures.items)
