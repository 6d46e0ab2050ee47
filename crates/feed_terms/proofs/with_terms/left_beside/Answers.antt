use Rattle.std.proofs.Common.{◌≡◌, ◌||◌, List, [], ◌∷◌, Bool, true, false, not, filter, refl, sym, subst, ◌∙◌}
use Rattle.std.specs.Prelude.{IfOk}
use Rattle.feed_terms.specs.WithTerms.{held_by}
use Rattle.feed_terms.specs.declared.computed.ComputedPrice.{ComputedPrice}
use Rattle.feed_terms.proofs.with_terms.left_beside.Goals as goal

none_left : (held : ComputedPrice → Bool) (prices : List ComputedPrice) → [] ≡ filter (λ c. not (true || held c)) prices
none_left held [] = refl
none_left held (c ∷ prices) = none_left held prices

pub returns-then-is_barred-clause-left : goal.returns-then-is_barred-clause-left
returns-then-is_barred-clause-left c =
    let held = held_by c.args.beside.now c.args.given.now.price in
    c.new.ensures.items ∙ subst (λ (b : Bool). [] ≡ filter (λ c. not (b || held c)) c.args.prices.now) (sym c.if-is_barred.true ∙ c.in_ok-is_barred.ensures) (none_left held c.args.prices.now)

pub returns-clause-left : goal.returns-clause-left
returns-clause-left c =
    let held = held_by c.args.beside.now c.args.given.now.price in
    subst (λ (b : Bool). IfOk c.left_of.result (λ left. left.items ≡ filter (λ c. not (b || held c)) c.args.prices.now)) (sym c.if-is_barred.false ∙ c.in_ok-is_barred.ensures) c.left_of.ensures.left
