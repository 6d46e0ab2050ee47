-- What one step of a loop does.
use Rattle.std.specs.Prelude.{◌≡◌, ℕ, slice_get, List, [], ◌∷◌, ◌++◌, Option, Some, None, ◌⊎◌}
use Rattle.price_rules.specs.Choice.{IsCheaper}
use Rattle.price_rules.specs.declared.calendar.Span.{Span}
use Rattle.price_rules.specs.declared.choice.Choice.{Choice}
use Rattle.price_rules.specs.declared.offer.Offer.{Offer}

-- one turn of a scan for the best: the item replaces the best so far where it passes and
-- comes before it
abbrev pub IsTurn : {X : Type 0} → (X → Type 0) → (X → X → Type 0) → X → Option X → Option X
    → Type 0
IsTurn Passes Before x None new = (Passes x × (new ≡ Some x)) ⊎ ((Passes x → ⊥) × (new ≡ None))
IsTurn Passes Before x (Some best) new =
    (Passes x × Before x best × (new ≡ Some x))
    ⊎ ((Passes x → Before x best → ⊥) × (new ≡ Some best))

-- a span goes on where the open one ends: the two are joined where their amounts are equal, else
-- the open one is pushed
abbrev pub IsJoined : Span → Span → List Span → List Span → Span → Type 0
IsJoined before span old new after =
    ((before.amount ≡ span.amount) × (new ≡ old) × (after ≡ record before { last = span.last }))
    ⊎ ((before.amount ≡ span.amount → ⊥) × (new ≡ old ++ before ∷ []) × (after ≡ span))

-- the offer at this amount comes before the best choice so far, if there is one
abbrev pub Undercuts : Option Choice → List Offer → ℕ → Offer → Type 0
Undercuts None offers amount offer = Unit {0}
Undercuts (Some best) offers amount offer =
    (other : Offer) × (slice_get offers best.offer_index ≡ Some other)
    × IsCheaper (amount, offer) (best.amount, other)
