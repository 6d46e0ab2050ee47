-- The best of a list, by an order: a scan finds it, and two best ones are alike.
use Rattle.std.proofs.Common.{◌≡◌, ℕ, ◌+◌, ◌<◌, List, [], ◌∷◌, ◌++◌, length, take, get_or, Option, Some, None, Bool, true, false, ◌⊎◌, inl, inr, fold, sym, refl, subst, arith, append_assoc}
use Rattle.std.specs.Bool.{Decides}
use Rattle.std.proofs.lemmas.Bool.Decides.{Decides-and, Decides-or}
use Rattle.std.proofs.lemmas.List.{append-nil, take_more}
use Rattle.std.proofs.lemmas.List.Elements.{All-nil, All-push, Contains-push, Contains-append_left, All-contains}
use Rattle.price_rules.specs.Order.{IsLess, IsGreater, ByThen, IsBest, best_of, better_of, by_then}
use Rattle.price_rules.specs.Steps.{IsTurn}

-- nothing comes before itself, and an order goes on
pub record IsOrder {X : Type 0} (Before : X → X → Type 0) : Type 0 where
  pub never : (x : X) → Before x x → ⊥
  pub chain : (x y z : X) → Before x y → Before y z → Before x z

pub best_none : {X : Type 0} (P : X → Type 0) (B : X → X → Type 0) → IsBest P B [] None
best_none P B = All-nil (λ x. P x → ⊥)

best_stays : {X : Type 0} (P : X → Type 0) (B : X → X → Type 0) (xs : List X) (x b : X) → (P x → B x b → ⊥) → IsBest P B xs (Some b) → IsBest P B (xs ++ x ∷ []) (Some b)
best_stays P B xs x b keeps h =
    (Contains-append_left xs (x ∷ []) b h.0, h.1, All-push (λ y. P y → B y b → ⊥) xs x h.2 keeps)

best_first : {X : Type 0} (P : X → Type 0) (B : X → X → Type 0) → IsOrder B → (xs : List X) (x : X) → P x → IsBest P B xs None → IsBest P B (xs ++ x ∷ []) (Some x)
best_first P B o xs x p h =
    (Contains-push xs x, p, All-push (λ y. P y → B y x → ⊥) xs x (λ k d l q _. h k d l q) (λ _ q. o.never x q))

best_takes : {X : Type 0} (P : X → Type 0) (B : X → X → Type 0) → IsOrder B → (xs : List X) (x b : X) → P x → B x b → IsBest P B xs (Some b) → IsBest P B (xs ++ x ∷ []) (Some x)
best_takes P B o xs x b p before h =
    (Contains-push xs x, p, All-push (λ y. P y → B y x → ⊥) xs x (λ k d l q r. h.2 k d l q (o.chain _ x b r before)) (λ _ q. o.never x q))

pub best_turn : {X : Type 0} (P : X → Type 0) (B : X → X → Type 0) → IsOrder B → (xs : List X) (x : X) (old new : Option X) → IsTurn P B x old new → IsBest P B xs old → IsBest P B (xs ++ x ∷ []) new
best_turn P B o xs x None new (inl t) h = subst (IsBest P B (xs ++ x ∷ [])) (sym t.1) (best_first P B o xs x t.0 h)
best_turn P B o xs x None new (inr t) h = subst (IsBest P B (xs ++ x ∷ [])) (sym t.1) (All-push (λ y. P y → ⊥) xs x h t.0)
best_turn P B o xs x (Some b) new (inl t) h = subst (IsBest P B (xs ++ x ∷ [])) (sym t.2) (best_takes P B o xs x b t.0 t.1 h)
best_turn P B o xs x (Some b) new (inr t) h = subst (IsBest P B (xs ++ x ∷ [])) (sym t.1) (best_stays P B xs x b t.0 h)

-- the same list, one longer, as a loop has it
pub best_more : {X : Type 0} (P : X → Type 0) (B : X → X → Type 0) (xs : List X) (i : ℕ) (x : X) (o : Option X) → i < length xs → x ≡ get_or xs i x → IsBest P B (take i xs ++ x ∷ []) o → IsBest P B (take (i + 1) xs) o
best_more P B xs i x o l e h =
    subst (λ ys. IsBest P B ys o) (sym (take_more xs i x l)) (subst (λ y. IsBest P B (take i xs ++ y ∷ []) o) e h)

-- one of the two comes before the other, or they are alike
abbrev pub Compares : {X : Type 0} → (X → X → Type 0) → (X → X → Type 0) → Type 0
Compares {X} Alike Before = (x y : X) → Before x y ⊎ (Alike x y ⊎ Before y x)

pub less_order : IsOrder IsLess
less_order = record { never = λ x h. omega arith; chain = λ x y z h k. omega arith }

pub greater_order : IsOrder IsGreater
greater_order = record { never = λ x h. omega arith; chain = λ x y z h k. omega arith }

-- an order by a key
pub by_order : {X K : Type 0} (key : X → K) (Less : K → K → Type 0) → IsOrder Less → IsOrder (λ x y. Less (key x) (key y))
by_order key Less o = record { never = λ x h. o.never (key x) h; chain = λ x y z h k. o.chain _ _ _ h k }

then_chain : {X K : Type 0} (key : X → K) (Less : K → K → Type 0) (Next : X → X → Type 0) → IsOrder Less → IsOrder Next → (x y z : X) → ByThen key Less Next x y → ByThen key Less Next y z → ByThen key Less Next x z
then_chain key Less Next o n x y z (inl h) (inl k) = inl (o.chain _ _ _ h k)
then_chain key Less Next o n x y z (inl h) (inr k) = inl (subst (λ a. Less (key x) a) k.0 h)
then_chain key Less Next o n x y z (inr h) (inl k) = inl (subst (λ a. Less a (key z)) (sym h.0) k)
then_chain key Less Next o n x y z (inr h) (inr k) = inr (cc, n.chain _ _ _ h.1 k.1)

then_never : {X K : Type 0} (key : X → K) (Less : K → K → Type 0) (Next : X → X → Type 0) → IsOrder Less → IsOrder Next → (x : X) → ByThen key Less Next x x → ⊥
then_never key Less Next o n x (inl h) = o.never (key x) h
then_never key Less Next o n x (inr h) = n.never x h.1

pub then_order : {X K : Type 0} (key : X → K) (Less : K → K → Type 0) (Next : X → X → Type 0) → IsOrder Less → IsOrder Next → IsOrder (ByThen key Less Next)
then_order key Less Next o n = record { never = then_never key Less Next o n; chain = then_chain key Less Next o n }

pub less_compares : Compares (λ x y. x ≡ y) IsLess
less_compares x y = grind arith

pub greater_compares : Compares (λ x y. x ≡ y) IsGreater
greater_compares x y = grind arith

then_compares_at : {X K : Type 0} (key : X → K) (Less : K → K → Type 0) (Next Alike : X → X → Type 0) (x y : X)
    → Less (key x) (key y) ⊎ ((key x ≡ key y) ⊎ Less (key y) (key x)) → Next x y ⊎ (Alike x y ⊎ Next y x)
    → ByThen key Less Next x y ⊎ (Alike x y ⊎ ByThen key Less Next y x)
then_compares_at key Less Next Alike x y (inl h) n = inl (inl h)
then_compares_at key Less Next Alike x y (inr (inr h)) n = inr (inr (inl h))
then_compares_at key Less Next Alike x y (inr (inl e)) (inl n) = inl (inr (e, n))
then_compares_at key Less Next Alike x y (inr (inl e)) (inr (inl n)) = inr (inl n)
then_compares_at key Less Next Alike x y (inr (inl e)) (inr (inr n)) = inr (inr (inr (sym e, n)))

pub then_compares : {X K : Type 0} (key : X → K) (Less : K → K → Type 0) (Next Alike : X → X → Type 0)
    → Compares (λ x y. x ≡ y) Less → Compares Alike Next → Compares Alike (ByThen key Less Next)
then_compares key Less Next Alike c d x y = then_compares_at key Less Next Alike x y (c (key x) (key y)) (d x y)

-- two best ones are alike
pub alike_at : {X : Type 0} (Alike Before : X → X → Type 0) (x y : X) → (Before x y → ⊥) → (Before y x → ⊥) → Before x y ⊎ (Alike x y ⊎ Before y x) → Alike x y
alike_at A B x y p q (inl h) = absurd (p h)
alike_at A B x y p q (inr (inl h)) = h
alike_at A B x y p q (inr (inr h)) = absurd (q h)

pub best_alike : {X : Type 0} (P : X → Type 0) (B Alike : X → X → Type 0) → Compares Alike B → (xs : List X) (x y : X) → IsBest P B xs (Some x) → IsBest P B xs (Some y) → Alike x y
best_alike P B A c xs x y h k =
    alike_at A B x y (All-contains (λ z. P z → B z y → ⊥) xs x k.2 h.0 h.1) (All-contains (λ z. P z → B z x → ⊥) xs y h.2 k.0 k.1) (c x y)

pub not_none : {X : Type 0} (P : X → Type 0) (B : X → X → Type 0) (xs : List X) (x : X) → IsBest P B xs (Some x) → IsBest P B xs None → ⊥
not_none P B xs x h k = All-contains (λ z. P z → ⊥) xs x k h.0 h.1

-- the test of an order by a key and then by the next
pub then_decides : {X K : Type 0} (key : X → K) (Less : K → K → Type 0) (Next : X → X → Type 0) (less same : K → K → Bool) (next : X → X → Bool)
    → ((a b : K) → Decides (less a b) (Less a b)) → ((a b : K) → Decides (same a b) (a ≡ b)) → ((x y : X) → Decides (next x y) (Next x y))
    → (x y : X) → Decides (by_then key less same next x y) (ByThen key Less Next x y)
then_decides key Less Next less same next l s n x y =
    Decides-or _ _ (l (key x) (key y)) (Decides-and _ _ (s (key x) (key y)) (n x y))

turn_first : {X : Type 0} (P : X → Type 0) (B : X → X → Type 0) (p : X → Bool) (b : X → X → Bool) (x : X) (t : Bool) → Decides t (P x) → p x ≡ t → IsTurn P B x None (better_of p b None x)
turn_first P B p b x true d e = rw e (inl (d.0 refl, refl))
turn_first P B p b x false d e = rw e (inr ((λ h. let k = d.1 h in cc), refl))

turn_next : {X : Type 0} (P : X → Type 0) (B : X → X → Type 0) (p : X → Bool) (b : X → X → Bool) (best x : X) (t u : Bool) → Decides t (P x) → Decides u (B x best) → p x ≡ t → b x best ≡ u
    → IsTurn P B x (Some best) (better_of p b (Some best) x)
turn_next P B p b best x true true d f e g = rw (e, g) (inl (d.0 refl, f.0 refl, refl))
turn_next P B p b best x true false d f e g = rw (e, g) (inr ((λ _ h. let k = f.1 h in cc), refl))
turn_next P B p b best x false u d f e g = rw e (inr ((λ h _. let k = d.1 h in cc), refl))

turn_is : {X : Type 0} (P : X → Type 0) (B : X → X → Type 0) (p : X → Bool) (b : X → X → Bool) → ((x : X) → Decides (p x) (P x)) → ((x y : X) → Decides (b x y) (B x y))
    → (best : Option X) (x : X) → IsTurn P B x best (better_of p b best x)
turn_is P B p b d f None x = turn_first P B p b x (p x) (d x) refl
turn_is P B p b d f (Some best) x = turn_next P B p b best x (p x) (b x best) (d x) (f x best) refl refl

best_on : {X : Type 0} (P : X → Type 0) (B : X → X → Type 0) (p : X → Bool) (b : X → X → Bool) → IsOrder B → ((x : X) → Decides (p x) (P x)) → ((x y : X) → Decides (b x y) (B x y))
    → (seen xs : List X) (best : Option X) → IsBest P B seen best → IsBest P B (seen ++ xs) (fold (better_of p b) best xs)
best_on P B p b o d f seen [] best h = subst (λ ys. IsBest P B ys best) (sym (append-nil seen)) h
best_on P B p b o d f seen (x ∷ xs) best h =
    subst (λ ys. IsBest P B ys (fold (better_of p b) (better_of p b best x) xs)) (append_assoc seen (x ∷ []) xs)
    (best_on P B p b o d f (seen ++ x ∷ []) xs (better_of p b best x) (best_turn P B o seen x best (better_of p b best x) (turn_is P B p b d f best x) h))

-- what is computed as the best of a list is the best
pub best_is : {X : Type 0} (P : X → Type 0) (B : X → X → Type 0) (p : X → Bool) (b : X → X → Bool) → IsOrder B → ((x : X) → Decides (p x) (P x)) → ((x y : X) → Decides (b x y) (B x y))
    → (xs : List X) → IsBest P B xs (best_of p b xs)
best_is P B p b o d f xs = best_on P B p b o d f [] xs None (best_none P B)
