-- The items of a list that begins with an item.
use Rattle.std.proofs.Common.{◌≡◌, List, [], ◌∷◌, ◌⊎◌, inl, inr, ⊎_elim, arith}
use Rattle.std.specs.List.{Contains}
use Rattle.std.proofs.lemmas.List.Elements.{Contains-append_left, Contains-append_right, Contains-append_cases, Contains-push_cases, Contains-push}

pub not_in_none : {X : Type 0} (d : X) → Contains [] d → ⊥
not_in_none d h = absurd (omega (arith, h.1))

pub in_one : {X : Type 0} (x d : X) → Contains (x ∷ []) d → x ≡ d
in_one x d h = ⊎_elim (λ n. absurd (not_in_none d n)) (λ e. e) (Contains-push_cases [] x d h)

pub in_cons : {X : Type 0} (x : X) (xs : List X) (d : X) → Contains (x ∷ xs) d → (x ≡ d) ⊎ Contains xs d
in_cons x xs d h = ⊎_elim (λ a. inl (in_one x d a)) (λ b. inr b) (Contains-append_cases (x ∷ []) xs d h)

pub first_in : {X : Type 0} (x : X) (xs : List X) → Contains (x ∷ xs) x
first_in x xs = Contains-append_left (x ∷ []) xs x (Contains-push [] x)

pub rest_in : {X : Type 0} (x : X) (xs : List X) (d : X) → Contains xs d → Contains (x ∷ xs) d
rest_in x xs d h = Contains-append_right (x ∷ []) xs d h
