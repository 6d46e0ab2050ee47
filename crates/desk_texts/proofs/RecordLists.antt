-- One more record for one more of a list.
use Rattle.std.proofs.Common.{◌≡◌, ◌+◌, ◌<◌, ◌++◌, ◌∷◌, ◌∙◌, [], ℕ, List, length, take, get_or, map, sym, ap, append_assoc}
use Rattle.std.proofs.lemmas.List.{map-append, take_more}

pub mapped-more : {X Y : Type 0} (f : X → Y) (base old new : List Y) (xs : List X) (i : ℕ) (x : X) → i < length xs → x ≡ get_or xs i x
    → old ≡ base ++ map f (take i xs) → new ≡ old ++ f x ∷ [] → new ≡ base ++ map f (take (i + 1) xs)
mapped-more f base old new xs i x less at before pushed =
    pushed
    ∙ ap (λ t. t ++ f x ∷ []) before
    ∙ append_assoc base (map f (take i xs)) (f x ∷ [])
    ∙ ap (λ t. base ++ t) (sym (map-append f (take i xs) (x ∷ [])) ∙ ap (map f) (sym (take_more xs i x less ∙ ap (λ y. take i xs ++ y ∷ []) (sym at))))
