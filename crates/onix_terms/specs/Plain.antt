-- What the laws of plain data are built of: that a clone is the same value, and that a test decides
-- whether two values are the same.
use Rattle.std.specs.Prelude.{◌≡◌, Bool, true, false, ◌&&◌, List, [], ◌∷◌, Option, Some, None, refl}
use Rattle.std.proofs.Common.{ap}
use Rattle.std.specs.Bool.{Decides}
use Rattle.std.specs.List.{AllZip}
use Rattle.std.specs.Option.{option_eq}

-- a list of clones is the same list, if each clone is the same value
pub clones-same : {T : Type 0} {IsClone : T → T → Type 0} → ((x y : T) → IsClone x y → y ≡ x)
    → (xs ys : List T) → AllZip IsClone xs ys
    → ys ≡ xs
clones-same same [] [] all = refl
clones-same same [] (y ∷ ys) all = absurd all
clones-same same (x ∷ xs) [] all = absurd all
clones-same same (x ∷ xs) (y ∷ ys) all = λ i. same x y all.0 i ∷ clones-same same xs ys all.1 i

-- both options are empty, or one holds a clone of what the other holds
abbrev pub IsOptionClone : {T : Type 0} → (T → T → Type 0) → Option T → Option T → Type 0
IsOptionClone IsClone None None = Unit {0}
IsOptionClone IsClone None (Some y) = ⊥
IsOptionClone IsClone (Some x) None = ⊥
IsOptionClone IsClone (Some x) (Some y) = IsClone x y

-- a clone of an option is the same option, where a clone of its value is the same value
pub option-clones-same : {T : Type 0} {IsClone : T → T → Type 0} → ((x y : T) → IsClone x y → y ≡ x)
    → (x y : Option T) → IsOptionClone IsClone x y
    → y ≡ x
option-clones-same same None None clone = refl
option-clones-same same None (Some y) clone = absurd clone
option-clones-same same (Some x) None clone = absurd clone
option-clones-same same (Some x) (Some y) clone = ap (λ v. Some v) (same x y clone)

-- two tests in a row decide both of two facts
pub decides-both : {P Q : Type 0} {a b : Bool} → Decides a P → Decides b Q
    → Decides (a && b) (P × Q)
decides-both {a = true} {b = true} p q = (λ e. (p.0 refl, q.0 refl), λ h. refl)
decides-both {a = true} {b = false} p q = (λ e. (p.0 refl, q.0 e), λ h. q.1 h.1)
decides-both {a = false} {b = b} p q = (λ e. (p.0 e, cc), λ h. p.1 h.0)

-- a test that decides a fact decides each that comes to the same
pub decides-same : {P Q : Type 0} {a : Bool} → (P → Q) → (Q → P) → Decides a P → Decides a Q
decides-same to from d = (λ e. to (d.0 e), λ q. d.1 (from q))

-- options are compared by their values
pub option-decides : {T : Type 0} {eq : T → T → Bool} → ((x y : T) → Decides (eq x y) (x ≡ y))
    → (x y : Option T) → Decides (option_eq eq x y) (x ≡ y)
option-decides d None None = (λ e. refl, λ e. refl)
option-decides d None (Some y) = (λ e. cc, λ e. cc)
option-decides d (Some x) None = (λ e. cc, λ e. cc)
option-decides d (Some x) (Some y) = decides-same (λ e. ap (λ v. Some v) e) (λ e. cc) (d x y)

-- a clone of a pair is the same pair, where clones of its parts are the same values
pub pair-clones-same : {A B : Type 0} {IsCloneA : A → A → Type 0} {IsCloneB : B → B → Type 0}
    → ((x y : A) → IsCloneA x y → y ≡ x) → ((x y : B) → IsCloneB x y → y ≡ x)
    → (x y : A × B) → IsCloneA x.0 y.0 × IsCloneB x.1 y.1 → y ≡ x
pair-clones-same a b x y clone = λ i. (a x.0 y.0 clone.0 i, b x.1 y.1 clone.1 i)

-- pairs are compared by their parts
pub pair-decides : {A B : Type 0} {eqA : A → A → Bool} {eqB : B → B → Bool}
    → ((x y : A) → Decides (eqA x y) (x ≡ y)) → ((x y : B) → Decides (eqB x y) (x ≡ y))
    → (x y : A × B) → Decides (eqA x.0 y.0 && eqB x.1 y.1) (x ≡ y)
pair-decides a b x y =
    decides-same (λ e. λ i. (e.0 i, e.1 i)) (λ e. (ap (λ p. p.0) e, ap (λ p. p.1) e))
    (decides-both (a x.0 y.0) (b x.1 y.1))
