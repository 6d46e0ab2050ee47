-- Lemmas on what stands at each number: what one more request leaves there.
use Rattle.std.proofs.Common.{◌≡◌, ℕ, Bool, true, false, List, ◌∷◌, Option, Some, None, refl, ap, ◌∙◌, cond, ◌&&◌, nat_eq, arith}
use Rattle.std.specs.Prelude.{bytes_eq}
use Rattle.std.specs.Option.{option_or}
use Rattle.std.proofs.lemmas.Bool.Decides.{nat_tests}
use Rattle.std.proofs.lemmas.Slice.Eq.{bytes_eq-Decides}
use Rattle.series_rules.specs.Agreements.{agreements_of}
use Rattle.series_rules.specs.Firsts.{Placement, admitted, first_at, placed_at, put_at}
use Rattle.series_rules.specs.declared.requests.Request.{Request}
use Rattle.series_rules.specs.declared.requests.Standing.{Standing}

or_none : (o : Option Standing) → option_or o None ≡ o
or_none None = refl
or_none (Some h) = refl

-- what stands at a number stays
pub first_again : (L : List Request) (r : Request) (series : List ℕ) (n : ℕ) (h : Standing) → first_at L series n ≡ Some h → first_at (r ∷ L) series n ≡ Some h
first_again L r series n h e = ap (λ o. option_or o (put_at (admitted (agreements_of L) r) series n)) e

-- a request that puts nothing anywhere leaves what stands
pub first_left : (L : List Request) (r : Request) → admitted (agreements_of L) r ≡ None → (series : List ℕ) (n : ℕ) → first_at (r ∷ L) series n ≡ first_at L series n
first_left L r nothing series n = ap (λ p. option_or (first_at L series n) (put_at p series n)) nothing ∙ or_none (first_at L series n)

-- where nothing stood, there stands what the request puts
pub first_there : (L : List Request) (r : Request) (p : Placement) → admitted (agreements_of L) r ≡ Some p → first_at L p.series p.number ≡ None → first_at (r ∷ L) p.series p.number ≡ Some p.standing
first_there L r p puts none =
    let name : bytes_eq p.series p.series ≡ true = (bytes_eq-Decides p.series p.series).1 refl in
    let number : nat_eq p.number p.number ≡ true = grind (arith, nat_tests) in
    ap (λ o. option_or o (put_at (admitted (agreements_of L) r) p.series p.number)) none
    ∙ ap (λ o. put_at o p.series p.number) puts
    ∙ ap (λ b. cond (b && nat_eq p.number p.number) (Some p.standing) None) name
    ∙ ap (λ b. cond b (Some p.standing) None) number

-- at every other number stands what stood
pub first_other : (L : List Request) (r : Request) (p : Placement) → admitted (agreements_of L) r ≡ Some p → (series : List ℕ) (n : ℕ) → ((p.series ≡ series) × (p.number ≡ n) → ⊥) → first_at (r ∷ L) series n ≡ first_at L series n
first_other L r p puts series n other =
    ap (λ o. option_or (first_at L series n) (put_at o series n)) puts
    ∙ ap (option_or (first_at L series n)) (nowhere (bytes_eq p.series series) refl (nat_eq p.number n) refl)
    ∙ or_none (first_at L series n)
  where
    nowhere : (b : Bool) → bytes_eq p.series series ≡ b → (d : Bool) → nat_eq p.number n ≡ d → placed_at p series n ≡ None
    nowhere true e true t = absurd (other ((bytes_eq-Decides p.series series).0 e, grind (arith, nat_tests)))
    nowhere true e false t = ap (λ b. cond (b && nat_eq p.number n) (Some p.standing) None) e ∙ ap (λ b. cond b (Some p.standing) None) t
    nowhere false e d t = ap (λ b. cond (b && nat_eq p.number n) (Some p.standing) None) e
