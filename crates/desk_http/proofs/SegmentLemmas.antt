-- The segment of a path as `cut` finds it.
use Rattle.std.proofs.Common.{◌≡◌, ◌+◌, suc, take, arith, ℕ, List, [], ◌∷◌, length, drop, Bool, true, false, refl, ap, ◌∙◌, ◌==◌}
use Rattle.std.specs.List.{before_first, position_or_len}
use Rattle.std.specs.Prelude.{nat_eq}
use Rattle.std.specs.List.{starts_with}
use Rattle.desk_http.specs.Keys.{before_slash, segment_behind}

pub before_first_slash : (p : List ℕ) → before_first (λ b. b == 47) p ≡ before_slash p
before_first_slash [] = refl
before_first_slash (b ∷ p) = by (b == 47) refl (before_first_slash p)
  where
    by : (v : Bool) → (b == 47) ≡ v → before_first (λ x. x == 47) p ≡ before_slash p
        → before_first (λ x. x == 47) (b ∷ p) ≡ before_slash (b ∷ p)
    by true e rest = rw e refl
    by false e rest =
        let one_more : 1 + position_or_len (λ x. x == 47) p ≡ suc (position_or_len (λ x. x == 47) p) = omega arith in
        rw e (ap (λ n. take n (b ∷ p)) one_more ∙ ap (λ l. b ∷ l) rest)

pub segment_there : (front path rest : List ℕ) → starts_with nat_eq path front ≡ true → rest ≡ drop (length front) path
    → before_first (λ b. b == 47) rest ≡ segment_behind front path
segment_there front path rest starts is = rw starts (ap (before_first (λ b. b == 47)) is ∙ before_first_slash (drop (length front) path))

pub segment_absent : (front path : List ℕ) → starts_with nat_eq path front ≡ false → [] ≡ segment_behind front path
segment_absent front path starts = rw starts refl
