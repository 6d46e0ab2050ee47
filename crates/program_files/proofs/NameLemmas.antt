-- Names of files.
use Rattle.std.proofs.Common.{◌≡◌, ◌≤◌, ◌<◌, ◌-◌, ◌++◌, ◌∷◌, ◌∙◌, ◌+◌, ◌↔◌, ℕ, zero, suc, Bool, true, false, IsTrue, List, [], ap, arith, drop, take, get_or, length, refl, subst, sym, add-one}
use Rattle.std.specs.List.{repeat, suffix_len}
use Rattle.std.specs.Bool.{Decides}
use Rattle.std.specs.Str.{IsCharBoundary, IsUtf8, bytes_eq}
use Rattle.std.proofs.lemmas.Str.{IsCharBoundary-after_ascii}
use Rattle.std.proofs.lemmas.Grind.{common_steps}
use Rattle.std.proofs.lemmas.List.Sums.{suffix_len_is}
use Rattle.std.proofs.lemmas.Slice.Eq.{bytes_eq-Decides}

more : (n c : ℕ) → repeat (suc n) (c ∷ []) ≡ repeat n (c ∷ []) ++ c ∷ []
more zero c = refl
more (suc n) c = ap (λ rest. c ∷ rest) (more n c)

-- one zero more behind others
pub repeat_more : (n c : ℕ) → repeat (n + 1) (c ∷ []) ≡ repeat n (c ∷ []) ++ c ∷ []
repeat_more n c = ap (λ k. repeat k (c ∷ [])) (add-one n) ∙ more n c

-- where what passes from the end on begins
pub tail_is : (p : ℕ → Bool) (xs : List ℕ) (n : ℕ) → n ≤ length xs → ((k : ℕ) → n ≤ k → k < length xs → p (get_or xs k 0) ≡ true)
    → (0 < n → p (get_or xs (n - 1) 0) ≡ false) → n ≡ length xs - suffix_len p xs
tail_is p xs n within passes stops = let is = suffix_len_is p xs n 0 within passes stops in omega (arith, is, within)

-- two texts are found equal where they are
pub found_equal : (found : Bool) (xs ys : List ℕ) → IsTrue found ↔ (xs ≡ ys) → found ≡ bytes_eq xs ys
found_equal true xs ys test = sym ((bytes_eq-Decides xs ys).1 (test.0 refl))
found_equal false xs ys test = other (bytes_eq xs ys) (bytes_eq-Decides xs ys)
  where
    other : (b : Bool) → Decides b (xs ≡ ys) → false ≡ b
    other true decides = let none : IsTrue false = test.1 (decides.0 refl) in absurd cc
    other false decides = refl

-- what stands from a place on
pub rest_from : (n : ℕ) (xs : List ℕ) → take (length xs - n) (drop n xs) ≡ drop n xs
rest_from n xs = grind (arith, common_steps)

-- a text may be cut behind an ASCII byte
pub cut_behind : (bs : List ℕ) (n : ℕ) → IsUtf8 bs → 0 < n → n ≤ length bs → get_or bs (n - 1) 0 < 128 → IsCharBoundary bs n
cut_behind bs n utf8 some within ascii =
    let below : n - 1 < length bs = omega (arith, some, within) in
    let back : n - 1 + 1 ≡ n = omega (arith, some) in
    subst (IsCharBoundary bs) back (IsCharBoundary-after_ascii bs (n - 1) utf8 below ascii)
