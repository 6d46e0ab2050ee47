-- The report on a series from the numbers that are held.
use Rattle.std.proofs.Common.{◌≡◌, ◌+◌, ◌-◌, ◌<◌, ◌≤◌, ℕ, zero, suc, Bool, true, false, List, [], ◌∷◌, ◌++◌, Option, Some, None, IsSome, length, refl, sym, ap, ◌∙◌, subst, arith, cond, nat_eq, ◌⊎◌, inl, inr}
use Rattle.std.specs.Prelude.{filter, is_none, is_some, nat_lt, slice_get}
use Rattle.std.specs.List.{range_with_len}
use Rattle.std.proofs.lemmas.Bool.{cases_lt}
use Rattle.std.proofs.lemmas.Bool.Decides.{nat_tests}
use Rattle.series_rules.specs.Gaps.{AreHeldFrom, AreRangesFrom, IsGreatest, IsUpTo, having, lacking, numbers_up_to, range_below, ranges_of, with_number}
use Rattle.series_rules.proofs.GapLemmas.{held_first, held_gap, held_none, held_rest}
use Rattle.series_rules.specs.Series.{IsNext}
use Rattle.series_rules.specs.declared.requests.Standing.{Standing}
use Rattle.series_rules.proofs.GapLaw.{is_some_is, not_above, picked_rises, ranges_rise}

-- the numbers from n on, up to the greatest

-- those that have nothing
abbrev pub lacking_from : (ℕ → Option Standing) → Option ℕ → ℕ → List ℕ
lacking_from f g n = lacking f n (numbers_up_to n g)

-- those that have something
abbrev having_from : (ℕ → Option Standing) → Option ℕ → ℕ → List ℕ
having_from f g n = filter (λ k. is_some (f k)) (range_with_len n (numbers_up_to n g))

one_more : (n : ℕ) (g : Option ℕ) → IsUpTo n g → numbers_up_to n g ≡ suc (numbers_up_to (n + 1) g)
one_more n None is = absurd is
one_more n (Some m) is = omega arith

up_to_lower : (k n : ℕ) (g : Option ℕ) → k ≤ n → IsUpTo n g → IsUpTo k g
up_to_lower k n None le is = is
up_to_lower k n (Some m) le is = omega arith

-- one number further, where the first of the numbers has something

some_not_none : (o : Option Standing) → IsSome o → is_none o ≡ false
some_not_none None s = absurd cc
some_not_none (Some h) s = refl

lacking_after : (f : ℕ → Option Standing) (g : Option ℕ) (n : ℕ) → IsGreatest f g → IsSome (f n) → lacking_from f g n ≡ lacking_from f g (n + 1)
lacking_after f g n is some =
    let rest = lacking_from f g (n + 1) in
    ap (lacking f n) (one_more n g (not_above f g is n some)) ∙ ap (λ b. cond b (n ∷ rest) rest) (some_not_none (f n) some)

having_after : (f : ℕ → Option Standing) (g : Option ℕ) (n : ℕ) → IsGreatest f g → IsSome (f n) → having_from f g n ≡ n ∷ having_from f g (n + 1)
having_after f g n is some =
    let rest = having_from f g (n + 1) in
    ap (λ d. filter (λ k. is_some (f k)) (range_with_len n d)) (one_more n g (not_above f g is n some)) ∙ ap (λ b. cond b (n ∷ rest) rest) (is_some_is (f n) some)

-- one number further, where it has nothing

lacking_here : (f : ℕ → Option Standing) (g : Option ℕ) (n : ℕ) → IsUpTo n g → f n ≡ None → lacking_from f g n ≡ n ∷ lacking_from f g (n + 1)
lacking_here f g n is none =
    let rest = lacking_from f g (n + 1) in
    ap (lacking f n) (one_more n g is) ∙ ap (λ o. cond (is_none o) (n ∷ rest) rest) none

having_not : (f : ℕ → Option Standing) (g : Option ℕ) (n : ℕ) → IsUpTo n g → f n ≡ None → having_from f g n ≡ having_from f g (n + 1)
having_not f g n is none =
    let rest = having_from f g (n + 1) in
    ap (λ d. filter (λ k. is_some (f k)) (range_with_len n d)) (one_more n g is) ∙ ap (λ o. cond (is_some o) (n ∷ rest) rest) none

-- d numbers further, up to one that has something

having_gap : (f : ℕ → Option Standing) (g : Option ℕ) (d n : ℕ) → IsUpTo (n + d) g → ((k : ℕ) → n ≤ k → k < n + d → f k ≡ None) → having_from f g n ≡ having_from f g (n + d)
having_gap f g zero n is none = let z : n + 0 ≡ n = omega arith in rw z refl
having_gap f g (suc d) n is none =
    let end : n + 1 + d ≡ n + suc d = omega arith in
    having_not f g n (up_to_lower n (n + suc d) g (omega arith) is) (none n (omega arith) (omega arith))
    ∙ having_gap f g d (n + 1) (rw end is) (λ k le lt. none k (omega arith) (omega arith)) ∙ ap (having_from f g) end

lacking_over : (f : ℕ → Option Standing) (g : Option ℕ) (d n : ℕ) → IsGreatest f g → ((k : ℕ) → n ≤ k → k < n + d → IsSome (f k)) → lacking_from f g n ≡ lacking_from f g (n + d)
lacking_over f g zero n is some = let z : n + 0 ≡ n = omega arith in rw z refl
lacking_over f g (suc d) n is some =
    let end : n + 1 + d ≡ n + suc d = omega arith in
    lacking_after f g n is (some n (omega arith) (omega arith)) ∙ lacking_over f g d (n + 1) is (λ k le lt. some k (omega arith) (omega arith)) ∙ ap (lacking_from f g) end

-- from the first number and from the next the same have nothing
pub lacking_from_next : (f : ℕ → Option Standing) (g : Option ℕ) (first next : ℕ) → IsGreatest f g → IsNext f first next → lacking_from f g first ≡ lacking_from f g next
lacking_from_next f g first next is least =
    let above : first ≤ next = least.above in
    let end : first + (next - first) ≡ next = omega arith in
    lacking_over f g (next - first) first is (λ k le lt. least.below k le (omega arith)) ∙ ap (lacking_from f g) end

-- ranges

-- d numbers from e on, as a range where there are some
abbrev run : ℕ → ℕ → List (ℕ × ℕ)
run e zero = []
run e (suc d) = (e, e + d) ∷ []

apart : (n : ℕ) (ps : List (ℕ × ℕ)) → AreRangesFrom (n + 2) ps → with_number n ps ≡ (n, n) ∷ ps
apart n [] rises = refl
apart n (p ∷ ps) rises =
    let low : n + 2 ≤ p.0 = rises.0 in
    let not : nat_eq p.0 (n + 1) ≡ false = grind (arith, nat_tests) in
    ap (λ b. cond b ((n, p.1) ∷ ps) ((n, n) ∷ p ∷ ps)) not

lacking_rise : (f : ℕ → Option Standing) (g : Option ℕ) (n : ℕ) → AreRangesFrom n (ranges_of (lacking_from f g n))
lacking_rise f g n = ranges_rise (lacking_from f g n) n (picked_rises (λ k. is_none (f k)) (numbers_up_to n g) n)

ranges_run : (f : ℕ → Option Standing) (g : Option ℕ) (d e : ℕ) → IsGreatest f g → IsSome (f (e + d)) → ((k : ℕ) → e ≤ k → k < e + d → f k ≡ None) → ranges_of (lacking_from f g e) ≡ run e d ++ ranges_of (lacking_from f g (e + d))
ranges_run f g zero e is some none = let z : e + 0 ≡ e = omega arith in rw z refl
ranges_run f g (suc zero) e is some none =
    let z : e + 0 ≡ e = omega arith in
    let two : e + 1 + 1 ≡ e + 2 = omega arith in
    let up = up_to_lower e (e + 1) g (omega arith) (not_above f g is (e + 1) some) in
    let past = lacking_after f g (e + 1) is some in
    let rises : AreRangesFrom (e + 2) (ranges_of (lacking_from f g (e + 1))) = rw past (rw two (lacking_rise f g (e + 2))) in
    ap ranges_of (lacking_here f g e up (none e (omega arith) (omega arith))) ∙ apart e (ranges_of (lacking_from f g (e + 1))) rises ∙ ap (λ t. (e, t) ∷ ranges_of (lacking_from f g (e + 1))) (sym z)
ranges_run f g (suc (suc d)) e is some none =
    let end : e + 1 + suc d ≡ e + suc (suc d) = omega arith in
    let last : e + 1 + d ≡ e + suc d = omega arith in
    let here : nat_eq (e + 1) (e + 1) ≡ true = grind (arith, nat_tests) in
    let rest = ranges_of (lacking_from f g (e + suc (suc d))) in
    let up = up_to_lower e (e + suc (suc d)) g (omega arith) (not_above f g is (e + suc (suc d)) some) in
    ap ranges_of (lacking_here f g e up (none e (omega arith) (omega arith)))
    ∙ ap (with_number e) (ranges_run f g (suc d) (e + 1) is (rw end some) (λ k le lt. none k (omega arith) (omega arith)) ∙ ap (λ k. (e + 1, e + 1 + d) ∷ ranges_of (lacking_from f g k)) end)
    ∙ ap (λ b. cond b ((e, e + 1 + d) ∷ rest) ((e, e) ∷ (e + 1, e + 1 + d) ∷ rest)) here ∙ ap (λ t. (e, t) ∷ rest) last

run_below : (e n : ℕ) → e ≤ n → range_below e n ≡ run e (n - e)
run_below e n le = go (n - e) refl (nat_lt e n) refl
  where
    go : (d : ℕ) → n - e ≡ d → (b : Bool) → nat_lt e n ≡ b → cond b ((e, n - 1) ∷ []) [] ≡ run e d
    go zero is true t = absurd (grind (arith, nat_tests))
    go zero is false t = refl
    go (suc d) is true t = let end : n - 1 ≡ e + d = omega arith in ap (λ k. (e, k) ∷ []) end
    go (suc d) is false t = absurd (grind (arith, nat_tests))

-- a walk over the numbers that are held

-- up to the first of them
pub ranges_next : (f : ℕ → Option Standing) (g : Option ℕ) (seen n : ℕ) (ns : List ℕ) → IsGreatest f g → AreHeldFrom f seen (n ∷ ns) → ranges_of (lacking_from f g seen) ≡ range_below seen n ++ ranges_of (lacking_from f g (n + 1))
ranges_next f g seen n ns is held =
    let le : seen ≤ n = held.in_order.0 in
    let end : seen + (n - seen) ≡ n = omega arith in
    let some = held_first f seen n ns held in
    ranges_run f g (n - seen) seen is (rw end some) (λ k from lt. held_gap f seen n ns held k from (omega arith))
    ∙ ap (λ k. run seen (n - seen) ++ ranges_of (lacking_from f g k)) end
    ∙ ap (λ ks. run seen (n - seen) ++ ranges_of ks) (lacking_after f g n is some)
    ∙ ap (λ ps. ps ++ ranges_of (lacking_from f g (n + 1))) (sym (run_below seen n le))

-- none is left, so none is above
over : (f : ℕ → Option Standing) (g : Option ℕ) (seen : ℕ) → IsGreatest f g → AreHeldFrom f seen [] → numbers_up_to seen g ≡ 0
over f None seen is held = refl
over f (Some m) seen is held = go (cases_lt m seen)
  where
    go : (m < seen) ⊎ (seen ≤ m) → m + 1 - seen ≡ 0
    go (inl lt) = omega arith
    go (inr le) = let none = held_none f seen held m le in let some = is.0 in absurd cc

-- past the last of them
pub ranges_over : (f : ℕ → Option Standing) (g : Option ℕ) (seen : ℕ) → IsGreatest f g → AreHeldFrom f seen [] → ranges_of (lacking_from f g seen) ≡ []
ranges_over f g seen is held = ap (λ d. ranges_of (lacking f seen d)) (over f g seen is held)

held_are : (f : ℕ → Option Standing) (g : Option ℕ) (ns : List ℕ) (from : ℕ) → IsGreatest f g → AreHeldFrom f from ns → having_from f g from ≡ ns
held_are f g [] from is held = ap (λ d. filter (λ k. is_some (f k)) (range_with_len from d)) (over f g from is held)
held_are f g (n ∷ ns) from is held =
    let le : from ≤ n = held.in_order.0 in
    let end : from + (n - from) ≡ n = omega arith in
    let some = held_first f from n ns held in
    having_gap f g (n - from) from (rw end (not_above f g is n some)) (λ k low lt. held_gap f from n ns held k low (omega arith))
    ∙ ap (having_from f g) end ∙ having_after f g n is some ∙ ap (λ ks. n ∷ ks) (held_are f g ns (n + 1) is (held_rest f from n ns held))

-- so many from the next on have something
pub held_count : (f : ℕ → Option Standing) (g : Option ℕ) (ns : List ℕ) (from : ℕ) → IsGreatest f g → AreHeldFrom f from ns → having f from (numbers_up_to from g) ≡ length ns
held_count f g ns from is held = ap length (held_are f g ns from is held)

-- the greatest number

pub last_is_greatest : (f : ℕ → Option Standing) (ns : List ℕ) (from g : ℕ) → AreHeldFrom f from ns → slice_get ns (length ns - 1) ≡ Some g → IsGreatest f (Some g)
last_is_greatest f [] from g held e = absurd cc
last_is_greatest f (n ∷ []) from g held e =
    let same : n ≡ g = cc in
    subst (λ m. IsGreatest f (Some m)) same (held_first f from n [] held, λ k lt. held_none f (n + 1) (held_rest f from n [] held) k (omega arith))
last_is_greatest f (n ∷ m ∷ ns) from g held e =
    let place : length (n ∷ m ∷ ns) - 1 ≡ suc (length (m ∷ ns) - 1) = omega arith in
    last_is_greatest f (m ∷ ns) (n + 1) g (held_rest f from n (m ∷ ns) held) (ap (slice_get (n ∷ m ∷ ns)) (sym place) ∙ e)
