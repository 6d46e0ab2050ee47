-- The report on the gaps of a series is true of it.
use Rattle.std.proofs.Common.{◌≡◌, ◌+◌, ◌<◌, ◌≤◌, ℕ, zero, suc, Bool, true, false, List, [], ◌∷◌, Option, Some, None, IsSome, refl, subst, sym, ap, ◌∙◌, arith, cond, nat_eq, ◌⊎◌, inl, inr}
use Rattle.std.specs.Prelude.{filter, is_none, is_some}
use Rattle.std.specs.List.{All, Contains, range_with_len}
use Rattle.std.proofs.lemmas.List.Elements.{All-cons, All-nil, Contains-append_left, Contains-append_right, Contains-push}
use Rattle.std.proofs.lemmas.Bool.{cases_lt}
use Rattle.std.proofs.lemmas.Bool.Decides.{nat_tests}
use Rattle.series_rules.specs.Firsts.{first_at}
use Rattle.series_rules.specs.Gaps.{IsHeldCount, AreRangesFrom, AreRisingFrom, IsGreatest, IsInRanges, IsUpTo, greatest_of, having, lacking, numbers_up_to, ranges_of, with_number}
use Rattle.series_rules.specs.Series.{next_of}
use Rattle.series_rules.specs.Laws.{GapsAreTrue}
use Rattle.series_rules.specs.declared.requests.Standing.{Standing}
use Rattle.series_rules.proofs.GapLemmas.{greatest_is}
use Rattle.series_rules.proofs.LawProofs.{next_is_least}

-- n is one of them
abbrev IsIn : ℕ → List ℕ → Type 0
IsIn n [] = ⊥
IsIn n (m ∷ ms) = (n ≡ m) ⊎ IsIn n ms

ranges_lower : (ps : List (ℕ × ℕ)) (n m : ℕ) → n ≤ m → AreRangesFrom m ps → AreRangesFrom n ps
ranges_lower [] n m le rises = tt
ranges_lower (p ∷ ps) n m le rises = (let low : m ≤ p.0 = rises.0 in omega arith, rises.1, rises.2)

with_rises : (n : ℕ) (ps : List (ℕ × ℕ)) → AreRangesFrom (n + 1) ps → AreRangesFrom n (with_number n ps)
with_rises n [] rises = (omega arith, omega arith, tt)
with_rises n (p ∷ ps) rises = go (nat_eq p.0 (n + 1)) refl
  where
    go : (b : Bool) → nat_eq p.0 (n + 1) ≡ b → AreRangesFrom n (cond b ((n, p.1) ∷ ps) ((n, n) ∷ p ∷ ps))
    go true e = (omega arith, (let low : n + 1 ≤ p.0 = rises.0 in let high : p.0 ≤ p.1 = rises.1 in omega arith), rises.2)
    go false e = (omega arith, omega arith, ((let low : n + 1 ≤ p.0 = rises.0 in grind (arith, nat_tests)), rises.1, rises.2))

pub ranges_rise : (ns : List ℕ) (n : ℕ) → AreRisingFrom n ns → AreRangesFrom n (ranges_of ns)
ranges_rise [] n rises = tt
ranges_rise (m ∷ ms) n rises = ranges_lower (with_number m (ranges_of ms)) n m rises.0 (with_rises m (ranges_of ms) (ranges_rise ms (m + 1) rises.1))

to_ranges : (n m : ℕ) (ps : List (ℕ × ℕ)) → AreRangesFrom (n + 1) ps → (m ≡ n) ⊎ IsInRanges m ps → IsInRanges m (with_number n ps)
to_ranges n m [] rises (inl e) = inl (omega arith, omega arith)
to_ranges n m [] rises (inr h) = absurd h
to_ranges n m (p ∷ ps) rises is = go (nat_eq p.0 (n + 1)) refl is
  where
    go : (b : Bool) → nat_eq p.0 (n + 1) ≡ b → (m ≡ n) ⊎ (((p.0 ≤ m) × (m ≤ p.1)) ⊎ IsInRanges m ps) → IsInRanges m (cond b ((n, p.1) ∷ ps) ((n, n) ∷ p ∷ ps))
    go true e (inl same) = inl (omega arith, let low : n + 1 ≤ p.0 = rises.0 in let high : p.0 ≤ p.1 = rises.1 in omega arith)
    go true e (inr (inl h)) = inl (let low : n + 1 ≤ p.0 = rises.0 in let from : p.0 ≤ m = h.0 in omega arith, h.1)
    go true e (inr (inr h)) = inr h
    go false e (inl same) = inl (omega arith, omega arith)
    go false e (inr h) = inr h

from_ranges : (n m : ℕ) (ps : List (ℕ × ℕ)) → IsInRanges m (with_number n ps) → (m ≡ n) ⊎ IsInRanges m ps
from_ranges n m [] (inl h) = let low : n ≤ m = h.0 in let high : m ≤ n = h.1 in inl (omega arith)
from_ranges n m [] (inr h) = absurd h
from_ranges n m (p ∷ ps) is = go (nat_eq p.0 (n + 1)) refl is
  where
    go : (b : Bool) → nat_eq p.0 (n + 1) ≡ b → IsInRanges m (cond b ((n, p.1) ∷ ps) ((n, n) ∷ p ∷ ps)) → (m ≡ n) ⊎ (((p.0 ≤ m) × (m ≤ p.1)) ⊎ IsInRanges m ps)
    go true e (inl h) = touched e h (cases_lt n m)
      where
        touched : nat_eq p.0 (n + 1) ≡ true → (n ≤ m) × (m ≤ p.1) → (n < m) ⊎ (m ≤ n) → (m ≡ n) ⊎ (((p.0 ≤ m) × (m ≤ p.1)) ⊎ IsInRanges m ps)
        touched t h (inl lt) = inr (inl (grind (arith, nat_tests), h.1))
        touched t h (inr le) = let low : n ≤ m = h.0 in inl (omega arith)
    go true e (inr h) = inr (inr h)
    go false e (inl h) = let low : n ≤ m = h.0 in let high : m ≤ n = h.1 in inl (omega arith)
    go false e (inr h) = inr h

all_in_ranges : (ns : List ℕ) (n m : ℕ) → AreRisingFrom n ns → IsIn m ns → IsInRanges m (ranges_of ns)
all_in_ranges [] n m rises h = absurd h
all_in_ranges (k ∷ ks) n m rises (inl e) = to_ranges k m (ranges_of ks) (ranges_rise ks (k + 1) rises.1) (inl e)
all_in_ranges (k ∷ ks) n m rises (inr h) = to_ranges k m (ranges_of ks) (ranges_rise ks (k + 1) rises.1) (inr (all_in_ranges ks (k + 1) m rises.1 h))

only_in_ranges : (ns : List ℕ) (m : ℕ) → IsInRanges m (ranges_of ns) → IsIn m ns
only_in_ranges [] m h = absurd h
only_in_ranges (k ∷ ks) m h = go (λ g. only_in_ranges ks m g) (from_ranges k m (ranges_of ks) h)
  where
    go : (IsInRanges m (ranges_of ks) → IsIn m ks) → (m ≡ k) ⊎ IsInRanges m (ranges_of ks) → (m ≡ k) ⊎ IsIn m ks
    go rest (inl e) = inl e
    go rest (inr g) = inr (rest g)

-- the numbers that have nothing

rises_lower : (ns : List ℕ) (n m : ℕ) → n ≤ m → AreRisingFrom m ns → AreRisingFrom n ns
rises_lower [] n m le rises = tt
rises_lower (k ∷ ks) n m le rises = (let low : m ≤ k = rises.0 in omega arith, rises.1)

pub picked_rises : (p : ℕ → Bool) (len from : ℕ) → AreRisingFrom from (filter p (range_with_len from len))
picked_rises p zero from = tt
picked_rises p (suc len) from = go (picked_rises p len (from + 1)) (p from)
  where
    go : AreRisingFrom (from + 1) (filter p (range_with_len (from + 1) len)) → (b : Bool) → AreRisingFrom from (cond b (from ∷ filter p (range_with_len (from + 1) len)) (filter p (range_with_len (from + 1) len)))
    go rest true = (omega arith, rest)
    go rest false = rises_lower (filter p (range_with_len (from + 1) len)) from (from + 1) (omega arith) rest

is_picked : (p : ℕ → Bool) (len from m : ℕ) → from ≤ m → m < from + len → p m ≡ true → IsIn m (filter p (range_with_len from len))
is_picked p zero from m low high is = absurd (omega arith)
is_picked p (suc len) from m low high is = go (λ le. is_picked p len (from + 1) m le (omega arith) is) (cases_lt from m)
  where
    go : (from + 1 ≤ m → IsIn m (filter p (range_with_len (from + 1) len))) → (from < m) ⊎ (m ≤ from) → IsIn m (filter p (range_with_len from (suc len)))
    go rest (inl lt) = elim (p from) as (λ b. IsIn m (cond b (from ∷ filter p (range_with_len (from + 1) len)) (filter p (range_with_len (from + 1) len)))) [ true ↦ inr (rest (omega arith)) | false ↦ rest (omega arith) ]
    go rest (inr le) = let same : m ≡ from = omega arith in let here : p from ≡ true = ap p (sym same) ∙ is in rw here (inl same)

picked_only : (p : ℕ → Bool) (len from m : ℕ) → IsIn m (filter p (range_with_len from len)) → (from ≤ m) × (m < from + len) × (p m ≡ true)
picked_only p zero from m h = absurd h
picked_only p (suc len) from m h = go (λ g. picked_only p len (from + 1) m g) (p from) refl h
  where
    go : (IsIn m (filter p (range_with_len (from + 1) len)) → (from + 1 ≤ m) × (m < from + 1 + len) × (p m ≡ true)) → (b : Bool) → p from ≡ b → IsIn m (cond b (from ∷ filter p (range_with_len (from + 1) len)) (filter p (range_with_len (from + 1) len))) → (from ≤ m) × (m < from + suc len) × (p m ≡ true)
    go rest true e (inl same) = (omega arith, omega arith, ap p same ∙ e)
    go rest true e (inr g) = let r = rest g in let low : from + 1 ≤ m = r.0 in let high : m < from + 1 + len = r.1 in (omega arith, omega arith, r.2)
    go rest false e g = let r = rest g in let low : from + 1 ≤ m = r.0 in let high : m < from + 1 + len = r.1 in (omega arith, omega arith, r.2)

none_is : (o : Option Standing) → is_none o ≡ true → o ≡ None
none_is None e = refl
none_is (Some h) e = absurd cc

up_to : (from m : ℕ) (g : Option ℕ) → from ≤ m → IsUpTo m g → m < from + numbers_up_to from g
up_to from m None low is = absurd is
up_to from m (Some g) low is = omega arith

up_to_only : (from m : ℕ) (g : Option ℕ) → from ≤ m → m < from + numbers_up_to from g → IsUpTo m g
up_to_only from m None low lt = absurd (omega arith)
up_to_only from m (Some g) low lt = omega arith

-- how many from the next number on have something

contained : (ns : List ℕ) (m : ℕ) → IsIn m ns → Contains ns m
contained [] m h = absurd h
contained (k ∷ ks) m (inl e) = subst (Contains (k ∷ ks)) (sym e) (Contains-append_left (k ∷ []) ks k (Contains-push [] k))
contained (k ∷ ks) m (inr h) = Contains-append_right (k ∷ []) ks m (contained ks m h)

all_of : (P : ℕ → Type 0) (ns : List ℕ) → ((m : ℕ) → IsIn m ns → P m) → All P ns
all_of P [] each = All-nil P
all_of P (k ∷ ks) each = All-cons P k ks (each k (inl refl)) (all_of P ks (λ m h. each m (inr h)))

-- the greatest number that has something is not below it
pub not_above : (f : ℕ → Option Standing) (g : Option ℕ) → IsGreatest f g → (n : ℕ) → IsSome (f n) → IsUpTo n g
not_above f None is n some = let none = is n in absurd cc
not_above f (Some g) is n some = go (cases_lt g n)
  where
    go : (g < n) ⊎ (n ≤ g) → n ≤ g
    go (inl lt) = let none = is.1 n lt in absurd cc
    go (inr le) = le

some_is : (o : Option Standing) → is_some o ≡ true → IsSome o
some_is None e = absurd cc
some_is (Some h) e = refl

pub is_some_is : (o : Option Standing) → IsSome o → is_some o ≡ true
is_some_is None s = absurd cc
is_some_is (Some h) s = refl

held_is : (f : ℕ → Option Standing) (from : ℕ) (g : Option ℕ) → IsGreatest f g → IsHeldCount f from (having f from (numbers_up_to from g))
held_is f from g is =
    let p = λ (n : ℕ). is_some (f n) in
    let len = numbers_up_to from g in
    record {
      numbers = filter p (range_with_len from len);
      are_held = record {
        in_order = picked_rises p len from;
        all_held = λ n low some. contained (filter p (range_with_len from len)) n (is_picked p len from n low (up_to from n g low (not_above f g is n some)) (is_some_is (f n) some));
        only_held = all_of (λ n. IsSome (f n)) (filter p (range_with_len from len)) (λ n h. let only = picked_only p len from n h in some_is (f n) only.2);
      };
      counted = refl;
    }

pub gaps_are_true : GapsAreTrue
gaps_are_true L a =
    let f = first_at L a.name in
    let g = greatest_of L a.name in
    let p = λ (n : ℕ). is_none (f n) in
    let len = numbers_up_to a.first g in
    record {
      of_series = refl;
      is_first = refl;
      is_next = next_is_least L a;
      is_greatest = greatest_is L a.name;
      is_held = held_is f (next_of L a) g (greatest_is L a.name);
      in_order = ranges_rise (lacking f a.first len) a.first (picked_rises p len a.first);
      all_lacking = λ n low is none. all_in_ranges (lacking f a.first len) a.first n (picked_rises p len a.first) (is_picked p len a.first n low (up_to a.first n g low is) (ap is_none none));
      only_lacking = λ n h. let is = picked_only p len a.first n (only_in_ranges (lacking f a.first len) n h) in (is.0, up_to_only a.first n g is.0 is.1, none_is (f n) is.2);
    }
