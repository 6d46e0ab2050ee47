-- Walks over the numbers of a series, in order.
use Rattle.std.proofs.Common.{◌≡◌, ◌≢◌, ◌+◌, ◌<◌, ◌≤◌, ℕ, Bool, true, false, List, [], ◌∷◌, Option, Some, None, refl, sym, ap, ◌∙◌, arith, cond, ◌&&◌, nat_eq}
use Rattle.std.specs.Prelude.{filter, nat_lt, not}
use Rattle.std.specs.Ordering.{nat_cmp, is_eq, is_le}
use Rattle.std.specs.Map.{lookup, keys_of}
use Rattle.std.specs.BTreeMap.{is_at}
use Rattle.std.specs.List.{AllByRecursion}
use Rattle.std.specs.List.Sorted.{IsStrictlySortedBy}
use Rattle.std.specs.declared.cmp.Ordering.TheVariants.{Less, Equal, Greater}
use Rattle.std.proofs.lemmas.Bool.Decides.{nat_tests}
use Rattle.series_rules.specs.Gaps.{AreRisingFrom}
use Rattle.series_rules.specs.declared.requests.Standing.{Standing}

-- the value at that number
abbrev pub at : List (ℕ × Standing) → ℕ → Option Standing
at es k = lookup (is_at (nat_cmp k)) es

-- the numbers rise, from n on
abbrev pub Ascends : ℕ → List (ℕ × Standing) → Type 0
Ascends n es = AreRisingFrom n (keys_of es)

-- es is what f has from n on, in order
pub record Rest (f : ℕ → Option Standing) (n : ℕ) (es : List (ℕ × Standing)) : Type 0 where
  pub rises : Ascends n es
  pub same : (k : ℕ) → n ≤ k → at es k ≡ f k

pub at_test : (k m : ℕ) → is_eq (nat_cmp k m) ≡ nat_eq k m
at_test k m = go (nat_lt k m) refl (nat_eq k m) refl
  where
    go : (b : Bool) → nat_lt k m ≡ b → (c : Bool) → nat_eq k m ≡ c → is_eq (nat_cmp k m) ≡ c
    go true e true e' = absurd (grind (arith, nat_tests))
    go true e false e' = rw e refl
    go false e true e' = rw (e, e') refl
    go false e false e' = rw (e, e') refl

here : (e : ℕ × Standing) (es : List (ℕ × Standing)) → at (e ∷ es) e.0 ≡ Some e.1
here e es = let same : nat_eq e.0 e.0 ≡ true = grind (arith, nat_tests) in rw (at_test e.0 e.0 ∙ same) refl

elsewhere : (e : ℕ × Standing) (es : List (ℕ × Standing)) (k : ℕ) → k ≢ e.0 → at (e ∷ es) k ≡ at es k
elsewhere e es k other = let distinct : nat_eq k e.0 ≡ false = grind (arith, nat_tests) in rw (at_test k e.0 ∙ distinct) refl

at_below : (es : List (ℕ × Standing)) (n k : ℕ) → Ascends n es → k < n → at es k ≡ None
at_below [] n k rises lt = refl
at_below (e ∷ es) n k rises lt = let le : n ≤ e.0 = rises.0 in elsewhere e es k (λ same. absurd (omega arith)) ∙ at_below es (e.0 + 1) k rises.1 (omega arith)

-- nothing is left
pub rest_over : (f : ℕ → Option Standing) (n k : ℕ) → Rest f n [] → n ≤ k → f k ≡ None
rest_over f n k rest le = sym (rest.same k le)

-- the first of them is what f has at its number
pub rest_first : (f : ℕ → Option Standing) (n : ℕ) (e : ℕ × Standing) (es : List (ℕ × Standing)) → Rest f n (e ∷ es) → f e.0 ≡ Some e.1
rest_first f n e es rest = let le : n ≤ e.0 = rest.rises.0 in sym (rest.same e.0 le) ∙ here e es

-- and nothing stands before it
pub rest_gap : (f : ℕ → Option Standing) (n : ℕ) (e : ℕ × Standing) (es : List (ℕ × Standing)) → Rest f n (e ∷ es) → (k : ℕ) → n ≤ k → k < e.0 → f k ≡ None
rest_gap f n e es rest k le lt = sym (rest.same k le) ∙ elsewhere e es k (λ same. absurd (omega arith)) ∙ at_below es (e.0 + 1) k rest.rises.1 (omega arith)

pub rest_more : (f : ℕ → Option Standing) (n : ℕ) (e : ℕ × Standing) (es : List (ℕ × Standing)) → Rest f n (e ∷ es) → Rest f (e.0 + 1) es
rest_more f n e es rest = record {
  rises = rest.rises.1;
  same = λ k le. let low : n ≤ e.0 = rest.rises.0 in sym (elsewhere e es k (λ same. absurd (omega arith))) ∙ rest.same k (omega arith);
}

-- the start of a walk

less_is : (b c : Bool) → cond b Less (cond c Equal Greater) ≡ Less → b ≡ true
less_is true c e = refl
less_is false true e = absurd cc
less_is false false e = absurd cc

lesser : (m k : ℕ) → nat_cmp m k ≡ Less → m + 1 ≤ k
lesser m k e = let less : nat_lt m k ≡ true = less_is (nat_lt m k) (nat_eq m k) e in grind (arith, nat_tests)

all_lesser : (m : ℕ) (ks : List ℕ) → AllByRecursion (λ k. nat_cmp m k ≡ Less) ks → AllByRecursion (λ k. m + 1 ≤ k) ks
all_lesser m [] all = all
all_lesser m (k ∷ ks) all = (lesser m k all.0, all_lesser m ks all.1)

sorted_rises : (es : List (ℕ × Standing)) (n : ℕ) → IsStrictlySortedBy nat_cmp (keys_of es) → AllByRecursion (λ k. n ≤ k) (keys_of es) → Ascends n es
unfolding IsStrictlySortedBy
sorted_rises [] n sorted all = tt
sorted_rises (e ∷ es) n sorted all = (all.0, sorted_rises es (e.0 + 1) sorted.1 (all_lesser e.0 (keys_of es) sorted.0))

rises_lower : (es : List (ℕ × Standing)) (n m : ℕ) → n ≤ m → Ascends m es → Ascends n es
rises_lower [] n m le rises = tt
rises_lower (e ∷ es) n m le rises = let low : m ≤ e.0 = rises.0 in (omega arith, rises.1)

-- the entries from a number on
abbrev pub entries_from : ℕ → List (ℕ × Standing) → List (ℕ × Standing)
entries_from from es = filter (λ e. is_le (nat_cmp from e.0) && true) es

rises_filtered : (p : ℕ × Standing → Bool) (es : List (ℕ × Standing)) (n : ℕ) → Ascends n es → Ascends n (filter p es)
rises_filtered p [] n rises = tt
rises_filtered p (e ∷ es) n rises = go (rises_filtered p es (e.0 + 1) rises.1) (p e)
  where
    go : Ascends (e.0 + 1) (filter p es) → (b : Bool) → Ascends n (cond b (e ∷ filter p es) (filter p es))
    go ih true = (rises.0, ih)
    go ih false = let low : n ≤ e.0 = rises.0 in rises_lower (filter p es) n (e.0 + 1) (omega arith) ih

from_test : (from k : ℕ) → (is_le (nat_cmp from k) && true) ≡ not (nat_lt k from)
from_test from k = go (nat_lt from k) refl (nat_eq from k) refl
  where
    go : (b : Bool) → nat_lt from k ≡ b → (c : Bool) → nat_eq from k ≡ c → (is_le (nat_cmp from k) && true) ≡ not (nat_lt k from)
    go true e c e' = let low : nat_lt k from ≡ false = grind (arith, nat_tests) in rw (e, low) refl
    go false e true e' = let low : nat_lt k from ≡ false = grind (arith, nat_tests) in rw (e, e', low) refl
    go false e false e' = let low : nat_lt k from ≡ true = grind (arith, nat_tests) in rw (e, e', low) refl

from_rises : (from : ℕ) (es : List (ℕ × Standing)) (n : ℕ) → Ascends n es → Ascends from (entries_from from es)
from_rises from [] n rises = tt
from_rises from (e ∷ es) n rises = rw (from_test from e.0) (go (from_rises from es (e.0 + 1) rises.1) (nat_lt e.0 from) refl)
  where
    go : Ascends from (entries_from from es) → (b : Bool) → nat_lt e.0 from ≡ b → Ascends from (cond (not b) (e ∷ entries_from from es) (entries_from from es))
    go ih true low = ih
    go ih false low = (grind (arith, nat_tests), rises_filtered (λ x. is_le (nat_cmp from x.0) && true) es (e.0 + 1) rises.1)

from_same : (from : ℕ) (es : List (ℕ × Standing)) (k : ℕ) → from ≤ k → at (entries_from from es) k ≡ at es k
from_same from [] k le = refl
from_same from (e ∷ es) k le = rw (from_test from e.0) (go (from_same from es k le) (nat_lt e.0 from) refl)
  where
    go : at (entries_from from es) k ≡ at es k → (b : Bool) → nat_lt e.0 from ≡ b → at (cond (not b) (e ∷ entries_from from es) (entries_from from es)) k ≡ at (e ∷ es) k
    go ih true low = let lt : e.0 < from = grind (arith, nat_tests) in ih ∙ sym (elsewhere e es k (λ same. absurd (omega arith)))
    go ih false low = ap (λ o. cond (is_eq (nat_cmp k e.0)) (Some e.1) o) ih

every_low : (ks : List ℕ) → AllByRecursion (λ k. 0 ≤ k) ks
every_low [] = tt
every_low (k ∷ ks) = (omega arith, every_low ks)

pub rest_from : (es : List (ℕ × Standing)) (from : ℕ) → IsStrictlySortedBy nat_cmp (keys_of es) → Rest (at es) from (entries_from from es)
rest_from es from sorted = record {
  rises = from_rises from es 0 (sorted_rises es 0 sorted (every_low (keys_of es)));
  same = λ k le. from_same from es k le;
}
