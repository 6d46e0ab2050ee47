-- Lemmas on fronts: what stands from a number on without a gap, and what it comes to.
use Rattle.std.proofs.Common.{◌≡◌, ◌≢◌, ◌+◌, ◌-◌, ◌<◌, ◌≤◌, ℕ, zero, suc, List, [], ◌∷◌, ◌++◌, Option, Some, None, IsSome, length, refl, sym, subst, ap, ◌∙◌, arith, add-zero, ◌⊎◌, inl, inr, nat_eq, cond, ◌&&◌, true, false}
use Rattle.std.specs.Prelude.{slice_get, bytes_eq}
use Rattle.std.proofs.lemmas.Bool.{cases_lt, cases_eq}
use Rattle.std.specs.Option.{option_or}
use Rattle.std.proofs.lemmas.Bool.Decides.{nat_tests}
use Rattle.std.proofs.lemmas.List.{take-append-le}
use Rattle.catalogue_rules.specs.Records.{ByReference}
use Rattle.onix_records.specs.declared.agreements.Agreement.{Agreement}
use Rattle.series_rules.specs.Content.{SameContent}
use Rattle.series_rules.specs.Agreements.{agreements_of}
use Rattle.series_rules.specs.Firsts.{first_at, placed_at, put_at, admitted}
use Rattle.series_rules.specs.Series.{BeginsWith, in_front_of, without_gap, front_of, IsFront, IsNext, after_all, after_standing, kept_of}
use Rattle.series_rules.specs.declared.requests.Request.{Request}
use Rattle.series_rules.specs.Firsts.{Placement}
use Rattle.series_rules.specs.declared.requests.Standing.{Standing}

each_onto : (f : ℕ → Option Standing) (n : ℕ) (rest : List Standing) → ((k : ℕ) → k < length rest → f (n + 1 + k) ≡ slice_get rest k) → (o : Option Standing) → f n ≡ o → (k : ℕ) → k < length (in_front_of o rest) → f (n + k) ≡ slice_get (in_front_of o rest) k
each_onto f n rest ih None e k lt = absurd (omega arith)
each_onto f n rest ih (Some h) e zero lt = rw add-zero e
each_onto f n rest ih (Some h) e (suc k) lt = let s : n + suc k ≡ n + 1 + k = omega arith in ap f s ∙ ih k (omega arith)

without_gap_each : (most : ℕ) (f : ℕ → Option Standing) (n k : ℕ) → k < length (without_gap most f n) → f (n + k) ≡ slice_get (without_gap most f n) k
without_gap_each zero f n k lt = absurd (omega arith)
without_gap_each (suc most) f n k lt = each_onto f n (without_gap most f (n + 1)) (λ j lt. without_gap_each most f (n + 1) j lt) (f n) refl k lt

ends_onto : (f : ℕ → Option Standing) (n most : ℕ) (rest : List Standing) → (length rest < most → f (n + 1 + length rest) ≡ None) → (o : Option Standing) → f n ≡ o → length (in_front_of o rest) < suc most → f (n + length (in_front_of o rest)) ≡ None
ends_onto f n most rest ih None e lt = rw add-zero e
ends_onto f n most rest ih (Some h) e lt = let s : n + suc (length rest) ≡ n + 1 + length rest = omega arith in ap f s ∙ ih (omega arith)

without_gap_ends : (most : ℕ) (f : ℕ → Option Standing) (n : ℕ) → length (without_gap most f n) < most → f (n + length (without_gap most f n)) ≡ None
without_gap_ends zero f n lt = absurd (omega arith)
without_gap_ends (suc most) f n lt = ends_onto f n most (without_gap most f (n + 1)) (without_gap_ends most f (n + 1)) (f n) refl lt

length_onto : (most : ℕ) (rest : List Standing) → length rest ≤ most → (o : Option Standing) → length (in_front_of o rest) ≤ suc most
length_onto most rest le None = omega arith
length_onto most rest le (Some h) = omega arith

without_gap_length : (most : ℕ) (f : ℕ → Option Standing) (n : ℕ) → length (without_gap most f n) ≤ most
without_gap_length zero f n = omega arith
without_gap_length (suc most) f n = length_onto most (without_gap most f (n + 1)) (without_gap_length most f (n + 1)) (f n)

-- the fold, one more at its end

pub after_all_append : (m : ByReference) (hs gs : List Standing) → after_all m (hs ++ gs) ≡ after_all (after_all m hs) gs
after_all_append m [] gs = refl
after_all_append m (h ∷ hs) gs = after_all_append (after_standing m h) hs gs

pub slice_get_front : {A : Type 0} (hs more : List A) (k : ℕ) → k < length hs → slice_get (hs ++ more) k ≡ slice_get hs k
slice_get_front [] more k lt = absurd (omega arith)
slice_get_front (h ∷ hs) more zero lt = refl
slice_get_front (h ∷ hs) more (suc k) lt = slice_get_front hs more k (omega arith)

-- what stands later changes nothing of what one did
pub kept_front : (hs more : List Standing) (k : ℕ) → k < length hs → kept_of (hs ++ more) k ≡ kept_of hs k
kept_front hs more k lt = let n : k ≤ length hs = omega arith in rw (take-append-le k hs more n, slice_get_front hs more k lt) refl

-- a front is unique

same_list : (xs ys : List Standing) → length xs ≡ length ys → ((k : ℕ) → k < length xs → slice_get xs k ≡ slice_get ys k) → xs ≡ ys
same_list [] [] n each = refl
same_list [] (y ∷ ys) n each = absurd (omega arith)
same_list (x ∷ xs) [] n each = absurd (omega arith)
same_list (x ∷ xs) (y ∷ ys) n each =
    let at : Some x ≡ Some y = each 0 (omega arith) in
    let head : x ≡ y = cc in
    let tail = same_list xs ys (omega arith) (λ k lt. each (suc k) (omega arith)) in
    cc

pub slice_get_none : (hs : List Standing) (k : ℕ) → slice_get hs k ≡ None → length hs ≤ k
slice_get_none [] k e = omega arith
slice_get_none (h ∷ hs) zero e = absurd cc
slice_get_none (h ∷ hs) (suc k) e = let ih = slice_get_none hs k e in omega arith

not_shorter : (f : ℕ → Option Standing) (from : ℕ) (hs gs : List Standing) → IsFront f from hs → BeginsWith f from gs → length gs ≤ length hs
not_shorter f from hs gs is other = go (cases_lt (length hs) (length gs))
  where
    go : (length hs < length gs) ⊎ (length gs ≤ length hs) → length gs ≤ length hs
    go (inl lt) = let within = slice_get_none gs (length hs) (sym (other (length hs) lt) ∙ is.ends) in absurd (omega arith)
    go (inr le) = le

prefix : (gs hs : List Standing) → length gs ≤ length hs → ((k : ℕ) → k < length gs → slice_get gs k ≡ slice_get hs k) → (more : List Standing) × (hs ≡ gs ++ more)
prefix [] hs le each = (hs, refl)
prefix (g ∷ gs) [] le each = absurd (omega arith)
prefix (g ∷ gs) (h ∷ hs) le each =
    let at : Some g ≡ Some h = each 0 (omega arith) in
    let head : h ≡ g = cc in
    let rest = prefix gs hs (omega arith) (λ k lt. each (suc k) (omega arith)) in
    (rest.0, ap (λ x. x ∷ hs) head ∙ ap (λ xs. g ∷ xs) rest.1)

-- the front begins with what stands from its first number on
pub front_goes_on : (f : ℕ → Option Standing) (from : ℕ) (hs gs : List Standing) → IsFront f from hs → BeginsWith f from gs → (more : List Standing) × (hs ≡ gs ++ more)
front_goes_on f from hs gs is other =
    let within = not_shorter f from hs gs is other in
    prefix gs hs within (λ k lt. sym (other k lt) ∙ is.each k (omega arith))

pub front_unique : (f : ℕ → Option Standing) (from : ℕ) (hs gs : List Standing) → IsFront f from hs → IsFront f from gs → hs ≡ gs
front_unique f from hs gs is other =
    let n = not_shorter f from hs gs is (λ k lt. other.each k lt) in
    let m = not_shorter f from gs hs other (λ k lt. is.each k lt) in
    same_list hs gs (omega arith) (λ k lt. sym (is.each k lt) ∙ other.each k (omega arith))

pub is_front_same : (f g : ℕ → Option Standing) → ((n : ℕ) → f n ≡ g n) → (from : ℕ) (hs : List Standing) → IsFront g from hs → IsFront f from hs
is_front_same f g same from hs is = record { each = λ k lt. same (from + k) ∙ is.each k lt; ends = same (from + length hs) ∙ is.ends }

-- the least number that has nothing

some_within : (hs : List Standing) (k : ℕ) (o : Option Standing) → k < length hs → o ≡ slice_get hs k → IsSome o
some_within [] k o lt e = absurd (omega arith)
some_within (h ∷ hs) zero o lt e = subst IsSome (sym e) refl
some_within (h ∷ hs) (suc k) o lt e = some_within hs k o (omega arith) e

-- the front ends there
pub front_next : (f : ℕ → Option Standing) (from : ℕ) (hs : List Standing) → IsFront f from hs → IsNext f from (from + length hs)
front_next f from hs is = record {
  above = omega arith;
  below = λ k le lt.
      let place : from + (k - from) ≡ k = omega arith in
      some_within hs (k - from) (f k) (omega arith) (ap f (sym place) ∙ is.each (k - from) (omega arith));
  lacks = is.ends;
}

not_before : (f : ℕ → Option Standing) (from n m : ℕ) → IsNext f from n → IsNext f from m → m ≤ n
not_before f from n m is other = go (cases_lt n m)
  where
    go : (n < m) ⊎ (m ≤ n) → m ≤ n
    go (inl lt) = let some = other.below n is.above lt in let none = is.lacks in absurd cc
    go (inr le) = le

pub next_unique : (f : ℕ → Option Standing) (from n m : ℕ) → IsNext f from n → IsNext f from m → n ≡ m
next_unique f from n m is other =
    let low = not_before f from n m is other in
    let high = not_before f from m n other is in
    omega arith

-- there are no more numbers that have something than there are requests

-- how many of the k numbers from n on have something
abbrev one : Option Standing → ℕ
one None = 0
one (Some h) = 1

abbrev count : (ℕ → Option Standing) → ℕ → ℕ → ℕ
count f n zero = 0
count f n (suc k) = one (f (n + k)) + count f n k

one_some : (hs : List Standing) (k : ℕ) → k < length hs → one (slice_get hs k) ≡ 1
one_some [] k lt = absurd (omega arith)
one_some (h ∷ hs) zero lt = refl
one_some (h ∷ hs) (suc k) lt = one_some hs k (omega arith)

-- numbers that all have something are counted
count_all : (f : ℕ → Option Standing) (hs : List Standing) (n k : ℕ) → k ≤ length hs → ((j : ℕ) → j < length hs → f (n + j) ≡ slice_get hs j) → count f n k ≡ k
count_all f hs n zero le each = refl
count_all f hs n (suc k) le each =
    let ih = count_all f hs n k (omega arith) each in
    let here = one_some hs k (omega arith) in
    let at : one (f (n + k)) ≡ 1 = ap one (each k (omega arith)) ∙ here in
    omega arith

one_or : (a b : Option Standing) → one (option_or a b) ≤ one a + one b
one_or None b = omega arith
one_or (Some a) b = omega arith

count_or : (f g : ℕ → Option Standing) (n k : ℕ) → count (λ m. option_or (f m) (g m)) n k ≤ count f n k + count g n k
count_or f g n zero = omega arith
count_or f g n (suc k) = omega (arith, count_or f g n k, one_or (f (n + k)) (g (n + k)))

one_other : (x : Placement) (s : List ℕ) (m : ℕ) → m ≢ x.number → one (placed_at x s m) ≡ 0
one_other x s m other = let e : nat_eq x.number m ≡ false = grind (arith, nat_tests) in rw e (elim (bytes_eq x.series s) as (λ b. one (cond (b && false) (Some x.standing) None) ≡ 0) [ true ↦ refl | false ↦ refl ])

count_below : (x : Placement) (s : List ℕ) (n k : ℕ) → n + k ≤ x.number → count (placed_at x s) n k ≡ 0
count_below x s n zero le = refl
count_below x s n (suc k) le = let ih = count_below x s n k (omega arith) in let at = one_other x s (n + k) (omega arith) in omega arith

one_most : (o : Option Standing) → one o ≤ 1
one_most None = omega arith
one_most (Some h) = omega arith

count_one_step : (x : Placement) (s : List ℕ) (n k : ℕ) → count (placed_at x s) n k ≤ 1 → (x.number ≡ n + k) ⊎ (x.number ≡ n + k → ⊥) → count (placed_at x s) n (suc k) ≤ 1
count_one_step x s n k ih (inl here) = let below = count_below x s n k (omega arith) in omega (arith, one_most (placed_at x s (n + k)))
count_one_step x s n k ih (inr other) = let none = one_other x s (n + k) (λ e. other (sym e)) in omega arith

count_one : (x : Placement) (s : List ℕ) (n k : ℕ) → count (placed_at x s) n k ≤ 1
count_one x s n zero = omega arith
count_one x s n (suc k) = count_one_step x s n k (count_one x s n k) (cases_eq x.number (n + k))

count_none : (n k : ℕ) → count (λ m. None) n k ≡ 0
count_none n zero = refl
count_none n (suc k) = let ih = count_none n k in omega arith

count_put : (p : Option Placement) (s : List ℕ) (n k : ℕ) → count (put_at p s) n k ≤ 1
count_put None s n k = let e = count_none n k in omega arith
count_put (Some x) s n k = count_one x s n k

count_first : (L : List Request) (s : List ℕ) (n k : ℕ) → count (first_at L s) n k ≤ length L
count_first [] s n k = let e = count_none n k in omega arith
count_first (r ∷ L) s n k = omega (arith, count_or (first_at L s) (put_at (admitted (agreements_of L) r) s) n k, count_first L s n k, count_put (admitted (agreements_of L) r) s n k)

-- so the run ends
front_lacks : (L : List Request) (s : List ℕ) (from : ℕ) (hs : List Standing) → ((k : ℕ) → k < length hs → first_at L s (from + k) ≡ slice_get hs k) → length hs ≡ length L → (o : Option Standing) → first_at L s (from + length hs) ≡ o → o ≡ None
front_lacks L s from hs each full None e = refl
front_lacks L s from hs each full (Some h) e =
    let all = count_all (first_at L s) hs from (length hs) (omega arith) each in
    let at : one (first_at L s (from + length hs)) ≡ 1 = ap one e in
    let most = count_first L s from (suc (length hs)) in
    absurd (omega arith)

-- the bound is never met: what stands without a gap ends where nothing stands
pub front_is : (L : List Request) (s : List ℕ) (from : ℕ) → IsFront (first_at L s) from (without_gap (length L) (first_at L s) from)
front_is L s from = record {
  each = λ k lt. without_gap_each (length L) (first_at L s) from k lt;
  ends = ended (cases_lt (length (without_gap (length L) (first_at L s) from)) (length L));
}
  where
    ended : (length (without_gap (length L) (first_at L s) from) < length L) ⊎ (length L ≤ length (without_gap (length L) (first_at L s) from)) → first_at L s (from + length (without_gap (length L) (first_at L s) from)) ≡ None
    ended (inl lt) = without_gap_ends (length L) (first_at L s) from lt
    ended (inr le) =
        let most = without_gap_length (length L) (first_at L s) from in
        front_lacks L s from (without_gap (length L) (first_at L s) from) (λ k lt. without_gap_each (length L) (first_at L s) from k lt) (omega arith) (first_at L s (from + length (without_gap (length L) (first_at L s) from))) refl

-- lists that come to the same have the same front
pub front_same : (L M : List Request) (a : Agreement) → SameContent L M → front_of L a ≡ front_of M a
front_same L M a same =
    front_unique (first_at L a.name) a.first (front_of L a) (front_of M a) (front_is L a.name a.first)
    (is_front_same (first_at L a.name) (first_at M a.name) (same.firsts a.name) a.first (front_of M a) (front_is M a.name a.first))
