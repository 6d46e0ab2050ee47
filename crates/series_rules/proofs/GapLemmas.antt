-- Lemmas on gaps: the greatest number that has something, the numbers that are held, that none below the agreed first has something, and reports on the same numbers.
use Rattle.std.proofs.Common.{◌≡◌, ◌+◌, ◌<◌, ◌≤◌, ℕ, zero, suc, Bool, true, false, List, [], ◌∷◌, Option, Some, None, IsSome, refl, sym, ap, ◌∙◌, subst, arith, cond, ◌&&◌, nat_eq, max, length, ◌⊎◌, inl, inr}
use Rattle.std.specs.Prelude.{bytes_eq, filter, is_none, is_some, nat_lt}
use Rattle.std.specs.Option.{option_or}
use Rattle.std.specs.List.{Contains, range_with_len}
use Rattle.std.proofs.lemmas.List.Elements.{All-head, All-tail}
use Rattle.std.proofs.lemmas.Bool.Decides.{nat_tests}
use Rattle.std.proofs.lemmas.Slice.Eq.{bytes_eq-Decides}
use Rattle.onix_records.specs.Message.{message_of}
use Rattle.onix_records.specs.declared.parts.Header.{Header}
use Rattle.onix_records.specs.declared.parts.Product.{Product}
use Rattle.onix_records.specs.declared.agreements.Agreement.{Agreement}
use Rattle.series_rules.specs.Agreements.{AreDistinct, agreements_of, between, named}
use Rattle.series_rules.specs.Firsts.{first_at, put_at, admitted, admitted_at, admitted_message, admitted_number}
use Rattle.series_rules.specs.Series.{next_of}
use Rattle.series_rules.specs.Content.{SameContent}
use Rattle.series_rules.specs.Gaps.{number_in, greater_of, greatest_of, AreHeldFrom, AreRisingFrom, IsGreatest, NoneBelow, lacking, having, ranges_of, numbers_up_to, report_by, gaps_of}
use Rattle.series_rules.specs.declared.requests.Request.{Request}
use Rattle.series_rules.specs.declared.requests.Request.TheVariants.{Deliver, Waive}
use Rattle.series_rules.specs.Firsts.{Placement}
use Rattle.series_rules.specs.declared.requests.Standing.{Standing}
use Rattle.series_rules.specs.declared.requests.Standing.TheVariants.{Message, Waived}
use Rattle.series_rules.proofs.AgreementLemmas.{agreements_are_distinct, named_has_name, named_stays}
use Rattle.series_rules.proofs.FrontLemmas.{front_same}

-- the greatest of one more number

some_or : (o : Option Standing) (h : Standing) → IsSome (option_or o (Some h))
some_or None h = refl
some_or (Some g) h = refl

pub greatest_same : (f g : ℕ → Option Standing) → ((n : ℕ) → g n ≡ f n) → (o : Option ℕ) → IsGreatest f o → IsGreatest g o
greatest_same f g same None is = λ n. same n ∙ is n
greatest_same f g same (Some m) is = (subst IsSome (sym (same m)) is.0, λ n lt. same n ∙ is.1 n lt)

-- h at the number m, where nothing stood
abbrev with_one : (ℕ → Option Standing) → ℕ → Standing → ℕ → Option Standing
with_one f m h n = option_or (f n) (cond (nat_eq m n) (Some h) None)

one_there : (f : ℕ → Option Standing) (m : ℕ) (h : Standing) → IsSome (with_one f m h m)
one_there f m h = let same : nat_eq m m ≡ true = grind (arith, nat_tests) in subst IsSome (sym (ap (λ b. option_or (f m) (cond b (Some h) None)) same)) (some_or (f m) h)

one_above : (f : ℕ → Option Standing) (m : ℕ) (h : Standing) (n : ℕ) → m < n → f n ≡ None → with_one f m h n ≡ None
one_above f m h n lt none = let apart : nat_eq m n ≡ false = grind (arith, nat_tests) in ap (λ b. option_or (f n) (cond b (Some h) None)) apart ∙ ap (λ o. option_or o None) none

some_stays : (o p : Option Standing) → IsSome o → IsSome (option_or o p)
some_stays None p s = absurd cc
some_stays (Some h) p s = refl

greatest_more : (f : ℕ → Option Standing) (m : ℕ) (h : Standing) (o : Option ℕ) → IsGreatest f o → IsGreatest (with_one f m h) (greater_of o (Some m))
greatest_more f m h None is = (one_there f m h, λ n lt. one_above f m h n lt (is n))
greatest_more f m h (Some g) is = go (nat_lt g m) refl
  where
    go : (b : Bool) → nat_lt g m ≡ b → IsGreatest (with_one f m h) (Some (max g m))
    go true e =
        let same : max g m ≡ m = omega (arith, let lt : g < m = grind (arith, nat_tests) in lt) in
        rw same (one_there f m h, λ n lt. one_above f m h n lt (is.1 n (omega (arith, let low : g < m = grind (arith, nat_tests) in low))))
    go false e =
        let same : max g m ≡ g = omega (arith, let le : m ≤ g = grind (arith, nat_tests) in le) in
        rw same (some_stays (f g) (cond (nat_eq m g) (Some h) None) is.0, λ n lt. one_above f m h n (omega (arith, let le : m ≤ g = grind (arith, nat_tests) in le)) (is.1 n lt))

or_none : (o : Option Standing) → option_or o None ≡ o
or_none None = refl
or_none (Some h) = refl

no_greater : (o : Option ℕ) → greater_of o None ≡ o
no_greater None = refl
no_greater (Some m) = refl

greatest_put : (f : ℕ → Option Standing) (p : Option Placement) (s : List ℕ) (o : Option ℕ) → IsGreatest f o → IsGreatest (λ n. option_or (f n) (put_at p s n)) (greater_of o (number_in p s))
greatest_put f None s o is = rw (no_greater o) (greatest_same f (λ n. option_or (f n) None) (λ n. or_none (f n)) o is)
greatest_put f (Some x) s o is = go (bytes_eq x.series s)
  where
    go : (b : Bool) → IsGreatest (λ n. option_or (f n) (cond (b && nat_eq x.number n) (Some x.standing) None)) (greater_of o (cond b (Some x.number) None))
    go true = greatest_more f x.number x.standing o is
    go false = rw (no_greater o) (greatest_same f (λ n. option_or (f n) None) (λ n. or_none (f n)) o is)

-- the definition gives the greatest number that has something
pub greatest_is : (L : List Request) (s : List ℕ) → IsGreatest (first_at L s) (greatest_of L s)
greatest_is [] s = λ n. refl
greatest_is (r ∷ L) s = greatest_put (first_at L s) (admitted (agreements_of L) r) s (greatest_of L s) (greatest_is L s)

-- and there is one only
pub greatest_unique : (f : ℕ → Option Standing) (o p : Option ℕ) → IsGreatest f o → IsGreatest f p → o ≡ p
greatest_unique f None None is other = refl
greatest_unique f None (Some m) is other = let none = is m in let some = other.0 in absurd cc
greatest_unique f (Some g) None is other = let none = other g in let some = is.0 in absurd cc
greatest_unique f (Some g) (Some m) is other = ap Some (go (nat_lt g m) refl (nat_lt m g) refl)
  where
    go : (b : Bool) → nat_lt g m ≡ b → (c : Bool) → nat_lt m g ≡ c → g ≡ m
    go true e c e' = let none = is.1 m (grind (arith, nat_tests)) in let some = other.0 in absurd cc
    go false e true e' = let none = other.1 g (grind (arith, nat_tests)) in let some = is.0 in absurd cc
    go false e false e' = grind (arith, nat_tests)

-- the numbers that are held

contains_cases : (n : ℕ) (ns : List ℕ) (k : ℕ) → Contains (n ∷ ns) k → (k ≡ n) ⊎ Contains ns k
contains_cases n ns k (zero, lt, e) = inl (sym e)
contains_cases n ns k (suc i, lt, e) = inr (i, omega arith, e)

rising_above : (ns : List ℕ) (from k : ℕ) → AreRisingFrom from ns → Contains ns k → from ≤ k
rising_above [] from k rises h = let lt = h.1 in absurd (omega arith)
rising_above (n ∷ ns) from k rises h = go (λ is. rising_above ns (n + 1) k rises.1 is) (contains_cases n ns k h)
  where
    go : (Contains ns k → n + 1 ≤ k) → (k ≡ n) ⊎ Contains ns k → from ≤ k
    go rest (inl e) = let low : from ≤ n = rises.0 in omega arith
    go rest (inr is) = let low : from ≤ n = rises.0 in let above = rest is in omega arith

none_unless : (o : Option Standing) → (IsSome o → ⊥) → o ≡ None
none_unless None not = refl
none_unless (Some h) not = absurd (not refl)

-- where none is held, nothing stands
pub held_none : (f : ℕ → Option Standing) (from : ℕ) → AreHeldFrom f from [] → (k : ℕ) → from ≤ k → f k ≡ None
held_none f from held k le = none_unless (f k) (λ some. let lt = (held.all_held k le some).1 in absurd (omega arith))

-- the first of them has something
pub held_first : (f : ℕ → Option Standing) (from n : ℕ) (ns : List ℕ) → AreHeldFrom f from (n ∷ ns) → IsSome (f n)
held_first f from n ns held = All-head (λ k. IsSome (f k)) n ns held.only_held

-- nothing stands before it
pub held_gap : (f : ℕ → Option Standing) (from n : ℕ) (ns : List ℕ) → AreHeldFrom f from (n ∷ ns) → (k : ℕ) → from ≤ k → k < n → f k ≡ None
held_gap f from n ns held k le lt = none_unless (f k) (λ some. go (contains_cases n ns k (held.all_held k le some)))
  where
    go : (k ≡ n) ⊎ Contains ns k → ⊥
    go (inl e) = absurd (omega arith)
    go (inr h) = let above = rising_above ns (n + 1) k held.in_order.1 h in absurd (omega arith)

-- the others are those after it
pub held_rest : (f : ℕ → Option Standing) (from n : ℕ) (ns : List ℕ) → AreHeldFrom f from (n ∷ ns) → AreHeldFrom f (n + 1) ns
held_rest f from n ns held = record {
  in_order = held.in_order.1;
  all_held = λ k le some. let low : from ≤ n = held.in_order.0 in go k le (contains_cases n ns k (held.all_held k (omega arith) some));
  only_held = All-tail (λ k. IsSome (f k)) n ns held.only_held;
}
  where
    go : (k : ℕ) → n + 1 ≤ k → (k ≡ n) ⊎ Contains ns k → Contains ns k
    go k le (inl e) = absurd (omega arith)
    go k le (inr h) = h

-- below the agreed first number

-- the number is below the first of the agreement, where there is one
abbrev IsBefore : ℕ → Option Agreement → Type 0
IsBefore n None = Unit {0}
IsBefore n (Some a) = n < a.first

placed_not : (as' : List Agreement) (a : Agreement) (k : ℕ) (h : Standing) (s : List ℕ) (n : ℕ) → named as' a.name ≡ Some a → a.first ≤ k → IsBefore n (named as' s) → (b : Bool) → bytes_eq a.name s ≡ b → (c : Bool) → nat_eq k n ≡ c → cond (b && c) (Some h) None ≡ None
placed_not as' a k h s n own le before true e true t =
    let here : named as' s ≡ Some a = ap (named as') (sym ((bytes_eq-Decides a.name s).0 e)) ∙ own in
    let lt : n < a.first = subst (IsBefore n) here before in
    absurd (grind (arith, nat_tests))
placed_not as' a k h s n own le before true e false t = refl
placed_not as' a k h s n own le before false e c t = refl

admitted_not : (as' : List Agreement) (o : Option Agreement) → ((a : Agreement) → o ≡ Some a → named as' a.name ≡ Some a) → (k : ℕ) (h : Standing) (s : List ℕ) (n : ℕ) → IsBefore n (named as' s) → put_at (admitted_at o k h) s n ≡ None
admitted_not as' None own k h s n before = refl
admitted_not as' (Some a) own k h s n before = go (nat_lt k a.first) refl
  where
    go : (b : Bool) → nat_lt k a.first ≡ b → put_at (cond b None (Some (record { series = a.name; number = k; standing = h }))) s n ≡ None
    go true e = refl
    go false e = placed_not as' a k h s n (own a refl) (grind (arith, nat_tests)) before (bytes_eq a.name s) refl (nat_eq k n) refl

numbered_not : (as' : List Agreement) (o : Option Agreement) → ((a : Agreement) → o ≡ Some a → named as' a.name ≡ Some a) → (k : Option ℕ) (h : Standing) (s : List ℕ) (n : ℕ) → IsBefore n (named as' s) → put_at (admitted_number o k h) s n ≡ None
numbered_not as' o own None h s n before = refl
numbered_not as' o own (Some k) h s n before = admitted_not as' o own k h s n before

message_not : (as' : List Agreement) → AreDistinct as' → (m : Option (Header × List Product)) (s : List ℕ) (n : ℕ) → IsBefore n (named as' s) → put_at (admitted_message as' m) s n ≡ None
message_not as' distinct None s n before = refl
message_not as' distinct (Some m) s n before =
    numbered_not as' (between as' m.0.sender m.0.addressee) (λ a e. distinct.by_parties m.0.sender m.0.addressee a e) m.0.number (Message m.1) s n before

request_not : (as' : List Agreement) → AreDistinct as' → (r : Request) (s : List ℕ) (n : ℕ) → IsBefore n (named as' s) → put_at (admitted as' r) s n ≡ None
request_not as' distinct (Deliver records) s n before = message_not as' distinct (message_of records) s n before
request_not as' distinct (Waive series k) s n before = admitted_not as' (named as' series) (λ a e. ap (named as') (named_has_name as' series a e) ∙ e) k Waived s n before
request_not as' distinct _ s n before = refl

was_before : (L : List Request) (r : Request) (s : List ℕ) (n : ℕ) → IsBefore n (named (agreements_of (r ∷ L)) s) → IsBefore n (named (agreements_of L) s)
was_before L r s n before = go (named (agreements_of L) s) refl
  where
    go : (o : Option Agreement) → named (agreements_of L) s ≡ o → IsBefore n o
    go None e = tt
    go (Some a) e = subst (IsBefore n) (named_stays L r s a e) before

none_before : (L : List Request) (s : List ℕ) (n : ℕ) → IsBefore n (named (agreements_of L) s) → first_at L s n ≡ None
none_before [] s n before = refl
none_before (r ∷ L) s n before =
    let was = was_before L r s n before in
    ap (λ o. option_or o (put_at (admitted (agreements_of L) r) s n)) (none_before L s n was) ∙ request_not (agreements_of L) (agreements_are_distinct L) r s n was

-- nothing stands there in an agreed series
pub none_below_first : (L : List Request) (a : Agreement) → named (agreements_of L) a.name ≡ Some a → NoneBelow (first_at L a.name) a.first
none_below_first L a agreed = λ n lt. none_before L a.name n (subst (IsBefore n) (sym agreed) lt)

-- reports on the same numbers

filter_same : (p q : ℕ → Bool) → ((n : ℕ) → p n ≡ q n) → (len from : ℕ) → filter p (range_with_len from len) ≡ filter q (range_with_len from len)
filter_same p q same zero from = refl
filter_same p q same (suc len) from = ap (λ b. cond b (from ∷ filter p (range_with_len (from + 1) len)) (filter p (range_with_len (from + 1) len))) (same from) ∙ ap (λ ns. cond (q from) (from ∷ ns) ns) (filter_same p q same len (from + 1))

lacking_same : (f g : ℕ → Option Standing) → ((n : ℕ) → f n ≡ g n) → (from len : ℕ) → lacking f from len ≡ lacking g from len
lacking_same f g same from len = filter_same (λ n. is_none (f n)) (λ n. is_none (g n)) (λ n. ap is_none (same n)) len from

having_same : (f g : ℕ → Option Standing) → ((n : ℕ) → f n ≡ g n) → (from len : ℕ) → having f from len ≡ having g from len
having_same f g same from len = ap length (filter_same (λ n. is_some (f n)) (λ n. is_some (g n)) (λ n. ap is_some (same n)) len from)

pub report_by_same : (series : List ℕ) (f g : ℕ → Option Standing) → ((n : ℕ) → f n ≡ g n) → (from after : ℕ) (o : Option ℕ) → report_by series f from after o ≡ report_by series g from after o
report_by_same series f g same from after o =
    ap (λ k. record { series = series; first = from; next = after; greatest = o; held = k; missing = ranges_of (lacking f from (numbers_up_to from o)) }) (having_same f g same after (numbers_up_to after o))
    ∙ ap (λ ns. record { series = series; first = from; next = after; greatest = o; held = having g after (numbers_up_to after o); missing = ranges_of ns }) (lacking_same f g same from (numbers_up_to from o))

pub report_same : (L M : List Request) → SameContent L M → (a : Agreement) → gaps_of L a ≡ gaps_of M a
report_same L M same a =
    let fs = same.firsts a.name in
    let greatest : greatest_of L a.name ≡ greatest_of M a.name =
    greatest_unique (first_at M a.name) (greatest_of L a.name) (greatest_of M a.name) (greatest_same (first_at L a.name) (first_at M a.name) (λ n. sym (fs n)) (greatest_of L a.name) (greatest_is L a.name)) (greatest_is M a.name) in
    report_by_same a.name (first_at L a.name) (first_at M a.name) fs a.first (next_of L a) (greatest_of L a.name)
    ∙ ap (λ hs. report_by a.name (first_at M a.name) a.first (a.first + length hs) (greatest_of L a.name)) (front_same L M a same)
    ∙ ap (report_by a.name (first_at M a.name) a.first (next_of M a)) greatest
