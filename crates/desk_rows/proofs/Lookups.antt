-- Look-ups by key after a change.
use Rattle.std.proofs.Common.{◌≡◌, ℕ, Bool, true, false, ◌&&◌, not, List, [], ◌∷◌, Option, Some, None, map, filter, refl, sym, ap, ◌∙◌, arith, nat_eq, cond, ◌⊎◌, inl, inr}
use Rattle.std.specs.Prelude.{find, option_map, bytes_eq}
use Rattle.std.specs.Option.{option_or}
use Rattle.std.proofs.lemmas.List.Folds.{find-append}
use Rattle.std.proofs.lemmas.Slice.Eq.{bytes_eq-Decides}
use Rattle.std.proofs.lemmas.Bool.Decides.{nat_tests}
use Rattle.desk_tables.specs.Rows.{DeskRows, HeldRow, AppliedRow, applied_part, has_parties, is_named, is_held, is_applied, series_at, series_between, held_at, applied_at, next_set, with_held, without_held, with_applied, with_next}
use Rattle.onix_records.specs.declared.effects.Effect.{Effect}
use Rattle.desk_tables.specs.declared.series.SeriesRow.{SeriesRow}
use Rattle.onix_records.specs.declared.agreements.Agreement.{Agreement}
use Rattle.onix_terms.specs.declared.party.Party.{Party}
use Rattle.desk_rows.specs.Stands.{series_of}

-- ---- a search

pub find_gone : {A : Type 0} (p : A → Bool) (xs : List A) → find p (filter (λ x. not (p x)) xs) ≡ None
find_gone p [] = refl
find_gone {A = A} p (x ∷ xs) = go (p x) refl (find_gone p xs)
  where
    go : (b : Bool) → p x ≡ b → find p (filter (λ y. not (p y)) xs) ≡ None → find p (cond (not b) (x ∷ filter (λ y. not (p y)) xs) (filter (λ y. not (p y)) xs)) ≡ None
    go true e ih = ih
    go false e ih = rw e ih

pub find_kept : {A : Type 0} (p q : A → Bool) → ((x : A) → p x ≡ true → q x ≡ false) → (xs : List A) → find p (filter (λ x. not (q x)) xs) ≡ find p xs
find_kept p q apart [] = refl
find_kept p q apart (x ∷ xs) = go (q x) refl (p x) refl (find_kept p q apart xs)
  where
    go : (b : Bool) → q x ≡ b → (c : Bool) → p x ≡ c → find p (filter (λ y. not (q y)) xs) ≡ find p xs → find p (cond (not b) (x ∷ filter (λ y. not (q y)) xs) (filter (λ y. not (q y)) xs)) ≡ cond c (Some x) (find p xs)
    go true e true i ih = absurd (let o : q x ≡ false = apart x i in cc)
    go true e false i ih = ih
    go false e true i ih = rw i refl
    go false e false i ih = rw i ih

find_map : {A : Type 0} (p : A → Bool) (g : A → A) → ((x : A) → p (g x) ≡ p x) → (xs : List A) → find p (map g xs) ≡ option_map g (find p xs)
find_map p g same [] = refl
find_map p g same (x ∷ xs) = rw (same x) (go (p x) (find_map p g same xs))
  where
    go : (b : Bool) → find p (map g xs) ≡ option_map g (find p xs) → cond b (Some (g x)) (find p (map g xs)) ≡ option_map g (cond b (Some x) (find p xs))
    go true ih = refl
    go false ih = ih

or_none : {A : Type 0} (o : Option A) → option_or o None ≡ o
or_none None = refl
or_none (Some a) = refl

-- ---- keys

pub same_bytes : (xs : List ℕ) → bytes_eq xs xs ≡ true
same_bytes [] = refl
same_bytes (x ∷ xs) = let ih = same_bytes xs in grind (arith, nat_tests)

same_number : (n : ℕ) → nat_eq n n ≡ true
same_number n = grind (arith, nat_tests)

pub same_key : (s : List ℕ) (n : ℕ) → (bytes_eq s s && nat_eq n n) ≡ true
same_key s n = rw (same_bytes s) (same_number n)

other_number : (n m : ℕ) → ¬ (n ≡ m) → (b : Bool) → (b && nat_eq n m) ≡ false
other_number n m other true = grind (arith, nat_tests)
other_number n m other false = refl

pub other_bytes : (s t : List ℕ) → ¬ (s ≡ t) → bytes_eq s t ≡ false
other_bytes s t other = go (bytes_eq s t) refl
  where
    go : (b : Bool) → bytes_eq s t ≡ b → b ≡ false
    go true e = absurd (other ((bytes_eq-Decides s t).0 e))
    go false e = refl

-- two keys of which one row has only one
abbrev pub AreApart : List ℕ → ℕ → List ℕ → ℕ → Type 0
AreApart t m s n = (¬ (t ≡ s)) ⊎ (¬ (m ≡ n))

apart_test : (x s t : List ℕ) (k n m : ℕ) → AreApart t m s n → (bytes_eq x t && nat_eq k m) ≡ true → (bytes_eq x s && nat_eq k n) ≡ false
apart_test x s t k n m other is = go (bytes_eq x t) refl (bytes_eq x s) refl (nat_eq k m) refl other (is_both (bytes_eq x t) (nat_eq k m) is)
  where
    is_both : (b c : Bool) → (b && c) ≡ true → (b ≡ true) × (c ≡ true)
    is_both true true e = (refl, refl)
    is_both true false e = absurd cc
    is_both false c e = absurd cc

    go : (b : Bool) → bytes_eq x t ≡ b → (d : Bool) → bytes_eq x s ≡ d → (c : Bool) → nat_eq k m ≡ c → AreApart t m s n → (b ≡ true) × (c ≡ true) → (d && nat_eq k n) ≡ false
    go b eb false ed c ec o is = refl
    go b eb true ed c ec (inl o) is = absurd (o (sym ((bytes_eq-Decides x t).0 (eb ∙ is.0)) ∙ (bytes_eq-Decides x s).0 ed))
    go b eb true ed c ec (inr o) is = let e : nat_eq k m ≡ true = ec ∙ is.1 in grind (arith, nat_tests)

pub key_apart : (s t : List ℕ) (n m : ℕ) → AreApart t m s n → (bytes_eq s t && nat_eq n m) ≡ false
key_apart s t n m (inl o) = rw (other_bytes s t (λ e. o (sym e))) refl
key_apart s t n m (inr o) = other_number n m (λ e. o (sym e)) (bytes_eq s t)

-- ---- held

pub held_taken : (s : List ℕ) (n : ℕ) (rows : DeskRows) → held_at s n (without_held s n rows) ≡ None
held_taken s n rows = ap (option_map (λ (r : HeldRow). r.contents)) (find_gone (is_held s n) rows.held)

pub held_left : (s t : List ℕ) (n m : ℕ) (rows : DeskRows) → AreApart t m s n → held_at t m (without_held s n rows) ≡ held_at t m rows
held_left s t n m rows other = ap (option_map (λ (r : HeldRow). r.contents)) (find_kept (is_held t m) (is_held s n) (λ r. apart_test r.series s t r.number n m other) rows.held)

pub held_put : (s : List ℕ) (n : ℕ) (c : List ℕ) (rows : DeskRows) → held_at s n rows ≡ None → held_at s n (with_held (record { series = s; number = n; contents = c }) rows) ≡ Some c
held_put s n c rows none = ap (option_map (λ (r : HeldRow). r.contents)) (find-append (is_held s n) rows.held _) ∙ go (find (is_held s n) rows.held) none
  where
    go : (o : Option HeldRow) → option_map (λ (r : HeldRow). r.contents) o ≡ None → option_map (λ (r : HeldRow). r.contents) (option_or o (find (is_held s n) (record { series = s; number = n; contents = c } ∷ []))) ≡ Some c
    go None e = rw (same_key s n) refl
    go (Some r) e = absurd cc

pub held_other : (s t : List ℕ) (n m : ℕ) (c : List ℕ) (rows : DeskRows) → AreApart t m s n → held_at t m (with_held (record { series = s; number = n; contents = c }) rows) ≡ held_at t m rows
held_other s t n m c rows other = ap (option_map (λ (r : HeldRow). r.contents)) (find-append (is_held t m) rows.held _ ∙ rw (key_apart s t n m other) (or_none (find (is_held t m) rows.held)))

-- ---- applied

pub applied_put : (s : List ℕ) (n : ℕ) (c : List ℕ) (e : Effect) (rows : DeskRows) → applied_at s n rows ≡ None → applied_at s n (with_applied (record { series = s; number = n; contents = c; effect = e }) rows) ≡ Some (c, e)
applied_put s n c e rows none = ap (option_map applied_part) (find-append (is_applied s n) rows.applied _) ∙ go (find (is_applied s n) rows.applied) none
  where
    go : (o : Option AppliedRow) → option_map applied_part o ≡ None → option_map applied_part (option_or o (find (is_applied s n) (record { series = s; number = n; contents = c; effect = e } ∷ []))) ≡ Some (c, e)
    go None i = rw (same_key s n) refl
    go (Some r) i = absurd cc

pub applied_other : (s t : List ℕ) (n m : ℕ) (c : List ℕ) (e : Effect) (rows : DeskRows) → AreApart t m s n → applied_at t m (with_applied (record { series = s; number = n; contents = c; effect = e }) rows) ≡ applied_at t m rows
applied_other s t n m c e rows other = ap (option_map applied_part) (find-append (is_applied t m) rows.applied _ ∙ rw (key_apart s t n m other) (or_none (find (is_applied t m) rows.applied)))

-- ---- series

name_stays : (t s : List ℕ) (n : ℕ) (r : SeriesRow) → is_named t (next_set s n r) ≡ is_named t r
name_stays t s n r = elim (bytes_eq r.agreement.name s) as (λ b. is_named t (cond b (record r { next = n }) r) ≡ is_named t r) [ true ↦ refl | false ↦ refl ]

pub series_set : (a : Agreement) (k n : ℕ) (rows : DeskRows) → series_at a.name rows ≡ Some (record { agreement = a; next = k }) → series_at a.name (with_next a.name n rows) ≡ Some (record { agreement = a; next = n })
series_set a k n rows was = find_map (is_named a.name) (next_set a.name n) (name_stays a.name a.name n) rows.series ∙ ap (option_map (next_set a.name n)) was ∙ rw (same_bytes a.name) refl

pub find_is : {A : Type 0} (p : A → Bool) (xs : List A) (x : A) → find p xs ≡ Some x → p x ≡ true
find_is p [] x e = absurd cc
find_is p (y ∷ xs) x e = go (p y) refl e (find_is p xs x)
  where
    go : (b : Bool) → p y ≡ b → cond b (Some y) (find p xs) ≡ Some x → (find p xs ≡ Some x → p x ≡ true) → p x ≡ true
    go true i e ih = let same : y ≡ x = cc in ap p (sym same) ∙ i
    go false i e ih = ih e

pub series_other : (s t : List ℕ) (n : ℕ) (rows : DeskRows) → ¬ (t ≡ s) → series_at t (with_next s n rows) ≡ series_at t rows
series_other s t n rows other = find_map (is_named t) (next_set s n) (name_stays t s n) rows.series ∙ go (series_at t rows) refl
  where
    set_other : (r : SeriesRow) → is_named t r ≡ true → next_set s n r ≡ r
    set_other r is = let e : r.agreement.name ≡ t = (bytes_eq-Decides r.agreement.name t).0 is in rw (other_bytes r.agreement.name s (λ i. other (sym e ∙ i))) refl

    go : (o : Option SeriesRow) → series_at t rows ≡ o → option_map (next_set s n) o ≡ o
    go None e = refl
    go (Some r) e = ap Some (set_other r (find_is (is_named t) rows.series r e))

filter_none : {A : Type 0} (p : A → Bool) (xs : List A) → find p xs ≡ None → filter (λ x. not (p x)) xs ≡ xs
filter_none p [] e = refl
filter_none {A = A} p (x ∷ xs) e = go (p x) refl e (filter_none p xs)
  where
    go : (b : Bool) → p x ≡ b → cond b (Some x) (find p xs) ≡ None → (find p xs ≡ None → filter (λ y. not (p y)) xs ≡ xs) → cond (not b) (x ∷ filter (λ y. not (p y)) xs) (filter (λ y. not (p y)) xs) ≡ x ∷ xs
    go true i n ih = absurd cc
    go false i n ih = ap (λ ys. x ∷ ys) (ih n)

-- taking out what is not held changes nothing
pub held_same : (s : List ℕ) (n : ℕ) (rows : DeskRows) → held_at s n rows ≡ None → without_held s n rows ≡ rows
held_same s n rows none = ap (λ xs. record rows { held = xs }) (filter_none (is_held s n) rows.held (go (find (is_held s n) rows.held) none))
  where
    go : (o : Option HeldRow) → option_map (λ (r : HeldRow). r.contents) o ≡ None → o ≡ None
    go None e = refl
    go (Some r) e = absurd cc

-- the rows of two agreements and of a name are found alike with another next number
parties_stay : (p : Party) (q : Option Party) (s : List ℕ) (n : ℕ) (r : SeriesRow) → has_parties p q (next_set s n r) ≡ has_parties p q r
parties_stay p q s n r = elim (bytes_eq r.agreement.name s) as (λ b. has_parties p q (cond b (record r { next = n }) r) ≡ has_parties p q r) [ true ↦ refl | false ↦ refl ]

pub parties_set : (s : List ℕ) (n : ℕ) (rows : DeskRows) (p : Party) (q : Option Party) (o : Option Agreement) → series_between p q rows ≡ series_of o rows → series_between p q (with_next s n rows) ≡ series_of o (with_next s n rows)
parties_set s n rows p q o same = find_map (has_parties p q) (next_set s n) (parties_stay p q s n) rows.series ∙ ap (option_map (next_set s n)) same ∙ go o
  where
    go : (o : Option Agreement) → option_map (next_set s n) (series_of o rows) ≡ series_of o (with_next s n rows)
    go None = refl
    go (Some a) = sym (find_map (is_named a.name) (next_set s n) (name_stays a.name s n) rows.series)

series_of_same : (rows now : DeskRows) → now.series ≡ rows.series → (o : Option Agreement) → series_of o now ≡ series_of o rows
series_of_same rows now e None = refl
series_of_same rows now e (Some a) = ap (find (is_named a.name)) e

pub parties_kept : (rows now : DeskRows) → now.series ≡ rows.series → (p : Party) (q : Option Party) (o : Option Agreement) → series_between p q rows ≡ series_of o rows → series_between p q now ≡ series_of o now
parties_kept rows now e p q o same = ap (find (has_parties p q)) e ∙ same ∙ sym (series_of_same rows now e o)
