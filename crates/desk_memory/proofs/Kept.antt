-- The series that are kept, by their names and places.
use Rattle.std.proofs.Common.{◌≡◌, ◌<◌, ◌≤◌, ℕ, zero, suc, Bool, true, false, List, [], ◌∷◌, ◌++◌, Option, Some, None, length, get_or, refl, sym, ap, ◌∙◌, subst, arith, cond}
use Rattle.std.specs.Prelude.{bytes_eq, find, option_map, position, nat_lt, slice_get, OnErr, Result, Ok, Err}
use Rattle.std.specs.Option.{option_or}
use Rattle.std.specs.List.{position_or_len}
use Rattle.std.proofs.Math.ListN.{set}
use Rattle.std.proofs.lemmas.Bool.Decides.{nat_tests}
use Rattle.std.proofs.lemmas.List.Folds.{find-append, find_at}
use Rattle.std.proofs.lemmas.List.Quantifiers.{position-Some}
use Rattle.std.proofs.lemmas.Slice.Eq.{bytes_eq-Decides}
use Rattle.onix_terms.specs.declared.party.Party.{Party}
use Rattle.onix_records.specs.declared.agreements.Agreement.{Agreement}
use Rattle.series_rules.specs.Agreements.{named, between, has_name, has_parties, AreDistinct}
use Rattle.desk_memory.specs.Stands.{kept_agreements, series_named, number_of_series, standing_of}
use Rattle.desk_memory.specs.KeptSeries.{stands_at}
use Rattle.desk_memory.specs.declared.series.Series.{Series}
use Rattle.series_rules.proofs.AgreementLemmas.{same_bytes}

-- s stands at that place, and is the first that passes
abbrev pub FirstAt : (Series → Bool) → List Series → ℕ → Series → Type 0
FirstAt p [] i s = ⊥
FirstAt p (x ∷ xs) zero s = (p x ≡ true) × (x ≡ s)
FirstAt p (x ∷ xs) (suc i) s = (p x ≡ false) × FirstAt p xs i s

first_by : (p : Series → Bool) (xs : List Series) (i : ℕ) (s : Series) → i < length xs → p (get_or xs i s) ≡ true → ((k : ℕ) → k < i → p (get_or xs k s) ≡ false) → FirstAt p xs i (get_or xs i s)
first_by p [] i s lt here below = absurd (omega arith)
first_by p (x ∷ xs) zero s lt here below = (here, refl)
first_by p (x ∷ xs) (suc i) s lt here below = (below 0 (omega arith), first_by p xs i s (omega arith) here (λ k less. below (suc k) (omega arith)))

pub first_place : (p : Series → Bool) (xs : List Series) (i : ℕ) (s : Series) → position p xs ≡ Some i → s ≡ get_or xs i s → FirstAt p xs i s
first_place p xs i s e at = let found = position-Some p xs i s e in subst (FirstAt p xs i) (sym at) (first_by p xs i s found.0 found.1 found.2)

-- what a search over the kept series, lent as ys, gives
pub first_in : (p : Series → Bool) (xs ys : List Series) (i : ℕ) (s : Series) → ys ≡ xs → Some i ≡ position p ys → s ≡ get_or xs i s → FirstAt p xs i s
first_in p xs ys i s lent e at = first_place p xs i s (ap (position p) (sym lent) ∙ sym e) at

pub first_found : (p : Series → Bool) (xs : List Series) (i : ℕ) (s : Series) → FirstAt p xs i s → find p xs ≡ Some s
first_found p [] i s first = absurd first
first_found p (x ∷ xs) zero s first = rw first.0 (ap Some first.1)
first_found p (x ∷ xs) (suc i) s first = rw first.0 (first_found p xs i s first.1)

slice_get_past : (xs : List Series) (k : ℕ) → length xs ≤ k → slice_get xs k ≡ None
slice_get_past [] k le = refl
slice_get_past (x ∷ xs) zero le = absurd (omega arith)
slice_get_past (x ∷ xs) (suc k) le = slice_get_past xs k (omega arith)

pub none_found : (p : Series → Bool) (xs : List Series) → position p xs ≡ None → find p xs ≡ None
none_found p xs e = find_at p xs ∙ slice_get_past xs (position_or_len p xs) (go (nat_lt (position_or_len p xs) (length xs)) refl e)
  where
    go : (b : Bool) → nat_lt (position_or_len p xs) (length xs) ≡ b → cond b (Some (position_or_len p xs)) None ≡ None → length xs ≤ position_or_len p xs
    go true t e = absurd cc
    go false t e = grind (arith, nat_tests)

pub none_in : (p : Series → Bool) (xs ys : List Series) → ys ≡ xs → None ≡ position p ys → find p xs ≡ None
none_in p xs ys lent e = none_found p xs (ap (position p) (sym lent) ∙ sym e)

-- a look-up among agreements is one among series
pub found_agreement : (t : Agreement → Bool) (kept : List Series) → find t (kept_agreements kept) ≡ option_map (λ s. s.agreement) (find (λ s. t s.agreement) kept)
found_agreement t [] = refl
found_agreement t (x ∷ xs) = elim (t x.agreement) as (λ b. cond b (Some x.agreement) (find t (kept_agreements xs)) ≡ option_map (λ s. s.agreement) (cond b (Some x) (find (λ s. t s.agreement) xs))) [ true ↦ refl | false ↦ found_agreement t xs ]

pub named_kept : (kept : List Series) (name : List ℕ) (o : Option Series) → series_named kept name ≡ o → named (kept_agreements kept) name ≡ option_map (λ s. s.agreement) o
named_kept kept name o e = found_agreement (has_name name) kept ∙ ap (option_map (λ s. s.agreement)) e

pub between_kept : (kept : List Series) (s : Party) (d : Option Party) (o : Option Series) → find (λ x. has_parties s d x.agreement) kept ≡ o → between (kept_agreements kept) s d ≡ option_map (λ s. s.agreement) o
between_kept kept s d o e = found_agreement (has_parties s d) kept ∙ ap (option_map (λ s. s.agreement)) e

-- what is first by its parties is first by its name

first_too : (p q : Series → Bool) (xs : List Series) (i : ℕ) (s : Series) → FirstAt q xs i s → p s ≡ true → ((y : Series) → find p xs ≡ Some y → q y ≡ true) → FirstAt p xs i s
first_too p q [] i s first passes found = absurd first
first_too p q (x ∷ xs) zero s first passes found = (ap p first.1 ∙ passes, first.1)
first_too p q (x ∷ xs) (suc i) s first passes found = go (λ other. first_too p q xs i s first.1 passes other) (p x) refl
  where
    go : (((y : Series) → find p xs ≡ Some y → q y ≡ true) → FirstAt p xs i s) → (b : Bool) → p x ≡ b → (p x ≡ false) × FirstAt p xs i s
    go rest true e = let yes : q x ≡ true = found x (ap (λ b. cond b (Some x) (find p xs)) e) in let no = first.0 in absurd cc
    go rest false e = (e, rest (λ y here. found y (ap (λ b. cond b (Some x) (find p xs)) e ∙ here)))

found_is : (o : Option Series) (y : Series) (a : Agreement) → o ≡ Some y → option_map (λ s. s.agreement) o ≡ Some a → y.agreement ≡ a
found_is o y a e is = let same : Some y.agreement ≡ Some a = ap (option_map (λ s. s.agreement)) (sym e) ∙ is in cc

first_passes : (p : Series → Bool) (xs : List Series) (i : ℕ) (s : Series) → FirstAt p xs i s → p s ≡ true
first_passes p [] i s first = absurd first
first_passes p (x ∷ xs) zero s first = ap p (sym first.1) ∙ first.0
first_passes p (x ∷ xs) (suc i) s first = first_passes p xs i s first.1

pub own_place : (kept : List Series) → AreDistinct (kept_agreements kept) → (from : Party) (to : Option Party) (i : ℕ) (s : Series) → FirstAt (λ x. has_parties from to x.agreement) kept i s → FirstAt (λ x. has_name s.agreement.name x.agreement) kept i s
own_place kept distinct from to i s first =
    let found = between_kept kept from to (Some s) (first_found (λ x. has_parties from to x.agreement) kept i s first) in
    let by_name : named (kept_agreements kept) s.agreement.name ≡ Some s.agreement = distinct.by_parties from to s.agreement found in
    first_too (λ x. has_name s.agreement.name x.agreement) (λ x. has_parties from to x.agreement) kept i s first (same_bytes s.agreement.name)
    (λ y here. ap (has_parties from to) (found_is (series_named kept s.agreement.name) y s.agreement here (sym (found_agreement (has_name s.agreement.name) kept) ∙ by_name))
    ∙ first_passes (λ x. has_parties from to x.agreement) kept i s first)

-- a series that is put in its own place
pub set_same : (p : Series → Bool) (kept : List Series) (i : ℕ) (s : Series) → FirstAt p kept i s → set kept i s ≡ kept
set_same p [] i s first = absurd first
set_same p (x ∷ xs) zero s first = ap (λ y. y ∷ xs) (sym first.1)
set_same p (x ∷ xs) (suc i) s first = ap (λ ys. x ∷ ys) (set_same p xs i s first.1)

-- a series that is put in the place of another of its agreement

pub set_agreements : (p : Series → Bool) (kept : List Series) (i : ℕ) (s t : Series) → FirstAt p kept i s → t.agreement ≡ s.agreement → kept_agreements (set kept i t) ≡ kept_agreements kept
set_agreements p [] i s t first same = absurd first
set_agreements p (x ∷ xs) zero s t first same = ap (λ a. a ∷ kept_agreements xs) (same ∙ ap (λ (y : Series). y.agreement) (sym first.1))
set_agreements p (x ∷ xs) (suc i) s t first same = ap (λ as'. x.agreement ∷ as') (set_agreements p xs i s t first.1 same)

pub set_standing : (kept : List Series) (i : ℕ) (s t : Series) → FirstAt (λ x. has_name s.agreement.name x.agreement) kept i s → t.agreement ≡ s.agreement → (name : List ℕ) (n : ℕ) → standing_of (set kept i t) name n ≡ cond (bytes_eq s.agreement.name name) (stands_at t.numbers n) (standing_of kept name n)
set_standing [] i s t first same name n = absurd first
set_standing (x ∷ xs) zero s t first same name n =
    ap (λ a. number_of_series (cond (bytes_eq a.name name) (Some t) (series_named xs name)) n) same
    ∙ go (bytes_eq s.agreement.name name) refl
  where
    go : (b : Bool) → bytes_eq s.agreement.name name ≡ b → number_of_series (cond b (Some t) (series_named xs name)) n ≡ cond b (stands_at t.numbers n) (standing_of (x ∷ xs) name n)
    go true e = refl
    go false e = let no : bytes_eq x.agreement.name name ≡ false = ap (λ (y : Series). bytes_eq y.agreement.name name) first.1 ∙ e in rw no refl
set_standing (x ∷ xs) (suc i) s t first same name n = go (set_standing xs i s t first.1 same name n) (bytes_eq x.agreement.name name) refl (bytes_eq s.agreement.name name) refl
  where
    go : standing_of (set xs i t) name n ≡ cond (bytes_eq s.agreement.name name) (stands_at t.numbers n) (standing_of xs name n) → (b : Bool) → bytes_eq x.agreement.name name ≡ b → (d : Bool) → bytes_eq s.agreement.name name ≡ d → number_of_series (cond b (Some x) (series_named (set xs i t) name)) n ≡ cond d (stands_at t.numbers n) (number_of_series (cond b (Some x) (series_named xs name)) n)
    go ih true e true e' =
        let own : x.agreement.name ≡ name = (bytes_eq-Decides x.agreement.name name).0 e in
        let other : s.agreement.name ≡ name = (bytes_eq-Decides s.agreement.name name).0 e' in
        let passes : bytes_eq x.agreement.name s.agreement.name ≡ true = (bytes_eq-Decides x.agreement.name s.agreement.name).1 (own ∙ sym other) in
        let no : bytes_eq x.agreement.name s.agreement.name ≡ false = first.0 in
        absurd cc
    go ih true e false e' = refl
    go ih false e d e' = ih ∙ ap (λ b. cond b (stands_at t.numbers n) (standing_of xs name n)) e'

-- a new series at the end has nothing

pub push_agreements : (kept : List Series) (t : Series) → kept_agreements (kept ++ t ∷ []) ≡ kept_agreements kept ++ t.agreement ∷ []
push_agreements [] t = refl
push_agreements (x ∷ xs) t = ap (λ as'. x.agreement ∷ as') (push_agreements xs t)

pub push_standing : (kept : List Series) (t : Series) → ((n : ℕ) → stands_at t.numbers n ≡ None) → (name : List ℕ) (n : ℕ) → standing_of (kept ++ t ∷ []) name n ≡ standing_of kept name n
push_standing kept t nothing name n =
    ap (λ o. number_of_series o n) (find-append (λ s. has_name name s.agreement) kept (t ∷ []))
    ∙ go (series_named kept name) (bytes_eq t.agreement.name name)
  where
    go : (o : Option Series) (b : Bool) → number_of_series (option_or o (cond b (Some t) None)) n ≡ number_of_series o n
    go (Some s) b = refl
    go None true = nothing n
    go None false = refl

-- what holds whatever came holds where a fault came
pub on_fault : {T E : Type 0} (r : Result T E) (P : Type 0) → P → OnErr r P
on_fault (Ok x) P h = tt
on_fault (Err e) P h = h
