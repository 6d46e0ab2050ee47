-- The records that a reader gives in turn are all the records of the text.
use Rattle.std.proofs.Common.{Option, ◌≡◌, ◌≤◌, ◌<◌, ◌+◌, ◌∷◌, [], ℕ, zero, suc, List, Some, None, length, refl, sym, ap, arith, true, false, Bool, inl, inr}
use Rattle.std.specs.Prelude.{if◌then◌else◌, ◌==◌, ◌||◌}
use Rattle.std.proofs.lemmas.Bool.{cases_Bool}
use Rattle.csv.specs.Machine.{Read, next_record, step, is_end, fields_after, field_after, ends_at_end, in_field, start_field, start_record}
use Rattle.csv.specs.Reading.{AreRecords, Reached, default_config, records_from, records_next, strip_bom}
use Rattle.csv.specs.declared.parser.State.{State}
use Rattle.csv.specs.declared.parser.State.TheVariants as st
use Rattle.csv.specs.declared.parser.Action.{Action}
use Rattle.csv.specs.declared.parser.Action.TheVariants as act
use Rattle.csv_records.specs.RecordTexts.{records_of}

read-after : (a r : Read) → Some a ≡ Some r → (a.1 ≡ r.1) × (a.2 ≡ r.2)
read-after a r e = (ap (λ (p : Read). p.1) (some-is e), ap (λ (p : Read). p.2) (some-is e))
  where
    some-is : Some a ≡ Some r → a ≡ r
    some-is q = cc q

-- what a byte does where a field stands open: a is that it is the comma, b that it ends a line, d that it is a carriage return
abbrev open-step : Bool → Bool → Bool → State × Action
open-step a b d = if a then (st.StartField, act.EndField) else if b then (if d then st.AfterCr else st.StartRecord, act.EndRecord) else (st.InField, act.Copy)

Closes : State × Action → Type 0
Closes r = is_end r.1 ≡ true → ends_at_end r.0 ≡ false

open-closes : (a b d : Bool) → Closes (open-step a b d)
unfolding Closes
open-closes true b d e = cc e
open-closes false false d e = cc e
open-closes false true true e = refl
open-closes false true false e = refl

if-closes : (t : Bool) (x y : State × Action) → Closes x → Closes y → Closes (if t then x else y)
if-closes true x y f g = f
if-closes false x y f g = g

other-closes : (s : State) (a : Action) → is_end a ≡ false → Closes (s, a)
unfolding Closes
other-closes s a e t = cc (e, t)

field-closes : (c : ℕ) → Closes (in_field default_config c)
field-closes c = open-closes (c == 44) ((c == 13) || (c == 10)) (c == 13)

start-closes : (c : ℕ) → Closes (start_field default_config c)
start-closes c = if-closes (c == 34) _ _ (other-closes _ _ refl) (field-closes c)

record-closes : (c : ℕ) → Closes (start_record default_config c)
record-closes c = if-closes ((c == 13) || (c == 10)) _ _ (other-closes _ _ refl) (start-closes c)

step-closes : (s : State) (c : ℕ) → Closes (step default_config s c)
step-closes st.InField c = field-closes c
step-closes st.StartRecord c = record-closes c
step-closes st.StartField c = start-closes c
step-closes st.InQuoted c = if-closes (c == 34) _ _ (other-closes _ _ refl) (other-closes _ _ refl)
step-closes st.AfterQuote c = if-closes (c == 34) _ _ (other-closes _ _ refl) (field-closes c)
step-closes st.InEscape c = other-closes _ _ refl
step-closes st.InComment c = if-closes (c == 10) _ _ (other-closes _ _ refl) (other-closes _ _ refl)
step-closes st.AfterCr c = if-closes (c == 10) _ _ (other-closes _ _ refl) (record-closes c)

-- after the byte that ends a record, the end of the text ends no other
end-closes : (s : State) (c : ℕ) → is_end (step default_config s c).1 ≡ true → ends_at_end (step default_config s c).0 ≡ false
unfolding Closes
end-closes s c e = step-closes s c e

-- what a read that found a record leaves: a state in which the end of the text ends none, and fewer bytes
pub next-leaves : (s : State) (f : List (List ℕ)) (p : List ℕ) (xs : List ℕ) (r : Read)
    → next_record default_config s f p xs ≡ Some r → (ends_at_end r.1 ≡ false) × (length r.2 ≤ length xs)
unfolding next_record
next-leaves s f p [] r e = elim (cases_Bool (ends_at_end s)) [
  | inl ends ↦ let q = read-after _ r (rw ends at e) in rw (← q.0, ← q.1) (refl, omega arith)
  | inr goes ↦ cc (rw goes at e)
]
next-leaves s f p (c ∷ xs) r e = elim (cases_Bool (is_end (step default_config s c).1)) [
  | inl ends ↦ let q = read-after _ r (rw ends at e) in rw (← q.0, ← q.1) (end-closes s c ends, omega arith)
  | inr goes ↦ let h = next-leaves (step default_config s c).0 (fields_after (step default_config s c).1 f p) (field_after (step default_config s c).1 c p) xs r (rw goes at e) in (h.0, omega (arith, h.1))
]

pub next-shorter : (s : State) (c : ℕ) (xs : List ℕ) (r : Read)
    → next_record default_config s [] [] (c ∷ xs) ≡ Some r → length r.2 ≤ length xs
unfolding next_record
next-shorter s c xs r e = elim (cases_Bool (is_end (step default_config s c).1)) [
  | inl ends ↦ let q = read-after _ r (rw ends at e) in rw (← q.1) (omega arith)
  | inr goes ↦ (next-leaves (step default_config s c).0 (fields_after (step default_config s c).1 [] []) (field_after (step default_config s c).1 c []) xs r (rw goes at e)).1
]

pub none-at-end : (s : State) → ends_at_end s ≡ false → next_record default_config s [] [] [] ≡ None
unfolding next_record
none-at-end s e = rw e refl

-- all the records, given a bound on how many there are
pub all-from : (n : ℕ) (s s2 : State) (xs ys : List ℕ) (rows : List (List (List ℕ))) → length xs < n → ends_at_end s ≡ false
    → Reached default_config s xs rows s2 ys → next_record default_config s2 [] [] ys ≡ None
    → records_from default_config n s xs ≡ rows
unfolding records_from Reached
all-from zero s s2 xs ys rows h z t e = absurd (omega arith)
all-from (suc n) s s2 xs ys [] h z t e = rw (t.0, t.1, e) refl
all-from (suc n) s s2 [] ys (r ∷ rows) h z t e = cc (none-at-end s z, t.1)
all-from (suc n) s s2 (c ∷ xs) ys (r ∷ rows) h z t e =
    let (p, at_p, head, rest) = t in
    let left = next-leaves s [] [] (c ∷ xs) p at_p in
    let less = next-shorter s c xs p at_p in
    rw (at_p, head) (ap (λ (more : List (List (List ℕ))). p.0 ∷ more) (all-from n p.1 s2 p.2 ys rows (omega (arith, less)) left.0 rest e))

next-agree : (n m : ℕ) (s : State) (c : ℕ) (xs : List ℕ) (o : Option Read) → next_record default_config s [] [] (c ∷ xs) ≡ o
    → ((p : Read) → length p.2 ≤ length xs → ends_at_end p.1 ≡ false → records_from default_config n p.1 p.2 ≡ records_from default_config m p.1 p.2)
    → records_next (records_from default_config n) o ≡ records_next (records_from default_config m) o
next-agree n m s c xs None e more = refl
next-agree n m s c xs (Some p) e more =
    let left = next-leaves s [] [] (c ∷ xs) p e in
    ap (λ (rest : List (List (List ℕ))). p.0 ∷ rest) (more p (next-shorter s c xs p e) left.0)

-- any bounds on how many there are give the same records
pub bounds-agree : (n m : ℕ) (s : State) (xs : List ℕ) → length xs < n → length xs < m → ends_at_end s ≡ false
    → records_from default_config n s xs ≡ records_from default_config m s xs
unfolding records_from
bounds-agree zero m s xs h k z = absurd (omega arith)
bounds-agree (suc n) zero s xs h k z = absurd (omega arith)
bounds-agree (suc n) (suc m) s [] h k z = rw (none-at-end s z) refl
bounds-agree (suc n) (suc m) s (c ∷ xs) h k z = next-agree n m s c xs (next_record default_config s [] [] (c ∷ xs)) refl
    (λ (p : Read) (less : length p.2 ≤ length xs) (ended : ends_at_end p.1 ≡ false). bounds-agree n m p.1 p.2 (omega arith) (omega arith) ended)
