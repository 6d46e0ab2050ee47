-- The parts that tokens are made of: what is read is spelled so, what is spelled so is read, and both stay.
use Rattle.std.proofs.Common.{◌≡◌, ℕ, length, length-append, ◌≤◌, Bool, true, false, cond, eqb, List, [], ◌∷◌, ◌++◌, inl, inr, Ok, Err, refl, sym, ap, subst, ◌∙◌, append_assoc, arith}
use Rattle.std.specs.Prelude.{◌&&◌, not}
use Rattle.std.specs.List.{list_all}
use Rattle.std.proofs.lemmas.Bool.{eqb-true, eq-eqb, and_parts}
use Rattle.std.proofs.lemmas.Bool.Decides.{nat_tests}
use Rattle.feed_xml.specs.declared.stop.Stop.TheVariants.{More, Never}
use Rattle.feed_xml.specs.Grammar.{is_space, starts_name, is_name_byte, begins_name, is_name, is_filled, begins, is_free, is_digit, is_hex_digit, is_number, is_reference, is_reference_byte}
use Rattle.std.specs.Str.{chars}
use Rattle.feed_xml.specs.Characters.{is_char, are_of_name, number_code}
use Rattle.feed_xml.specs.Steps.{Step, ◌>>=◌, run, literal, here_or, until}
use Rattle.feed_xml.specs.Reading.{name_at}
use Rattle.feed_xml.proofs.StepLaws.{bind_ok, ok_is, chosen, guard_ok, Stays, stays_bind, stays_if, never_stays}

-- a byte follows that does not pass
abbrev pub Stops : (ℕ → Bool) → List ℕ → Type 0
Stops p [] = ⊥
Stops p (b ∷ bytes) = p b ≡ false

pub run_takes : (p : ℕ → Bool) (bytes : List ℕ) (x : List ℕ × List ℕ) → run p bytes ≡ Ok x → (bytes ≡ x.0 ++ x.1) × (list_all p x.0 ≡ true)
unfolding run
run_takes p [] x e = absurd cc
run_takes p (b ∷ bytes) x e =
    elim (chosen (p b) (run p bytes >>= λ y. Ok (b ∷ y.0, y.1)) (Ok ([], b ∷ bytes)) (Ok x) e) [
      | inl h ↦
          let a = bind_ok (run p bytes) (λ y. Ok (b ∷ y.0, y.1)) x h.1 in
          let t = run_takes p bytes a.0 a.1 in
          let made : List ℕ × List ℕ = (b ∷ a.0.0, a.0.1) in
          subst (λ (y : List ℕ × List ℕ). (b ∷ bytes ≡ y.0 ++ y.1) × (list_all p y.0 ≡ true)) (ok_is made x a.2)
          (ap (λ (l : List ℕ). b ∷ l) t.0, rw h.0 t.1)
      | inr h ↦
          let made : List ℕ × List ℕ = ([], b ∷ bytes) in
          subst (λ (y : List ℕ × List ℕ). (b ∷ bytes ≡ y.0 ++ y.1) × (list_all p y.0 ≡ true)) (ok_is made x h.1) (refl, refl)
    ]

run_none : (p : ℕ → Bool) (rest : List ℕ) → Stops p rest → run p rest ≡ Ok ([], rest)
unfolding run
run_none p [] h = absurd h
run_none p (b ∷ bytes) h = rw h refl

pub run_again : (p : ℕ → Bool) (text rest : List ℕ) → list_all p text ≡ true → Stops p rest → run p (text ++ rest) ≡ Ok (text, rest)
unfolding run
run_again p [] rest all stops = run_none p rest stops
run_again p (b ∷ text) rest all stops =
    let parts = and_parts (p b) (list_all p text) all in
    rw (parts.0, run_again p text rest parts.1 stops) refl

pub run_stays : (p : ℕ → Bool) (bytes more : List ℕ) → Stays more (run p bytes) (run p (bytes ++ more))
unfolding run
run_stays p [] more = tt
run_stays p (b ∷ bytes) more =
    stays_if more (p b) (run p bytes >>= λ y. Ok (b ∷ y.0, y.1)) (Ok ([], b ∷ bytes)) (run p (bytes ++ more) >>= λ y. Ok (b ∷ y.0, y.1)) (Ok ([], b ∷ (bytes ++ more)))
    (stays_bind more (run p bytes) (run p (bytes ++ more)) (λ y. Ok (b ∷ y.0, y.1)) (run_stays p bytes more) (λ y. refl)) refl

pub literal_takes : (mark bytes : List ℕ) (x : List ℕ × List ℕ) → literal mark bytes ≡ Ok x → (bytes ≡ mark ++ x.1) × (x.0 ≡ mark)
unfolding literal
literal_takes [] bytes x e = subst (λ (y : List ℕ × List ℕ). (bytes ≡ y.1) × (y.0 ≡ [])) (ok_is ([], bytes) x e) (refl, refl)
literal_takes (c ∷ mark) [] x e = absurd cc
literal_takes (c ∷ mark) (b ∷ bytes) x e =
    elim (chosen (eqb b c) (literal mark bytes >>= λ y. Ok (c ∷ y.0, y.1)) (Err Never) (Ok x) e) [
      | inl h ↦
          let a = bind_ok (literal mark bytes) (λ y. Ok (c ∷ y.0, y.1)) x h.1 in
          let t = literal_takes mark bytes a.0 a.1 in
          let made : List ℕ × List ℕ = (c ∷ a.0.0, a.0.1) in
          subst (λ (y : List ℕ × List ℕ). (b ∷ bytes ≡ (c ∷ mark) ++ y.1) × (y.0 ≡ c ∷ mark)) (ok_is made x a.2)
          (ap (λ (l : List ℕ). b ∷ l) t.0 ∙ ap (λ (k : ℕ). k ∷ (mark ++ a.0.1)) (eqb-true b c h.0), ap (λ (l : List ℕ). c ∷ l) t.1)
      | inr h ↦ absurd cc
    ]

pub literal_again : (mark rest : List ℕ) → literal mark (mark ++ rest) ≡ Ok (mark, rest)
unfolding literal
literal_again [] rest = refl
literal_again (c ∷ mark) rest = rw (eq-eqb c c refl, literal_again mark rest) refl

pub literal_stays : (mark bytes more : List ℕ) → Stays more (literal mark bytes) (literal mark (bytes ++ more))
unfolding literal
literal_stays [] bytes more = refl
literal_stays (c ∷ mark) [] more = tt
literal_stays (c ∷ mark) (b ∷ bytes) more =
    stays_if more (eqb b c) (literal mark bytes >>= λ y. Ok (c ∷ y.0, y.1)) (Err Never) (literal mark (bytes ++ more) >>= λ y. Ok (c ∷ y.0, y.1)) (Err Never)
    (stays_bind more (literal mark bytes) (literal mark (bytes ++ more)) (λ y. Ok (c ∷ y.0, y.1)) (literal_stays mark bytes more) (λ y. refl)) refl

pub name_takes : (bytes : List ℕ) (x : List ℕ × List ℕ) → name_at bytes ≡ Ok x → (bytes ≡ x.0 ++ x.1) × (is_name x.0 ≡ true)
unfolding name_at
name_takes bytes x e =
    let a = bind_ok (run is_name_byte bytes) (λ name. cond (is_name name.0) (Ok name) (Err Never)) x e in
    let t = run_takes is_name_byte bytes a.0 a.1 in
    let g = guard_ok (is_name a.0.0) Never a.0 x a.2 in
    subst (λ (y : List ℕ × List ℕ). (bytes ≡ y.0 ++ y.1) × (is_name y.0 ≡ true)) g.1 (t.0, g.0)

-- the bytes of a name
pub name_bytes : (name : List ℕ) → is_name name ≡ true → (begins_name name ≡ true) × (list_all is_name_byte name ≡ true)
name_bytes name h =
    let parts = and_parts (begins_name name) (list_all is_name_byte name && are_of_name (chars name)) h in
    (parts.0, (and_parts (list_all is_name_byte name) (are_of_name (chars name)) parts.1).0)

pub name_again : (name rest : List ℕ) → is_name name ≡ true → Stops is_name_byte rest → name_at (name ++ rest) ≡ Ok (name, rest)
unfolding name_at
name_again name rest h stops =
    rw (run_again is_name_byte name rest (name_bytes name h).1 stops, h) refl

pub name_stays : (bytes more : List ℕ) → Stays more (name_at bytes) (name_at (bytes ++ more))
unfolding name_at
name_stays bytes more =
    stays_bind more (run is_name_byte bytes) (run is_name_byte (bytes ++ more)) (λ name. cond (is_name name.0) (Ok name) (Err Never)) (run_stays is_name_byte bytes more)
    (λ x. stays_if more (is_name x.0) (Ok x) (Err Never) (Ok (x.0, x.1 ++ more)) (Err Never) refl refl)

pub space_no_name : (b : ℕ) → is_space b ≡ true → is_name_byte b ≡ false
space_no_name b h = grind (arith, nat_tests)

-- white space ends a name
pub space_stops : (space rest : List ℕ) → list_all is_space space ≡ true → Stops is_name_byte rest → Stops is_name_byte (space ++ rest)
space_stops [] rest all h = h
space_stops (b ∷ space) rest all h = space_no_name b (and_parts (is_space b) (list_all is_space space) all).0

pub run_stops : (p : ℕ → Bool) (bytes : List ℕ) (x : List ℕ × List ℕ) → run p bytes ≡ Ok x → Stops p x.1
unfolding run
run_stops p [] x e = absurd cc
run_stops p (b ∷ bytes) x e =
    elim (chosen (p b) (run p bytes >>= λ y. Ok (b ∷ y.0, y.1)) (Ok ([], b ∷ bytes)) (Ok x) e) [
      | inl h ↦
          let a = bind_ok (run p bytes) (λ y. Ok (b ∷ y.0, y.1)) x h.1 in
          let made : List ℕ × List ℕ = (b ∷ a.0.0, a.0.1) in
          subst (λ (y : List ℕ × List ℕ). Stops p y.1) (ok_is made x a.2) (run_stops p bytes a.0 a.1)
      | inr h ↦
          let made : List ℕ × List ℕ = ([], b ∷ bytes) in
          subst (λ (y : List ℕ × List ℕ). Stops p y.1) (ok_is made x h.1) h.0
    ]

pub begins_stays : (p : ℕ → Bool) (bytes more : List ℕ) → Stops p bytes → begins_name (bytes ++ more) ≡ begins_name bytes
begins_stays p [] more h = absurd h
begins_stays p (b ∷ bytes) more h = refl

name_no_space : (b : ℕ) → starts_name b ≡ true → is_space b ≡ false
name_no_space b h = grind (arith, nat_tests)

-- a name ends white space
pub name_stops : (name rest : List ℕ) → is_name name ≡ true → Stops is_space (name ++ rest) × (begins_name (name ++ rest) ≡ true)
name_stops [] rest h = absurd cc
name_stops (b ∷ name) rest h =
    let first = (name_bytes (b ∷ name) h).0 in
    (name_no_space b first, first)

-- ---- up to a mark

-- what begins with the mark is read as the mark
begins_reads : (mark text more : List ℕ) → begins mark text ≡ true → (x : List ℕ × List ℕ) × (literal mark (text ++ more) ≡ Ok x)
unfolding literal
begins_reads [] text more h = (([], text ++ more), refl)
begins_reads (c ∷ mark) [] more h = absurd cc
begins_reads (c ∷ mark) (b ∷ text) more h =
    let parts = and_parts (eqb b c) (begins mark text) h in
    let found = begins_reads mark text more parts.1 in
    let step : literal (c ∷ mark) ((b ∷ text) ++ more) ≡ (literal mark (text ++ more) >>= λ y. Ok (c ∷ y.0, y.1)) = rw parts.0 refl in
    ((c ∷ found.0.0, found.0.1), step ∙ ap (λ (r : Step (List ℕ)). r >>= λ y. Ok (c ∷ y.0, y.1)) found.1)

never_begins : (mark text more : List ℕ) → literal mark (text ++ more) ≡ Err Never → not (begins mark text) ≡ true
never_begins mark text more never = go (begins mark text) refl
  where
    go : (b : Bool) → begins mark text ≡ b → not b ≡ true
    go true e =
        let found = begins_reads mark text more e in
        absurd cc
    go false e = refl

not_begins : (mark text : List ℕ) → length mark ≤ length text → not (begins mark text) ≡ true → literal mark text ≡ Err Never
unfolding literal
not_begins [] text long h = absurd cc
not_begins (c ∷ mark) [] long h = absurd (omega (arith, long))
not_begins (c ∷ mark) (b ∷ text) long h = go (λ k. not_begins mark text (omega (arith, long)) k) (eqb b c) refl h
  where
    go : (not (begins mark text) ≡ true → literal mark text ≡ Err Never) → (t : Bool) → eqb b c ≡ t → not (t && begins mark text) ≡ true → literal (c ∷ mark) (b ∷ text) ≡ Err Never
    go rest true e k = rw (e, rest k) refl
    go rest false e k = rw e refl

pub until_takes : (mark bytes : List ℕ) (x : List ℕ × List ℕ) → until mark bytes ≡ Ok x → (bytes ≡ x.0 ++ (mark ++ x.1)) × (is_free mark x.0 ≡ true)
unfolding until
until_takes mark [] x e = absurd cc
until_takes mark (b ∷ bytes) x e = go (until_takes mark bytes) (literal mark (b ∷ bytes)) refl e
  where
    go : ((y : List ℕ × List ℕ) → until mark bytes ≡ Ok y → (bytes ≡ y.0 ++ (mark ++ y.1)) × (is_free mark y.0 ≡ true)) → (r : Step (List ℕ)) → literal mark (b ∷ bytes) ≡ r → here_or r (until mark bytes >>= λ y. Ok (b ∷ y.0, y.1)) ≡ Ok x → (b ∷ bytes ≡ x.0 ++ (mark ++ x.1)) × (is_free mark x.0 ≡ true)
    go before (Ok y) is h =
        let made : List ℕ × List ℕ = ([], y.1) in
        subst (λ (z : List ℕ × List ℕ). (b ∷ bytes ≡ z.0 ++ (mark ++ z.1)) × (is_free mark z.0 ≡ true)) (ok_is made x h) ((literal_takes mark (b ∷ bytes) y is).0, refl)
    go before (Err More) is h = absurd cc
    go before (Err Never) is h =
        let a = bind_ok (until mark bytes) (λ y. Ok (b ∷ y.0, y.1)) x h in
        let t = before a.0 a.1 in
        let made : List ℕ × List ℕ = (b ∷ a.0.0, a.0.1) in
        let whole : b ∷ bytes ≡ ((b ∷ a.0.0) ++ mark) ++ a.0.1 = ap (λ (l : List ℕ). b ∷ l) (t.0 ∙ sym (append_assoc a.0.0 mark a.0.1)) in
        let free : not (begins mark ((b ∷ a.0.0) ++ mark)) ≡ true = never_begins mark ((b ∷ a.0.0) ++ mark) a.0.1 (ap (literal mark) (sym whole) ∙ is) in
        subst (λ (z : List ℕ × List ℕ). (b ∷ bytes ≡ z.0 ++ (mark ++ z.1)) × (is_free mark z.0 ≡ true)) (ok_is made x a.2)
        (ap (λ (l : List ℕ). b ∷ l) t.0, rw (free, t.1) refl)

pub until_again : (c : ℕ) (mark text rest : List ℕ) → is_free (c ∷ mark) text ≡ true → until (c ∷ mark) (text ++ ((c ∷ mark) ++ rest)) ≡ Ok (text, rest)
unfolding until
until_again c mark [] rest free = rw (literal_again (c ∷ mark) rest) refl
until_again c mark (b ∷ text) rest free =
    let parts = and_parts (not (begins (c ∷ mark) ((b ∷ text) ++ (c ∷ mark)))) (is_free (c ∷ mark) text) free in
    let long : length (c ∷ mark) ≤ length ((b ∷ text) ++ (c ∷ mark)) = omega (arith, length-append (b ∷ text) (c ∷ mark)) in
    let here : literal (c ∷ mark) ((b ∷ text) ++ (c ∷ mark)) ≡ Err Never = not_begins (c ∷ mark) ((b ∷ text) ++ (c ∷ mark)) long parts.0 in
    let later : literal (c ∷ mark) (((b ∷ text) ++ (c ∷ mark)) ++ rest) ≡ Err Never =
    never_stays rest (literal (c ∷ mark) ((b ∷ text) ++ (c ∷ mark))) (literal (c ∷ mark) (((b ∷ text) ++ (c ∷ mark)) ++ rest)) (literal_stays (c ∷ mark) ((b ∷ text) ++ (c ∷ mark)) rest) here in
    let there : literal (c ∷ mark) (b ∷ (text ++ ((c ∷ mark) ++ rest))) ≡ Err Never = ap (λ (l : List ℕ). literal (c ∷ mark) (b ∷ l)) (sym (append_assoc text (c ∷ mark) rest)) ∙ later in
    rw (there, until_again c mark text rest parts.1) refl

here_stays : (more : List ℕ) (r s u v : Step (List ℕ)) → Stays more r s → Stays more u v → Stays more (here_or r u) (here_or s v)
here_stays more (Ok x) s u v h k = rw h refl
here_stays more (Err More) s u v h k = tt
here_stays more (Err Never) s u v h k = rw h k

pub until_stays : (mark bytes more : List ℕ) → Stays more (until mark bytes) (until mark (bytes ++ more))
unfolding until
until_stays mark [] more = tt
until_stays mark (b ∷ bytes) more =
    here_stays more (literal mark (b ∷ bytes)) (literal mark (b ∷ (bytes ++ more))) (until mark bytes >>= λ y. Ok (b ∷ y.0, y.1)) (until mark (bytes ++ more) >>= λ y. Ok (b ∷ y.0, y.1))
    (literal_stays mark (b ∷ bytes) more)
    (stays_bind more (until mark bytes) (until mark (bytes ++ more)) (λ y. Ok (b ∷ y.0, y.1)) (until_stays mark bytes more) (λ y. refl))

-- ---- references

all_imply : (p q : ℕ → Bool) (xs : List ℕ) → ((b : ℕ) → p b ≡ true → q b ≡ true) → list_all p xs ≡ true → list_all q xs ≡ true
all_imply p q [] each all = refl
all_imply p q (b ∷ xs) each all =
    let parts = and_parts (p b) (list_all p xs) all in
    rw (each b parts.0, all_imply p q xs each parts.1) refl

name_refers : (b : ℕ) → is_name_byte b ≡ true → is_reference_byte b ≡ true
name_refers b h = rw h refl

digit_refers : (b : ℕ) → is_digit b ≡ true → is_reference_byte b ≡ true
digit_refers b h = grind (arith, nat_tests)

hex_refers : (b : ℕ) → is_hex_digit b ≡ true → is_reference_byte b ≡ true
hex_refers b h = grind (arith, nat_tests)

number_refers : (body : List ℕ) → is_number body ≡ true → list_all is_reference_byte body ≡ true
number_refers [] h = absurd cc
number_refers (b ∷ digits) h =
    elim (chosen (eqb b 120) (is_filled digits && list_all is_hex_digit digits) (list_all is_digit (b ∷ digits)) true h) [
      | inl k ↦ rw (name_refers b (rw (eqb-true b 120 k.0) refl), all_imply is_hex_digit is_reference_byte digits hex_refers (and_parts (is_filled digits) (list_all is_hex_digit digits) k.1).1) refl
      | inr k ↦ all_imply is_digit is_reference_byte (b ∷ digits) digit_refers k.1
    ]

pub reference_refers : (body : List ℕ) → is_reference body ≡ true → list_all is_reference_byte body ≡ true
reference_refers [] h = absurd cc
reference_refers (b ∷ body) h =
    elim (chosen (eqb b 35) (is_number body && is_char (number_code body)) (is_name (b ∷ body)) true h) [
      | inl k ↦ rw (eqb-true b 35 k.0, number_refers body (and_parts (is_number body) (is_char (number_code body)) k.1).0) refl
      | inr k ↦ all_imply is_name_byte is_reference_byte (b ∷ body) name_refers (name_bytes (b ∷ body) k.1).1
    ]
