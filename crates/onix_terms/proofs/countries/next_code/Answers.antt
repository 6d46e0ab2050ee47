use Rattle.std.proofs.Common.{◌≡◌, ◌∷◌, ◌<◌, ◌≤◌, ◌∙◌, ◌&&◌, [], ℕ, List, true, false, None, length, drop, get_or, option_map, refl, sym, ap, arith}
use Rattle.std.proofs.lemmas.Bool.{ne_eqb}
use Rattle.std.proofs.lemmas.List.{take_rest}
use Rattle.std.specs.Char.{is_ascii_uppercase}
use Rattle.onix_terms.specs.Territory.{codes_in, ends_code}
use Rattle.onix_terms.proofs.countries.next_code.Goals as goal
use Rattle.onix_terms.proofs.countries.next_code.Goals.{else-is_ascii_uppercase-via-then-is_ascii_uppercase+then-is_ascii_uppercase-2+else-is_code_end, else-is_ascii_uppercase-via-then-is_ascii_uppercase+else-is_ascii_uppercase-2, else-is_ascii_uppercase-via-else-is_ascii_uppercase}

at_space : (text : List ℕ) → 1 ≤ length text → get_or text 0 0 ≡ 32 → (length (drop 1 text) < length text) × (codes_in text ≡ codes_in (drop 1 text))
unfolding codes_in
at_space [] some space = absurd (omega arith)
at_space (a ∷ []) some space = (omega arith, rw space refl)
at_space (a ∷ b ∷ rest) some space = (omega arith, rw space refl)

at_code : (text code : List ℕ) → 2 ≤ length text → (get_or text 0 0 ≡ 32 → ⊥) →
    is_ascii_uppercase (get_or text 0 0) ≡ true → is_ascii_uppercase (get_or text 1 0) ≡ true → ends_code (drop 2 text) ≡ true → code ≡ get_or text 0 0 ∷ get_or text 1 0 ∷ [] →
    (length (drop 2 text) < length text) × (codes_in text ≡ option_map (λ codes. code ∷ codes) (codes_in (drop 2 text)))
unfolding codes_in
at_code [] code two no_space first second ends is = absurd (omega arith)
at_code (a ∷ []) code two no_space first second ends is = absurd (omega arith)
at_code (a ∷ b ∷ rest) code two no_space first second ends is = (omega arith, rw (ne_eqb a 32 no_space, first, second, ends, is) refl)

at_neither : (text : List ℕ) → 2 ≤ length text → (get_or text 0 0 ≡ 32 → ⊥) →
    (is_ascii_uppercase (get_or text 0 0) && is_ascii_uppercase (get_or text 1 0) && ends_code (drop 2 text)) ≡ false → codes_in text ≡ None
unfolding codes_in
at_neither [] two no_space other = absurd (omega arith)
at_neither (a ∷ []) two no_space other = absurd (omega arith)
at_neither (a ∷ b ∷ rest) two no_space other = rw (ne_eqb a 32 no_space, other) refl

at_one : (text : List ℕ) → 1 ≤ length text → length text < 2 → (get_or text 0 0 ≡ 32 → ⊥) → codes_in text ≡ None
unfolding codes_in
at_one [] some one no_space = absurd (omega arith)
at_one (a ∷ []) some one no_space = rw (ne_eqb a 32 no_space) refl
at_one (a ∷ b ∷ rest) some one no_space = absurd (omega arith)

pub returns-then-a-eq32 : goal.returns-then-a-eq32
returns-then-a-eq32 c = rw (take_rest c.args.text.now 1) (at_space c.args.text.now c.in-len1.len_at_least c.if-a-eq32.true)

pub returns-else-a-eq32 : goal.returns-else-a-eq32
returns-else-a-eq32 c = at_one c.args.text.now c.in-len1.len_at_least c.in-len1.len_below c.if-a-eq32.false

pub returns-then-a-eq32-2 : goal.returns-then-a-eq32-2
returns-then-a-eq32-2 c = rw (take_rest c.args.text.now 1) (at_space c.args.text.now (omega arith) c.if-a-eq32-2.true)

pub returns-then-is_code_end : goal.returns-then-is_code_end
returns-then-is_code_end c =
    let text = c.args.text.now in
    let rest = take_rest text 2 in
    let ends : ends_code (drop 2 text) ≡ true = sym (c.if-is_code_end.ensures ∙ ap ends_code rest) in
    rw rest (at_code text c.from_letters.result c.in-len2-up.len_at_least c.if-a-eq32-2.false (sym c.if-is_ascii_uppercase.ensures.value) (sym c.if-is_ascii_uppercase-2.ensures.value) ends c.from_letters.ensures)

pub returns-else-is_ascii_uppercase : goal.returns-else-is_ascii_uppercase
returns-else-is_ascii_uppercase c =
    let text = c.args.text.now in
    let neither : (is_ascii_uppercase (get_or text 0 0) && is_ascii_uppercase (get_or text 1 0) && ends_code (drop 2 text)) ≡ false =
    elim c.else-is_ascii_uppercase.branch [
      | else-is_ascii_uppercase-via-then-is_ascii_uppercase+then-is_ascii_uppercase-2+else-is_code_end w ↦
          rw (← w.if-is_ascii_uppercase.ensures.value, ← w.if-is_ascii_uppercase-2.ensures.value) (sym (w.if-is_code_end.ensures ∙ ap ends_code (take_rest text 2)))
      | else-is_ascii_uppercase-via-then-is_ascii_uppercase+else-is_ascii_uppercase-2 w ↦ rw (← w.if-is_ascii_uppercase.ensures.value, ← w.if-is_ascii_uppercase-2.ensures.value) refl
      | else-is_ascii_uppercase-via-else-is_ascii_uppercase w ↦ rw (← w.if-is_ascii_uppercase.ensures.value) refl
    ] in
    at_neither text c.in-len2-up.len_at_least c.if-a-eq32-2.false neither
