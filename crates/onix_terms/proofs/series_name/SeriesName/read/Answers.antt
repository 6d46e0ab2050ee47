use Rattle.std.proofs.Common.{◌≡◌, ◌<◌, ◌++◌, ◌-◌, ◌==◌, ◌&&◌, ℕ, nat_lt, nat_le, List, None, true, false, length, take, drop, refl, ap, sym, ◌∙◌, arith}
use Rattle.std.specs.Prelude.{IsTrue, replicate}
use Rattle.std.specs.List.{list_all}
use Rattle.std.proofs.Math.Seq.{take-append_seam}
use Rattle.std.proofs.lemmas.List.{drop-replicate}
use Rattle.std.proofs.lemmas.Bool.{and_right, eqb-true, lt-leb, lt-ltb}
use Rattle.std.proofs.lemmas.Bool.Decides.{nat_tests}
use Rattle.onix_terms.specs.SeriesName.{is_name_byte, is_series_name, padded, series_name_of}
use Rattle.onix_terms.proofs.series_name.SeriesName.read.Goals as goal
use Rattle.onix_terms.proofs.series_name.SeriesName.read.Goals.{then-is_empty-via-then-is_empty, then-is_empty-via-else-is_empty+then-given-gt32, then-is_empty-via-else-is_empty+else-given-gt32+then-not-are_name_bytes}

-- what is no name
too_short : (given : List ℕ) → (length given == 0) ≡ true → is_series_name given ≡ false
too_short given e = rw (eqb-true (length given) 0 e) refl

too_long : (given : List ℕ) → 32 < length given → is_series_name given ≡ false
too_long given long = rw (lt-ltb 0 (length given) (omega arith), lt-leb (length given) 32 long) refl

wrong_byte : (given : List ℕ) → list_all is_name_byte given ≡ false → is_series_name given ≡ false
wrong_byte given e = and_right (nat_lt 0 (length given) && nat_le (length given) 32) (list_all is_name_byte given) e

no_name : (text given : List ℕ) → given ≡ text → is_series_name given ≡ false → None ≡ series_name_of text
no_name text given is other = rw (ap is_series_name (sym is) ∙ other) refl

-- the first bytes of an array that was zeros are the name, and zeros follow it
laid_out : (name laid zeros : List ℕ) → laid ≡ name → zeros ≡ replicate 32 0 → IsTrue (is_series_name name) →
    (padded (take (length name) (laid ++ drop (length name) zeros)) ≡ laid ++ drop (length name) zeros)
    × (length (take (length name) (laid ++ drop (length name) zeros)) ≡ length name)
    × IsTrue (is_series_name (take (length name) (laid ++ drop (length name) zeros)))
laid_out name laid zeros same all_zeros is_name =
    let front : take (length name) (laid ++ drop (length name) zeros) ≡ name = rw same (take-append_seam name (drop (length name) zeros)) in
    let behind : drop (length name) zeros ≡ replicate (32 - length name) 0 = ap (drop (length name)) all_zeros ∙ drop-replicate (length name) 32 0 in
    let whole : padded name ≡ laid ++ drop (length name) zeros = rw (same, behind) refl in
    (ap padded front ∙ whole, ap length front, rw front is_name)

pub invariant_of-result : goal.invariant_of-result
invariant_of-result c =
    let few : 0 < length c.as_bytes-given.result.now = grind (arith, nat_tests, c.if-is_empty.ensures, c.is_empty.ensures) in
    let all : list_all is_name_byte c.as_bytes-given.result.now ≡ true = sym c.if-not-are_name_bytes.ensures in
    let is_name : IsTrue (is_series_name c.as_bytes-given.result.now) = grind (arith, nat_tests, all, few) in
    laid_out c.as_bytes-given.result.now _ _ c.copy_from_slice.ensures.after refl is_name

pub returns-then-is_empty : goal.returns-then-is_empty
returns-then-is_empty c =
    let given = c.as_bytes-given.result.now in
    let other : is_series_name given ≡ false = elim c.then-is_empty.branch [
      | then-is_empty-via-then-is_empty w ↦ too_short given (sym w.if-is_empty.ensures)
      | then-is_empty-via-else-is_empty+then-given-gt32 w ↦ too_long given w.if-given-gt32.true
      | then-is_empty-via-else-is_empty+else-given-gt32+then-not-are_name_bytes w ↦ wrong_byte given (sym w.if-not-are_name_bytes.ensures)
    ] in
    no_name c.args.text.now given c.as_bytes-given.ensures.value other
