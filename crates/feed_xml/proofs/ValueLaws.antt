-- The body of a reference in a value, as a loop reads it.
use Rattle.std.proofs.Common.{◌≡◌, ℕ, ◌+◌, ◌<◌, ◌≤◌, ◌≢◌, List, [], ◌∷◌, ◌++◌, Some, None, length, get_or, take, drop, refl, sym, ◌∙◌, add-one, drop-cons}
use Rattle.std.specs.Prelude.{unwrap_or}
use Rattle.std.proofs.lemmas.List.{append-nil, take_more, drop_all, take_all}
use Rattle.std.proofs.lemmas.Bool.{eq-eqb, ne_eqb}
use Rattle.feed_xml.specs.References.{reference_text}
use Rattle.feed_xml.specs.Values.{normalized_from}

abbrev Splits : List ℕ → ℕ → Type 0
Splits bytes at = normalized_from (Some []) bytes ≡ normalized_from (Some (take at bytes)) (drop at bytes)

pub body_more : (bytes : List ℕ) (at : ℕ) → at < length bytes → get_or bytes at 0 ≢ 59 → Splits bytes at → Splits bytes (at + 1)
unfolding normalized_from
body_more bytes at lt other so_far =
    let front : take (at + 1) bytes ≡ take at bytes ++ get_or bytes at 0 ∷ [] = take_more bytes at 0 lt in
    let rest : drop at bytes ≡ get_or bytes at 0 ∷ drop (at + 1) bytes = rw add-one (drop-cons bytes at 0 lt) in
    let one : normalized_from (Some (take at bytes)) (drop at bytes) ≡ normalized_from (Some (take (at + 1) bytes)) (drop (at + 1) bytes) =
    rw (rest, ne_eqb (get_or bytes at 0) 59 other, front) refl in
    so_far ∙ one

pub body_ends : (bytes : List ℕ) (at : ℕ) → at < length bytes → get_or bytes at 0 ≡ 59 → Splits bytes at
    → normalized_from (Some []) bytes ≡ unwrap_or (reference_text (take at bytes)) [] ++ normalized_from None (drop (at + 1) bytes)
unfolding normalized_from
body_ends bytes at lt same so_far =
    let rest : drop at bytes ≡ get_or bytes at 0 ∷ drop (at + 1) bytes = rw add-one (drop-cons bytes at 0 lt) in
    let one : normalized_from (Some (take at bytes)) (drop at bytes) ≡ unwrap_or (reference_text (take at bytes)) [] ++ normalized_from None (drop (at + 1) bytes) =
    rw (rest, eq-eqb (get_or bytes at 0) 59 same) refl in
    so_far ∙ one

pub body_last : (bytes : List ℕ) (at : ℕ) → length bytes ≤ at → Splits bytes at
    → normalized_from (Some []) bytes ≡ unwrap_or (reference_text bytes) [] ++ normalized_from None []
unfolding normalized_from
body_last bytes at le so_far =
    let none : drop at bytes ≡ [] = drop_all at bytes le in
    let all : take at bytes ≡ bytes = take_all at bytes le in
    so_far ∙ rw (none, all) (sym (append-nil (unwrap_or (reference_text bytes) [])))
