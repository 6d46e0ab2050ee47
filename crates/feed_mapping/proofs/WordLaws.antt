-- The words of a text, one after the other.
use Rattle.std.proofs.Common.{◌≡◌, ◌≤◌, ℕ, Bool, true, false, List, [], ◌∷◌, Option, Some, None, length, ◌++◌, append-nil, drop, refl, ap, ◌∙◌, arith}
use Rattle.std.specs.Prelude.{◌==◌, filter, nat_lt, if◌then◌else◌}
use Rattle.std.specs.List.{after_first, before_first, position_or_len, slice_split}
use Rattle.std.proofs.lemmas.Bool.{lt-ltb, ltb-true, ltb-false}
use Rattle.std.proofs.lemmas.List.Concat.{flat_map-cons}
use Rattle.std.proofs.lemmas.List.Splits.{slice_split_first, slice_split_none}
use Rattle.std.proofs.lemmas.List.Sums.{fails_before_first}
use Rattle.onix_terms.specs.Territory.{countries_text, words_of}
use Rattle.feed_mapping.specs.Regions.{first_space, front_to, rest_from, spaced}

-- a word before others, unless it is empty
abbrev pub with_word : List ℕ → List (List ℕ) → List (List ℕ)
with_word [] words = words
with_word (b ∷ word) words = (b ∷ word) ∷ words

-- a word that is not empty is the first
pub word-first : (word : List ℕ) (words : List (List ℕ)) → (length word == 0) ≡ false → with_word word words ≡ word ∷ words
word-first [] words some = cc
word-first (b ∷ word) words some = refl

filled-first : (front : List ℕ) (parts : List (List ℕ)) →
    filter (λ word. nat_lt 0 (length word)) (front ∷ parts) ≡ with_word front (filter (λ word. nat_lt 0 (length word)) parts)
filled-first [] parts = refl
filled-first (b ∷ front) parts = let some : nat_lt 0 (length (b ∷ front)) ≡ true = lt-ltb 0 (length (b ∷ front)) (omega arith) in rw some refl

-- the words of a text are what stands before its first space, unless that is nothing, and the words behind it
pub words-cut : (text : List ℕ) → words_of text ≡ with_word (front_to (first_space text) text) (words_of (rest_from (first_space text) text))
words-cut text = go (nat_lt (position_or_len is_blank text) (length text)) refl
  where
    is_blank : ℕ → Bool
    is_blank b = b == 32

    found : Bool → Option ℕ
    found t = if t then Some (position_or_len is_blank text) else None

    go : (t : Bool) → nat_lt (position_or_len is_blank text) (length text) ≡ t → words_of text ≡ with_word (front_to (found t) text) (words_of (rest_from (found t) text))
    go true some =
        ap (filter (λ word. nat_lt 0 (length word))) (slice_split_first is_blank text 0 (ltb-true _ _ some))
        ∙ filled-first (before_first is_blank text) (slice_split is_blank (after_first is_blank text))
    go false none =
        let least : length text ≤ position_or_len is_blank text = ltb-false _ _ none in
        ap (filter (λ word. nat_lt 0 (length word)))
        (slice_split_none is_blank text (λ k d short. fails_before_first is_blank text k d (omega (arith, least))))
        ∙ filled-first text []

spaced-is : (word : List ℕ) (words : List (List ℕ)) → spaced (word ∷ words) ≡ 32 ∷ countries_text (word ∷ words)
spaced-is word [] = flat_map-cons (λ (w : List ℕ). 32 ∷ w) word [] ∙ ap (λ (t : List ℕ). 32 ∷ t) (append-nil word)
spaced-is word (next ∷ words) = flat_map-cons (λ (w : List ℕ). 32 ∷ w) word (next ∷ words) ∙ ap (λ (t : List ℕ). 32 ∷ (word ++ t)) (spaced-is next words)

-- words that each stand behind a space are joined by spaces behind the first one
pub spaced-joined : (words : List (List ℕ)) → drop 1 (spaced words) ≡ countries_text words
spaced-joined [] = refl
spaced-joined (word ∷ words) = ap (drop 1) (spaced-is word words)
