-- Codes put in order are those that were given, so a territory has the countries that its fields name.
use Rattle.std.proofs.Common.{◌≡◌, ◌∙◌, ℕ, zero, suc, List, [], ◌∷◌, Bool, true, false, Option, Some, None, refl, sym, ap, subst, arith, inl, inr}
use Rattle.std.specs.Prelude.{◌↔◌, ◌⊎◌, ◌&&◌, ◌==◌, Contains, fold, if◌then◌else◌, option_map}
use Rattle.std.specs.Char.{is_ascii_uppercase}
use Rattle.std.specs.Cmp.Lexicographic.{same_text}
use Rattle.std.specs.Str.{bytes_eq}
use Rattle.std.proofs.lemmas.Bool.{and_parts}
use Rattle.std.proofs.lemmas.Bool.Decides.{nat_tests}
use Rattle.std.proofs.lemmas.List.Elements.{All-contains, All-contains_itself, All-from_recursion, recursion_from_All}
use Rattle.std.proofs.lemmas.Option.{cond_some, same_Some}
use Rattle.onix_terms.specs.Territory.{codes_in, comes_before, countries_of, ends_code, in_order, territory_of, with_code, words_of, world_of}
use Rattle.onix_terms.specs.declared.territory.Territory.{Territory}
use Rattle.onix_terms.proofs.CodeOrder.{all-fold, from-codes, has-fields, placed}

none-there : (c : List ℕ) → Contains [] c → ⊥
none-there c (k, short, is) = omega arith

first : (x c : List ℕ) (xs : List (List ℕ)) → x ≡ c → Contains (x ∷ xs) c
first x c xs is = (0, omega arith, is)

behind : (x c : List ℕ) (xs : List (List ℕ)) → Contains xs c → Contains (x ∷ xs) c
behind x c xs (k, short, is) = (suc k, omega arith, is)

either : (x c : List ℕ) (xs : List (List ℕ)) → Contains (x ∷ xs) c → (x ≡ c) ⊎ Contains xs c
either x c xs (zero, short, is) = inl is
either x c xs (suc k, short, is) = inr (k, omega arith, is)

-- a code that is put in is there
new-placed : (same before : Bool) (code x : List ℕ) (xs rest : List (List ℕ)) → (same ≡ true → code ≡ x) → Contains rest code → Contains (placed same before code x xs rest) code
new-placed true before code x xs rest same more = first x code xs (sym (same refl))
new-placed false true code x xs rest same more = first code code (x ∷ xs) refl
new-placed false false code x xs rest same more = behind x code rest more

new-there : (code : List ℕ) (codes : List (List ℕ)) → Contains (with_code codes code) code
unfolding with_code
new-there code [] = first code code [] refl
new-there code (x ∷ xs) = new-placed (bytes_eq code x) (comes_before code x) code x xs (with_code xs code) (λ e. same_text code x (sym e)) (new-there code xs)

-- and what was there before stays
old-placed : (same before : Bool) (code x c : List ℕ) (xs rest : List (List ℕ)) → Contains (x ∷ xs) c → (Contains xs c → Contains rest c) → Contains (placed same before code x xs rest) c
old-placed true before code x c xs rest there more = there
old-placed false true code x c xs rest there more = behind code c (x ∷ xs) there
old-placed false false code x c xs rest there more = elim (either x c xs there) [ inl is ↦ first x c rest is | inr later ↦ behind x c rest (more later) ]

old-there : (code c : List ℕ) (codes : List (List ℕ)) → Contains codes c → Contains (with_code codes code) c
unfolding with_code
old-there code c [] there = absurd (none-there c there)
old-there code c (x ∷ xs) there = old-placed (bytes_eq code x) (comes_before code x) code x c xs (with_code xs code) there (old-there code c xs)

all-there : (more codes : List (List ℕ)) (c : List ℕ) → Contains codes c ⊎ Contains more c → Contains (fold with_code codes more) c
all-there [] codes c (inl there) = there
all-there [] codes c (inr there) = absurd (none-there c there)
all-there (code ∷ more) codes c (inl there) = all-there more (with_code codes code) c (inl (old-there code c codes there))
all-there (code ∷ more) codes c (inr there) = elim (either code c more there) [
  | inl is ↦ all-there more (with_code codes code) c (inl (subst (λ (x : List ℕ). Contains (with_code codes code) x) is (new-there code codes)))
  | inr later ↦ all-there more (with_code codes code) c (inr later)
]

-- codes in order are the codes
pub ordered : (codes : List (List ℕ)) (c : List ℕ) → Contains (in_order codes) c ↔ Contains codes c
ordered codes c =
    let all = all-fold (Contains codes) codes [] (recursion_from_All (Contains codes) codes (All-contains_itself codes)) tt in
    (All-contains (Contains codes) (in_order codes) c (All-from_recursion (Contains codes) (in_order codes) all), λ there. all-there codes [] c (inr there))

-- ---- the codes of a text are its words

word-space : (a : ℕ) (rest : List ℕ) → (a == 32) ≡ true → words_of (a ∷ rest) ≡ words_of rest
word-space a rest space = rw space refl

word-code : (a b : ℕ) (rest : List ℕ) → (a == 32) ≡ false → (b == 32) ≡ false → ends_code rest ≡ true → words_of (a ∷ b ∷ rest) ≡ (a ∷ b ∷ []) ∷ words_of rest
word-code a b [] first second ends = rw (first, second) refl
word-code a b (c ∷ rest) first second ends = rw (first, second, ends) refl

words-by : (a b : ℕ) (rest : List ℕ) (space good : Bool) (after more : Option (List (List ℕ))) → (a == 32) ≡ space → (is_ascii_uppercase a && is_ascii_uppercase b && ends_code rest) ≡ good →
    ((cs : List (List ℕ)) → after ≡ Some cs → words_of (b ∷ rest) ≡ cs) → ((cs : List (List ℕ)) → more ≡ Some cs → words_of rest ≡ cs) →
    (codes : List (List ℕ)) → (if space then after else if good then option_map (λ cs. (a ∷ b ∷ []) ∷ cs) more else None) ≡ Some codes → words_of (a ∷ b ∷ rest) ≡ codes
words-by a b rest true good after more s g past next codes e = word-space a (b ∷ rest) s ∙ past codes e
words-by a b rest false true after None s g past next codes e = cc
words-by a b rest false true after (Some cs) s g past next codes e =
    let code = and_parts (is_ascii_uppercase a && is_ascii_uppercase b) (ends_code rest) g in
    let letters = and_parts (is_ascii_uppercase a) (is_ascii_uppercase b) code.0 in
    let second : (b == 32) ≡ false = grind (arith, nat_tests, letters.1) in
    word-code a b rest s second code.1 ∙ ap (λ w. (a ∷ b ∷ []) ∷ w) (next cs refl) ∙ same_Some ((a ∷ b ∷ []) ∷ cs) codes e
words-by a b rest false false after more s g past next codes e = cc

codes-words : (text : List ℕ) (codes : List (List ℕ)) → codes_in text ≡ Some codes → words_of text ≡ codes
unfolding codes_in
codes-words [] codes e = same_Some [] codes e
codes-words (a ∷ []) codes e = let space = cond_some (a == 32) [] codes e in word-space a [] space.0 ∙ space.1
codes-words (a ∷ b ∷ rest) codes e = words-by a b rest _ _ (codes_in (b ∷ rest)) (codes_in rest) refl refl (codes-words (b ∷ rest)) (codes-words rest) codes e

-- ---- the countries of a field are its words

codes-of : (field : List ℕ) (found : List (List ℕ)) → countries_of field ≡ Some found → (codes : List (List ℕ)) × (words_of field ≡ codes) × (in_order codes ≡ found)
codes-of [] found e = ([], refl, same_Some [] found e)
codes-of (b ∷ bs) found e = let (codes, are, order, _) = from-codes (codes_in (b ∷ bs)) found e in (codes, codes-words (b ∷ bs) codes are, order)

countries-named : (field : List ℕ) (found : List (List ℕ)) → countries_of field ≡ Some found → (country : List ℕ) → Contains found country ↔ Contains (words_of field) country
countries-named field found e country = let (codes, are, order) = codes-of field found e in rw (← order, are) (ordered codes country)

pub territory-named : (included regions excluded : List ℕ) (t : Territory) → territory_of included regions excluded ≡ Some t →
    ((country : List ℕ) → Contains t.included country ↔ Contains (words_of included) country) × ((country : List ℕ) → Contains t.excluded country ↔ Contains (words_of excluded) country)
territory-named included regions excluded t is =
    let f = has-fields (countries_of included) (world_of regions) (countries_of excluded) _ t is in
    (countries-named included t.included f.included_is, countries-named excluded t.excluded f.excluded_is)
