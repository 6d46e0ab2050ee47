-- The fields of records that are written are UTF-8: they were tried for it, or are ASCII.
use Rattle.std.proofs.Common.{◌≡◌, ◌<◌, ℕ, Bool, true, false, List, [], ◌∷◌, ◌++◌, Option, Some, None, IsUtf8, refl, ◌∙◌, arith}
use Rattle.std.specs.Prelude.{◌&&◌, ◌==◌, if◌then◌else◌, option_map, codes}
use Rattle.std.specs.Char.{is_ascii, is_ascii_uppercase}
use Rattle.std.specs.List.{list_all}
use Rattle.std.specs.Str.{is_utf8}
use Rattle.std.proofs.lemmas.Bool.{and_from, and_parts, eqb-true, ltb-true}
use Rattle.std.proofs.lemmas.List.Folds.{list_all-append}
use Rattle.std.proofs.lemmas.Option.{cond_some}
use Rattle.std.proofs.lemmas.Str.{IsUtf8-append, IsUtf8-from_ascii, IsUtf8-nil, is_utf8-from_IsUtf8}
use Rattle.std.proofs.lemmas.Str.Ascii.{IsAscii-cons, IsAscii-nil}
use Rattle.onix_records.specs.Fields.{territory_fields}
use Rattle.onix_terms.specs.Territory.{codes_in, countries_of, countries_text, ends_code, territory_of, world_of, world_text}
use Rattle.onix_terms.specs.declared.territory.Territory.{Territory}
use Rattle.onix_terms.proofs.AsciiTexts.{capitals-ascii}
use Rattle.onix_terms.proofs.CodeOrder.{from-codes, has-fields}

-- each field of each record is UTF-8
abbrev pub are_utf8 : List (List (List ℕ)) → Bool
are_utf8 records = list_all (list_all is_utf8) records

pub utf8-joined : (a b : List (List (List ℕ))) → are_utf8 a ≡ true → are_utf8 b ≡ true → are_utf8 (a ++ b) ≡ true
utf8-joined a b these those = list_all-append (list_all is_utf8) a b ∙ and_from (are_utf8 a) (are_utf8 b) these those

pub utf8-first : (fields : List (List ℕ)) (records : List (List (List ℕ))) → list_all is_utf8 fields ≡ true → are_utf8 records ≡ true → are_utf8 (fields ∷ records) ≡ true
utf8-first fields records one others = and_from (list_all is_utf8 fields) (are_utf8 records) one others

pub ascii-then : (b : ℕ) (text : List ℕ) → b < 128 → IsUtf8 text → IsUtf8 (b ∷ text)
ascii-then b text small u = IsUtf8-append (b ∷ []) text (IsUtf8-from_ascii (b ∷ []) (IsAscii-cons b [] small IsAscii-nil)) u

ascii-utf8 : (text : List ℕ) → list_all is_ascii text ≡ true → IsUtf8 text
ascii-utf8 [] all = IsUtf8-nil
ascii-utf8 (b ∷ text) all =
    let p = and_parts (is_ascii b) (list_all is_ascii text) all in
    ascii-then b text (ltb-true b 128 p.0) (ascii-utf8 text p.1)

-- a text of ASCII, as the names of records are
pub ascii-field : (text : List ℕ) → list_all is_ascii text ≡ true → is_utf8 text ≡ true
ascii-field text all = is_utf8-from_IsUtf8 text (ascii-utf8 text all)

-- a record of this name
pub named-utf8 : (name : List ℕ) (fields : List (List ℕ)) → list_all is_ascii name ≡ true → list_all is_utf8 fields ≡ true → list_all is_utf8 (name ∷ fields) ≡ true
named-utf8 name fields plain all = and_from (is_utf8 name) (list_all is_utf8 fields) (ascii-field name plain) all

-- ---- territories

-- codes are letters with spaces between them
codes-by : (a b : ℕ) (rest : List ℕ) (space good : Bool) (after more : Option (List (List ℕ))) → (a == 32) ≡ space → (is_ascii_uppercase a && is_ascii_uppercase b && ends_code rest) ≡ good
    → ((cs : List (List ℕ)) → after ≡ Some cs → IsUtf8 (b ∷ rest)) → ((cs : List (List ℕ)) → more ≡ Some cs → IsUtf8 rest)
    → (found : List (List ℕ)) → (if space then after else if good then option_map (λ cs. (a ∷ b ∷ []) ∷ cs) more else None) ≡ Some found → IsUtf8 (a ∷ b ∷ rest)
codes-by a b rest true good after more s g past next found e = ascii-then a (b ∷ rest) (omega (arith, eqb-true a 32 s)) (past found e)
codes-by a b rest false true after None s g past next found e = absurd cc
codes-by a b rest false true after (Some cs) s g past next found e =
    let code = and_parts (is_ascii_uppercase a && is_ascii_uppercase b) (ends_code rest) g in
    let letters = and_parts (is_ascii_uppercase a) (is_ascii_uppercase b) code.0 in
    ascii-then a (b ∷ rest) (capitals-ascii.below a letters.0) (ascii-then b rest (capitals-ascii.below b letters.1) (next cs refl))
codes-by a b rest false false after more s g past next found e = absurd cc

codes-utf8 : (text : List ℕ) (found : List (List ℕ)) → codes_in text ≡ Some found → IsUtf8 text
unfolding codes_in
codes-utf8 [] found e = IsUtf8-nil
codes-utf8 (a ∷ []) found e = ascii-then a [] (omega (arith, eqb-true a 32 (cond_some (a == 32) [] found e).0)) IsUtf8-nil
codes-utf8 (a ∷ b ∷ rest) found e = codes-by a b rest _ _ (codes_in (b ∷ rest)) (codes_in rest) refl refl (codes-utf8 (b ∷ rest)) (codes-utf8 rest) found e

countries-utf8 : (text : List ℕ) (found : List (List ℕ)) → countries_of text ≡ Some found → is_utf8 text ≡ true
countries-utf8 [] found e = is_utf8-from_IsUtf8 [] IsUtf8-nil
countries-utf8 (b ∷ bs) found e =
    let (cs, are, order, some) = from-codes (codes_in (b ∷ bs)) found e in
    is_utf8-from_IsUtf8 (b ∷ bs) (codes-utf8 (b ∷ bs) cs are)

world-utf8 : (world : Bool) → is_utf8 (world_text world) ≡ true
world-utf8 true = ascii-field (codes "WORLD") refl
world-utf8 false = ascii-field [] refl

-- a territory whose fields are read as one
pub territory-utf8 : (t u : Territory) → territory_of (countries_text t.included) (world_text t.world) (countries_text t.excluded) ≡ Some u → list_all is_utf8 (territory_fields t) ≡ true
territory-utf8 t u is =
    let f = has-fields (countries_of (countries_text t.included)) (world_of (world_text t.world)) (countries_of (countries_text t.excluded)) _ u is in
    and_from _ _ (countries-utf8 (countries_text t.included) u.included f.included_is)
    (and_from _ _ (world-utf8 t.world) (and_from _ _ (countries-utf8 (countries_text t.excluded) u.excluded f.excluded_is) refl))

pub empty-fields : list_all is_utf8 ([] ∷ [] ∷ [] ∷ []) ≡ true
empty-fields = let nil = ascii-field [] refl in and_from _ _ nil (and_from _ _ nil (and_from _ _ nil refl))
