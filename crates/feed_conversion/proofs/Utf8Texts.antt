-- The text of records is UTF-8 where their fields are.
use Rattle.std.proofs.Common.{◌≡◌, ◌<◌, ◌≤◌, ℕ, suc, Bool, true, false, List, [], ◌∷◌, ◌++◌, length, get_or, IsUtf8, encode_utf8, encode_utf8_all, refl, sym, ap, ◌∙◌, subst, append-nil, arith, inl, inr}
use Rattle.std.specs.Prelude.{◌==◌, if◌then◌else◌}
use Rattle.std.specs.Char.{IsScalar, is_ascii}
use Rattle.std.specs.List.{list_all, list_any}
use Rattle.std.specs.Str.{all_scalars, is_utf8}
use Rattle.std.proofs.lemmas.Bool.{and_from, and_parts, cases_lt, ltb-true, ne_eqb}
use Rattle.std.proofs.lemmas.List.Folds.{list_all-append}
use Rattle.std.proofs.lemmas.Str.{IsUtf8-append, IsUtf8-encode, IsUtf8-from_ascii, IsUtf8-from_is_utf8, IsUtf8-nil, encode_ascii, inside_one}
use Rattle.std.proofs.lemmas.Str.Ascii.{IsAscii-cons, IsAscii-nil}
use Rattle.csv.specs.Writing.{default_writer, escaped, field_text, fields_text, is_blank, needs_byte, row_body, row_text}
use Rattle.csv_records.specs.RecordTexts.{records_text}

-- each field of each record is UTF-8
abbrev pub are_utf8 : List (List (List ℕ)) → Bool
are_utf8 records = list_all (list_all is_utf8) records

pub joined_utf8 : (a b : List (List (List ℕ))) → are_utf8 a ≡ true → are_utf8 b ≡ true → are_utf8 (a ++ b) ≡ true
joined_utf8 a b these those = list_all-append (list_all is_utf8) a b ∙ and_from (are_utf8 a) (are_utf8 b) these those

-- ---- ASCII

-- an ASCII byte before UTF-8
pub ascii_then : (b : ℕ) (text : List ℕ) → b < 128 → IsUtf8 text → IsUtf8 (b ∷ text)
ascii_then b text small u = IsUtf8-append (b ∷ []) text (IsUtf8-from_ascii (b ∷ []) (IsAscii-cons b [] small IsAscii-nil)) u

pub ascii_utf8 : (text : List ℕ) → list_all is_ascii text ≡ true → IsUtf8 text
ascii_utf8 [] all = IsUtf8-nil
ascii_utf8 (b ∷ text) all =
    let p = and_parts (is_ascii b) (list_all is_ascii text) all in
    ascii_then b text (ltb-true b 128 p.0) (ascii_utf8 text p.1)

-- ---- a field in quotes

escaped_append : (xs ys : List ℕ) → escaped default_writer (xs ++ ys) ≡ escaped default_writer xs ++ escaped default_writer ys
unfolding escaped
escaped_append [] ys = refl
escaped_append (b ∷ xs) ys = go (b == 34) refl (escaped_append xs ys)
  where
    go : (q : Bool) → (b == 34) ≡ q → escaped default_writer (xs ++ ys) ≡ escaped default_writer xs ++ escaped default_writer ys
        → escaped default_writer ((b ∷ xs) ++ ys) ≡ escaped default_writer (b ∷ xs) ++ escaped default_writer ys
    go true e later = rw e (ap (λ (l : List ℕ). 34 ∷ b ∷ l) later)
    go false e later = rw e (ap (λ (l : List ℕ). b ∷ l) later)

-- bytes of characters beyond ASCII stand as they are
escaped_high : (xs : List ℕ) → ((k : ℕ) → k < length xs → 128 ≤ get_or xs k 0) → escaped default_writer xs ≡ xs
unfolding escaped
escaped_high [] high = refl
escaped_high (b ∷ xs) high =
    let first : 128 ≤ b = high 0 (omega arith) in
    let other : (b == 34) ≡ false = ne_eqb b 34 (λ e. omega (arith, e, first)) in
    rw other (ap (λ (l : List ℕ). b ∷ l) (escaped_high xs (λ k less. high (suc k) (omega (arith, less)))))

escaped_ascii : (c : ℕ) → c < 128 → IsUtf8 (escaped default_writer (c ∷ []))
unfolding escaped
escaped_ascii c small = go (c == 34) refl
  where
    go : (q : Bool) → (c == 34) ≡ q → IsUtf8 (escaped default_writer (c ∷ []))
    go true e = rw e (ascii_then 34 (c ∷ []) (omega arith) (ascii_then c [] small IsUtf8-nil))
    go false e = rw e (ascii_then c [] small IsUtf8-nil)

escaped_char : (c : ℕ) → IsScalar c → IsUtf8 (escaped default_writer (encode_utf8 c))
escaped_char c is = elim (cases_lt c 128) [
  | inl small ↦ subst (λ (l : List ℕ). IsUtf8 (escaped default_writer l)) (sym (encode_ascii c small)) (escaped_ascii c small)
  | inr big ↦
      let high : (k : ℕ) → k < length (encode_utf8 c) → 128 ≤ get_or (encode_utf8 c) k 0 = λ k below. elim (cases_lt (get_or (encode_utf8 c) k 0) 128) [
        | inl low ↦ absurd (omega (arith, inside_one c [] (encode_utf8 c) k (sym (append-nil _)) below low))
        | inr h ↦ h
      ] in
      subst IsUtf8 (sym (escaped_high (encode_utf8 c) high)) (IsUtf8-encode c is)
]

escaped_chars : (cs : List ℕ) → all_scalars cs ≡ true → IsUtf8 (escaped default_writer (encode_utf8_all cs))
unfolding escaped
escaped_chars [] all = IsUtf8-nil
escaped_chars (c ∷ cs) all =
    let p = and_parts _ (all_scalars cs) all in
    subst IsUtf8 (sym (escaped_append (encode_utf8 c) (encode_utf8_all cs))) (IsUtf8-append _ _ (escaped_char c p.0) (escaped_chars cs p.1))

escaped_utf8 : (field : List ℕ) → IsUtf8 field → IsUtf8 (escaped default_writer field)
escaped_utf8 field u = subst (λ (l : List ℕ). IsUtf8 (escaped default_writer l)) u.1.1 (escaped_chars u.0 u.1.0)

-- ---- records

field_utf8 : (field : List ℕ) → is_utf8 field ≡ true → IsUtf8 (field_text default_writer field)
field_utf8 field is = go (list_any (needs_byte default_writer) field) refl
  where
    own : IsUtf8 field
    own = IsUtf8-from_is_utf8 field is

    go : (q : Bool) → list_any (needs_byte default_writer) field ≡ q → IsUtf8 (field_text default_writer field)
    go true e =
        rw e (ascii_then 34 (escaped default_writer field ++ 34 ∷ []) (omega arith) (IsUtf8-append (escaped default_writer field) (34 ∷ []) (escaped_utf8 field own) (ascii_utf8 (34 ∷ []) refl)))
    go false e = rw e own

fields_utf8 : (fields : List (List ℕ)) → list_all is_utf8 fields ≡ true → IsUtf8 (fields_text default_writer fields)
unfolding fields_text
fields_utf8 [] all = IsUtf8-nil
fields_utf8 (field ∷ rest) all =
    let p = and_parts (is_utf8 field) (list_all is_utf8 rest) all in
    ascii_then 44 (field_text default_writer field ++ fields_text default_writer rest) (omega arith) (IsUtf8-append (field_text default_writer field) (fields_text default_writer rest) (field_utf8 field p.0) (fields_utf8 rest p.1))

body_utf8 : (fields : List (List ℕ)) → list_all is_utf8 fields ≡ true → IsUtf8 (row_body default_writer fields)
body_utf8 [] all = IsUtf8-nil
body_utf8 (field ∷ rest) all =
    let p = and_parts (is_utf8 field) (list_all is_utf8 rest) all in
    IsUtf8-append (field_text default_writer field) (fields_text default_writer rest) (field_utf8 field p.0) (fields_utf8 rest p.1)

row_utf8 : (fields : List (List ℕ)) → list_all is_utf8 fields ≡ true → IsUtf8 (row_text default_writer fields)
row_utf8 fields all = IsUtf8-append (row_body default_writer fields) _ (body_utf8 fields all) (go (is_blank default_writer fields))
  where
    go : (blank : Bool) → IsUtf8 ((if blank then 34 ∷ 34 ∷ [] else []) ++ 10 ∷ [])
    go true = ascii_utf8 (34 ∷ 34 ∷ 10 ∷ []) refl
    go false = ascii_utf8 (10 ∷ []) refl

-- the text of records is UTF-8 where each field is
pub text_utf8 : (records : List (List (List ℕ))) → are_utf8 records ≡ true → IsUtf8 (records_text records)
unfolding records_text
text_utf8 [] all = IsUtf8-nil
text_utf8 (fields ∷ records) all =
    let p = and_parts (list_all is_utf8 fields) (are_utf8 records) all in
    IsUtf8-append (row_text default_writer fields) (records_text records) (row_utf8 fields p.0) (text_utf8 records p.1)
