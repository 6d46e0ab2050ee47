-- The record with which a part begins: how large a message without products is, and that its text is read as its records.
use Rattle.std.proofs.Common.{◌≡◌, ◌≤◌, ℕ, ◌+◌, ◌*◌, Bool, true, false, List, [], ◌∷◌, ◌++◌, map, subst, length, length-append, refl, sym, ap, ◌∙◌, arith, codes, decimal, Some}
use Rattle.std.specs.Prelude.{◌==◌, ◌≢◌, nat_le}
use Rattle.std.specs.Fmt.{digits}
use Rattle.std.specs.List.{list_all, list_any}
use Rattle.std.proofs.lemmas.Bool.{and_parts, le-leb, leb-true}
use Rattle.csv.specs.Reading.{strip_bom}
use Rattle.csv.specs.Writing.{default_writer, escaped, field_text, fields_text, is_blank, needs_byte}
use Rattle.csv_records.specs.RecordTexts.{AllFilled, limit, records_text}
use Rattle.feed_outline.specs.Nodes.{Nodes}
use Rattle.onix_records.specs.Fields.{is_clean}
use Rattle.onix_records.specs.Grammar.{IsMessage}
use Rattle.onix_records.specs.Opening.{opening_of}
use Rattle.onix_records.specs.Row.{row_of}
use Rattle.onix_records.specs.declared.parts.Header.{Header}
use Rattle.onix_records.specs.declared.parts.Product.{Product}
use Rattle.onix_records.specs.declared.row.Opening.{Opening}
use Rattle.onix_records.specs.declared.row.Row.{Row}
use Rattle.feed_mapping.specs.Header.{Heading}
use Rattle.feed_conversion.specs.Conversion.{first_record}
use Rattle.feed_conversion.specs.Messages.{closing_record, fits, message_text}
use Rattle.feed_conversion.proofs.TextLaws.{text_first}

-- ---- how large a record is

escaped_size : (field : List ℕ) → length (escaped default_writer field) ≤ 2 * length field
unfolding escaped
escaped_size [] = omega arith
escaped_size (b ∷ rest) = go (b == 34) refl (escaped_size rest)
  where
    go : (q : Bool) → (b == 34) ≡ q → length (escaped default_writer rest) ≤ 2 * length rest → length (escaped default_writer (b ∷ rest)) ≤ 2 * length (b ∷ rest)
    go true e later = rw e (omega (arith, later))
    go false e later = rw e (omega (arith, later))

field_size : (field : List ℕ) → is_clean field ≡ true → length (field_text default_writer field) ≤ 2050
field_size field clean = go (list_any (needs_byte default_writer) field) refl
  where
    small : length field ≤ 1024
    small = leb-true (length field) 1024 (and_parts (nat_le (length field) 1024) _ clean).0

    go : (q : Bool) → list_any (needs_byte default_writer) field ≡ q → length (field_text default_writer field) ≤ 2050
    go true e = rw e (omega (arith, small, escaped_size field, length-append (escaped default_writer field) (34 ∷ [])))
    go false e = rw e (omega (arith, small))

fields_size : (fields : List (List ℕ)) → list_all is_clean fields ≡ true → length (fields_text default_writer fields) ≤ 2051 * length fields
unfolding fields_text
fields_size [] all = omega arith
fields_size (field ∷ rest) all =
    let p = and_parts (is_clean field) (list_all is_clean rest) all in
    omega (arith, field_size field p.0, fields_size rest p.1, length-append (field_text default_writer field) (fields_text default_writer rest))

-- a record of two fields or more
row_size : (a b : List ℕ) (rest : List (List ℕ)) → list_all is_clean (a ∷ b ∷ rest) ≡ true → length (records_text ((a ∷ b ∷ rest) ∷ [])) ≤ 4102 + 2051 * length rest
unfolding records_text fields_text is_blank
row_size a b rest all =
    let p = and_parts (is_clean a) (list_all is_clean (b ∷ rest)) all in
    let tail = fields_text default_writer (b ∷ rest) in
    omega (
      arith,
      field_size a p.0,
      fields_size (b ∷ rest) p.1,
      length-append (field_text default_writer a) tail,
      length-append (field_text default_writer a ++ tail) (10 ∷ []),
      length-append ((field_text default_writer a ++ tail) ++ (10 ∷ [])) [],
    )

-- ---- a message without products

clean_opening : (name : List ℕ) (fields : List (List ℕ)) (o : Opening) → opening_of (name ∷ fields) ≡ Some o → list_all is_clean (name ∷ fields) ≡ true
unfolding opening_of
clean_opening name fields o says = go (list_all is_clean (name ∷ fields)) refl
  where
    go : (b : Bool) → list_all is_clean (name ∷ fields) ≡ b → list_all is_clean (name ∷ fields) ≡ true
    go true e = e
    go false e = let no = rw e at says in absurd cc

end_size : length (records_text (closing_record 1 ∷ [])) ≤ 4102
unfolding digits
end_size = row_size (codes "EndMessage") (decimal 1) [] refl

pub empty_fits : (h : Heading) (header : Nodes) (before : ℕ) (o : Opening) → opening_of (first_record h header before) ≡ Some o → fits (first_record h header before) [] ≡ true
unfolding fits
empty_fits h header before o says =
    let first = first_record h header before in
    let all = clean_opening (codes "Message") _ o says in
    let one : length (records_text (first ∷ [])) ≤ 22561 = row_size (codes "Message") (codes "2") _ all in
    let texts = ap length (text_first first (closing_record 1 ∷ [])) ∙ length-append (records_text (first ∷ [])) (records_text (closing_record 1 ∷ [])) in
    let size : length (message_text first []) ≤ limit = omega (arith, one, texts, end_size) in
    le-leb (length (message_text first [])) limit size

-- ---- what is read of a text

-- no part begins with a byte order mark
pub no_mark : (h : Heading) (header : Nodes) (before : ℕ) (records : List (List (List ℕ)))
    → strip_bom (records_text (first_record h header before ∷ records)) ≡ records_text (first_record h header before ∷ records)
unfolding records_text strip_bom fields_text is_blank
no_mark h header before records = refl

-- what follows the first
abbrev others : {A : Type 0} → List A → List A
others [] = []
others (x ∷ xs) = xs

filled_rows : (o : Opening) (records : List (List (List ℕ))) (rows : List Row) → map (row_of o) records ≡ map Some rows → AllFilled records
unfolding row_of
filled_rows o [] rows e = tt
filled_rows o (r ∷ records) [] e = absurd cc
filled_rows o ([] ∷ records) (x ∷ rows) e = absurd cc
filled_rows o ((name ∷ fields) ∷ records) (x ∷ rows) e = (λ is. cc is, filled_rows o records rows (ap others e))

opened : (first : List (List ℕ)) (o : Opening) → opening_of first ≡ Some o → first ≢ []
unfolding opening_of
opened [] o says is = cc says
opened (name ∷ fields) o says is = cc is

-- each record of a message has a field
pub filled_message : (records : List (List (List ℕ))) (h : Header) (c : List Product) → IsMessage records h c → AllFilled records
filled_message records h c m = subst (λ (rs : List (List (List ℕ))). AllFilled rs) (sym m.split) (opened m.first _ m.header, filled_rows _ m.rest _ m.reads)
