-- The fields of the first and the last record of a part are UTF-8: they were tried for it, or are ASCII.
use Rattle.std.proofs.Common.{◌≡◌, ◌<◌, ◌≤◌, ◌+◌, ℕ, true, List, [], ◌∷◌, ◌++◌, Option, Some, None, IsUtf8, length, length-append, refl, ap, subst, arith}
use Rattle.std.specs.Prelude.{Result, Ok, Err, codes, decimal}
use Rattle.std.specs.List.{list_all}
use Rattle.std.specs.Option.{ok_or}
use Rattle.std.specs.Str.{is_utf8}
use Rattle.std.proofs.lemmas.Bool.{and_from, and_parts}
use Rattle.std.proofs.lemmas.Fmt.{IsAscii-decimal}
use Rattle.std.proofs.lemmas.Str.{IsUtf8-from_ascii, is_utf8-from_IsUtf8}
use Rattle.feed_outline.specs.Nodes.{Nodes}
use Rattle.onix_records.specs.Grammar.{most_records}
use Rattle.onix_records.specs.Opening.{opening_of}
use Rattle.feed_mapping.specs.Elements.{text_or_empty}
use Rattle.feed_mapping.specs.Header.{Choices, Heading, ◌>>=◌, addressee_pair, heading_in, message_fields, number_in, parsed_opening, repeat_in, sender_in}
use Rattle.feed_mapping.specs.declared.header.HeaderRefusal.{HeaderRefusal}
use Rattle.feed_mapping.specs.declared.header.HeaderRefusal.TheVariants as denied
use Rattle.feed_mapping.proofs.PartLaws.{number-within}
use Rattle.feed_mapping.proofs.PriceRows.{cond-then}
use Rattle.feed_conversion.specs.Conversion.{first_record}
use Rattle.feed_conversion.specs.Messages.{closing_record, message}
use Rattle.feed_conversion.proofs.PartLaws.{value}
use Rattle.feed_conversion.proofs.Utf8Texts.{are_utf8, ascii_utf8, joined_utf8}

-- a record of this name
named : (name : List ℕ) (fields : List (List ℕ)) → IsUtf8 name → list_all is_utf8 fields ≡ true → list_all is_utf8 (name ∷ fields) ≡ true
named name fields u all = and_from (is_utf8 name) (list_all is_utf8 fields) (is_utf8-from_IsUtf8 name u) all

-- one more record at the front
first_one : (fields : List (List ℕ)) (records : List (List (List ℕ))) → list_all is_utf8 fields ≡ true → are_utf8 records ≡ true → are_utf8 (fields ∷ records) ≡ true
first_one fields records one others = and_from (list_all is_utf8 fields) (are_utf8 records) one others

-- ---- the record with which a part begins, and the one that ends it

bind_ok : {A B : Type 0} (r : Result A HeaderRefusal) (f : A → Result B HeaderRefusal) (b : B) → (r >>= f) ≡ Ok b → (a : A) × (r ≡ Ok a) × (f a ≡ Ok b)
bind_ok (Ok a) f b e = (a, refl, e)
bind_ok (Err refusal) f b e = absurd cc

some_ok : {A : Type 0} (o : Option A) (e : HeaderRefusal) (x : A) → ok_or o e ≡ Ok x → o ≡ Some x
some_ok None e x h = absurd cc
some_ok (Some y) e x h = ap Some (ap (value y) h)

-- one field in place of another
replaced : (front : List (List ℕ)) (old new : List ℕ) (back : List (List ℕ)) → is_utf8 new ≡ true → list_all is_utf8 (front ++ old ∷ back) ≡ true → list_all is_utf8 (front ++ new ∷ back) ≡ true
replaced [] old new back is all = and_from (is_utf8 new) (list_all is_utf8 back) is (and_parts (is_utf8 old) (list_all is_utf8 back) all).1
replaced (x ∷ front) old new back is all =
    let p = and_parts (is_utf8 x) (list_all is_utf8 (front ++ old ∷ back)) all in
    and_from (is_utf8 x) (list_all is_utf8 (front ++ new ∷ back)) p.0 (replaced front old new back is p.1)

number_utf8 : (n : ℕ) → n < 1000000000 → is_utf8 (decimal n) ≡ true
number_utf8 n small = is_utf8-from_IsUtf8 (decimal n) (IsUtf8-from_ascii (decimal n) (IsAscii-decimal n (omega (arith, small))))

pub first_utf8 : (c : Choices) (header : Nodes) (h : Heading) → heading_in c header ≡ Ok h → (before : ℕ) → before < c.parts → list_all is_utf8 (first_record h header before) ≡ true
first_utf8 c header h e before less =
    let s = bind_ok (sender_in c header) _ h e in
    let a = bind_ok (addressee_pair c header) _ h s.2 in
    let n = bind_ok (number_in c header) _ h a.2 in
    let fields = message_fields s.0 a.0 (decimal n.0) header in
    let o = bind_ok (ok_or (parsed_opening fields) denied.Malformed) _ h n.2 in
    let all = (cond-then (list_all is_utf8 fields) (opening_of (codes "Message" ∷ fields)) o.0 (some_ok (parsed_opening fields) denied.Malformed o.0 o.1)).0 in
    let front = codes "2" ∷ s.0.id_type ∷ s.0.id_value ∷ a.0.id_type ∷ a.0.id_value ∷ [] in
    let back =
    repeat_in header
    ∷ text_or_empty (codes "SentDateTime") header
    ∷ text_or_empty (codes "DefaultPriceType") header
    ∷ text_or_empty (codes "DefaultCurrencyCode") header
    ∷ [] in
    let now = replaced front (decimal n.0) (decimal (n.0 + before)) back (number_utf8 (n.0 + before) (number-within c header n.0 before n.1 less).1) all in
    subst (λ (k : Heading). list_all is_utf8 (first_record k header before) ≡ true) (ap (value h) o.2)
    (named (codes "Message") (message_fields s.0 a.0 (decimal (n.0 + before)) header) (ascii_utf8 (codes "Message") refl) now)

end_utf8 : (n : ℕ) → n < 1000000000 → list_all is_utf8 (closing_record n) ≡ true
end_utf8 n small = named (codes "EndMessage") (decimal n ∷ []) (ascii_utf8 (codes "EndMessage") refl) (and_from (is_utf8 (decimal n)) true (number_utf8 n small) refl)

-- a message of such records
pub message_utf8 : (first : List (List ℕ)) (records : List (List (List ℕ))) → list_all is_utf8 first ≡ true → are_utf8 records ≡ true → length (message first records) ≤ most_records → are_utf8 (message first records) ≡ true
message_utf8 first records one some few =
    let size = length-append records (closing_record (1 + length records) ∷ []) in
    let end = end_utf8 (1 + length records) (omega (arith, few, size)) in
    first_one first (records ++ closing_record (1 + length records) ∷ []) one (joined_utf8 records (closing_record (1 + length records) ∷ []) some (first_one (closing_record (1 + length records)) [] end refl))
