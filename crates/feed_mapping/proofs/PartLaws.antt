-- The records with which the parts of a message begin, and what a part makes with the records of products.
use Rattle.std.proofs.Common.{◌≡◌, ◌≤◌, ◌<◌, ◌+◌, ℕ, zero, suc, List, [], ◌∷◌, ◌++◌, Bool, true, Option, Some, None, length, refl, sym, ap, ◌∙◌, arith, length-append}
use Rattle.std.specs.Prelude.{◌-◌, ◌*◌, ◌&&◌, nat_lt, Result, Ok, Err, if◌then◌else◌, option_map, codes, decimal}
use Rattle.std.specs.Option.{ok_or}
use Rattle.std.proofs.lemmas.Bool.{and_parts, ltb-true}
use Rattle.std.proofs.lemmas.Option.{cond_some, same_Some}
use Rattle.feed_outline.specs.Composites.{text_in}
use Rattle.feed_outline.specs.Nodes.{Nodes}
use Rattle.onix_records.specs.Grammar.{IsMessage}
use Rattle.onix_records.specs.Opening.{opening_of}
use Rattle.onix_records.specs.PartRows.{content_rows}
use Rattle.onix_records.specs.Row.{row_of}
use Rattle.onix_records.specs.declared.parts.Product.{Product}
use Rattle.onix_records.specs.declared.row.Form.TheVariants as form
use Rattle.onix_records.specs.declared.row.Opening.{Opening}
use Rattle.onix_records.specs.declared.row.Row.TheVariants as row
use Rattle.onix_records.proofs.CleanTexts.{digits-clean}
use Rattle.onix_records.proofs.Fronts.{reads-length}
use Rattle.onix_terms.specs.Digits.{digits_of}
use Rattle.onix_terms.specs.Number.{number_from, number_of}
use Rattle.feed_mapping.specs.Header.{Choices, Heading, ◌>>=◌, added, addressee_pair, first_number, heading_in, message_fields, number_in, given_or, parsed_opening, sender_in}
use Rattle.feed_mapping.specs.Rows.{AreProducts, message_records, numbered, part_record}
use Rattle.feed_mapping.specs.declared.header.HeaderRefusal.{HeaderRefusal}
use Rattle.feed_mapping.specs.declared.header.HeaderRefusal.TheVariants as why
use Rattle.feed_mapping.proofs.OpeningLaws.{form-two, opening-numbered}
use Rattle.feed_mapping.proofs.PriceRows.{cond-then, rows-joined}

-- ---- the number of a part

pub bind-ok : {A B : Type 0} (r : Result A HeaderRefusal) (f : A → Result B HeaderRefusal) (y : B) → (r >>= f) ≡ Ok y → (x : A) × (r ≡ Ok x) × (f x ≡ Ok y)
bind-ok (Err e) f y h = cc h
bind-ok (Ok x) f y h = (x, refl, h)

-- the value, where there is one
abbrev value : {A : Type 0} → Result A HeaderRefusal → Option A
value (Ok x) = Some x
value (Err e) = None

pub some-ok : {A : Type 0} (o : Option A) (e : HeaderRefusal) (x : A) → ok_or o e ≡ Ok x → o ≡ Some x
some-ok None e x h = cc h
some-ok (Some y) e x h = ap value h

within : (n parts last k : ℕ) → number_from (n * parts) ≡ Some last → k < parts → (0 < last - parts + 1 + k) × (last - parts + 1 + k < 1000000000)
within zero parts last k e less =
    let (t, same) = cond_some (nat_lt 0 (zero * parts) && nat_lt (zero * parts) 1000000000) (zero * parts) last e in
    let p = and_parts (nat_lt 0 (zero * parts)) (nat_lt (zero * parts) 1000000000) t in
    let low = ltb-true 0 (zero * parts) p.0 in
    absurd (omega (arith, low))
within (suc n) parts last k e less =
    let (t, same) = cond_some (nat_lt 0 (suc n * parts) && nat_lt (suc n * parts) 1000000000) (suc n * parts) last e in
    let p = and_parts (nat_lt 0 (suc n * parts)) (nat_lt (suc n * parts) 1000000000) t in
    let high = ltb-true (suc n * parts) 1000000000 p.1 in
    (omega arith, omega (arith, high, same, less))

-- the numbers of all parts are such
pub number-within : (c : Choices) (nodes : Nodes) (number k : ℕ) → number_in c nodes ≡ Ok number → k < c.parts → (0 < number + k) × (number + k < 1000000000)
number-within c nodes number k e less =
    let (n, chosen, f) = bind-ok (given_or c.number (added c.offset (text_in (codes "MessageNumber") nodes))) (first_number c.parts) number e in
    let (last, is, g) = bind-ok (ok_or (number_from (n * c.parts)) why.LastNumberTooGreat) _ number f in
    let same : last - c.parts + 1 ≡ number = same_Some _ number (ap value g) in
    rw (← same) (within n c.parts last k (some-ok (number_from (n * c.parts)) why.LastNumberTooGreat last is) less)

-- the record of each part says what that of the first says, but for its number
pub part-says : ((n : ℕ) → n < 1000000000 → digits_of (decimal n) ≡ Some n) → ((n : ℕ) → 0 < n → n < 1000000000 → number_of (decimal n) ≡ Some n)
    → (c : Choices) (header : Nodes) (h : Heading) → heading_in c header ≡ Ok h → (k : ℕ) → k < c.parts
    → opening_of (part_record h header k) ≡ Some (numbered (h.number + k) h.opening)
part-says digits numbers c header h e k less =
    let (s, from, e1) = bind-ok (sender_in c header) _ h e in
    let (a, to, e2) = bind-ok (addressee_pair c header) _ h e1 in
    let (n, number, e3) = bind-ok (number_in c header) _ h e2 in
    let (o, opening, e4) = bind-ok (ok_or (parsed_opening (message_fields s a (decimal n) header)) why.Malformed) _ h e3 in
    let same = same_Some _ h (ap value e4) in
    let (low, high) = number-within c header n k number less in
    let parsed = some-ok (parsed_opening (message_fields s a (decimal n) header)) why.Malformed o opening in
    rw (← same) (opening-numbered s a header (decimal n) (decimal (n + k)) (n + k) o (digits (n + k) high) (numbers (n + k) low high) parsed)

-- a message begins in form 2
pub heading-form : (c : Choices) (header : Nodes) (h : Heading) → heading_in c header ≡ Ok h → h.opening.form ≡ form.Two
heading-form c header h e =
    let (s, from, e1) = bind-ok (sender_in c header) _ h e in
    let (a, to, e2) = bind-ok (addressee_pair c header) _ h e1 in
    let (n, number, e3) = bind-ok (number_in c header) _ h e2 in
    let (o, opening, e4) = bind-ok (ok_or (parsed_opening (message_fields s a (decimal n) header)) why.Malformed) _ h e3 in
    let same = same_Some _ h (ap value e4) in
    let parsed = some-ok (parsed_opening (message_fields s a (decimal n) header)) why.Malformed o opening in
    let (_, says) = cond-then _ _ o parsed in
    ap (λ (x : Heading). x.opening.form) (sym same) ∙ form-two _ o says

-- ---- a message

end-row : (o : Opening) (count : List ℕ) (n : ℕ) → digits_of count ≡ Some n → row_of o (codes "EndMessage" ∷ count ∷ []) ≡ Some (row.EndMessage n)
unfolding row_of
end-row o count n is = ap (λ (t : Bool). if t && true then option_map row.EndMessage (digits_of count) else None) (digits-clean count n is) ∙ ap (option_map row.EndMessage) is

-- the records of products are a message with a first and a last record, where they are not too many
pub products-message : ((n : ℕ) → n < 1000000000 → digits_of (decimal n) ≡ Some n)
    → (o : Opening) (first : List (List ℕ)) (records : List (List (List ℕ))) (products : List Product) → opening_of first ≡ Some o → AreProducts o records products
    → length (message_records first records) ≤ 20000 → IsMessage (message_records first records) o.header products
products-message digits o first records products says are small =
    let size : length (content_rows products) ≡ length records = reads-length o records (content_rows products) are.reads in
    let joined = length-append records ((codes "EndMessage" ∷ decimal (1 + length records) ∷ []) ∷ []) in
    let last : row_of o (codes "EndMessage" ∷ decimal (1 + length records) ∷ []) ≡ Some (row.EndMessage (1 + length (content_rows products))) =
    end-row o (decimal (1 + length records)) (1 + length records) (digits (1 + length records) (omega (arith, small, joined))) ∙ ap (λ k. Some (row.EndMessage (1 + k))) (sym size) in
    record {
      within = small;
      first = first;
      rest = records ++ (codes "EndMessage" ∷ decimal (1 + length records) ∷ []) ∷ [];
      split = refl;
      form = o.form;
      header = says;
      reads = rows-joined o records ((codes "EndMessage" ∷ decimal (1 + length records) ∷ []) ∷ []) (content_rows products) (row.EndMessage (1 + length (content_rows products)) ∷ []) are.reads (ap (λ r. r ∷ []) last);
      details = are.details;
    }
