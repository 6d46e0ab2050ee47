-- A message is read again from the records that are written of its parties, its number and its contents.
use Rattle.std.proofs.Common.{◌≡◌, ◌+◌, ◌++◌, ◌∷◌, ◌∙◌, [], ℕ, List, Bool, true, false, Option, Some, None, refl, sym, ap, arith, length, map}
use Rattle.std.specs.Prelude.{if◌then◌else◌, option_map, codes, decimal}
use Rattle.std.specs.List.{list_all}
use Rattle.std.specs.Str.{bytes_eq}
use Rattle.std.proofs.lemmas.Bool.{and_from}
use Rattle.std.proofs.lemmas.Option.{same_Some}
use Rattle.onix_terms.specs.Code.{code2_of, currency_of}
use Rattle.onix_terms.specs.Digits.{digits_of}
use Rattle.onix_terms.specs.Number.{number_of}
use Rattle.onix_terms.specs.declared.party.Party.{Party}
use Rattle.onix_records.specs.ContentsText.{IsContents, end_record, framed, plain_opening}
use Rattle.onix_records.specs.Detail.{detail_of}
use Rattle.onix_records.specs.Fields.{is_clean, optional, optional_party, party_of, party_fields}
use Rattle.onix_records.specs.Grammar.{IsMessage}
use Rattle.onix_records.specs.Message.{message_of}
use Rattle.desk_export.specs.MessageRecords.{message_record, message_records, numbered_header}
use Rattle.onix_records.specs.PartRows.{rows_after}
use Rattle.onix_records.specs.Opening.{form_of, opening_fields, opening_from, opening_of}
use Rattle.onix_records.specs.Price.{price_from, price_of}
use Rattle.onix_records.specs.Product.{content_records, product_of}
use Rattle.onix_records.specs.Row.{end_of, message_row, row_of}
use Rattle.onix_records.specs.Supply.{supply_of}
use Rattle.onix_records.specs.declared.parts.Header.{Header}
use Rattle.onix_records.specs.declared.parts.Price.{Price}
use Rattle.onix_records.specs.declared.parts.Product.{Product}
use Rattle.onix_records.specs.declared.row.Form.TheVariants as form
use Rattle.onix_records.specs.declared.row.Opening.{Opening}
use Rattle.onix_records.specs.declared.row.Row.{Row}
use Rattle.onix_records.specs.declared.row.Row.TheVariants as row
use Rattle.onix_records.proofs.CleanTexts.{digits-clean}
use Rattle.onix_records.proofs.FrontRows.{bind-some}
use Rattle.onix_records.proofs.Fronts.{cons-parts, reads-length}
use Rattle.onix_records.proofs.RowParts.{message-computed, message-meant}
use Rattle.desk_export.proofs.FieldLemmas.{NumberLaws, bind-at, clean-parts, mapped-some, optional-some, party-fields, party-same}

abbrev Fields : Type 0
Fields = List (List ℕ)

-- the opening of the text of contents
abbrev plain : Opening
plain = record { form = form.Two; header = record { sender = record { id_type = codes "01"; id_value = codes "x" }; addressee = None; number = None; repeat = None; sent = []; default_type = None; default_currency = None } }

plain-opens : opening_of plain_opening ≡ Some plain
unfolding opening_of opening_fields opening_from
plain-opens = refl

-- what the written record says
abbrev opening : Party → Option Party → ℕ → Opening
opening sender addressee n = record { form = form.Two; header = numbered_header sender addressee n }

-- A record after it is the row that it is behind every record of form 2 without defaults.

price-alike : (s : Party) (d : Option Party) (n : ℕ) (fields : Fields) → price_of (opening s d n) fields ≡ price_of plain fields
unfolding price_of price_from
price-alike s d n [] = refl
price-alike s d n (a ∷ []) = refl
price-alike s d n (a ∷ b ∷ []) = refl
price-alike s d n (a ∷ b ∷ c ∷ []) = refl
price-alike s d n (a ∷ b ∷ c ∷ e ∷ []) = refl
price-alike s d n (a ∷ b ∷ c ∷ e ∷ f ∷ []) = refl
price-alike s d n (a ∷ b ∷ c ∷ e ∷ f ∷ g ∷ []) = refl
price-alike s d n (a ∷ b ∷ c ∷ e ∷ f ∷ g ∷ h ∷ []) = refl
price-alike s d n (a ∷ b ∷ c ∷ e ∷ f ∷ g ∷ h ∷ i ∷ more) = refl

abbrev row_by : Option Price → List ℕ → Fields → Option Row
row_by price name fields =
    if list_all is_clean (name ∷ fields) then
    (if bytes_eq name (codes "Message") then option_map message_row (opening_fields fields)
    else if bytes_eq name (codes "Product") then option_map row.Product (product_of fields)
    else if bytes_eq name (codes "ProductSupply") then option_map row.ProductSupply (supply_of fields)
    else if bytes_eq name (codes "SupplyDetail") then option_map row.SupplyDetail (detail_of fields)
    else if bytes_eq name (codes "Price") then option_map row.Price price
    else if bytes_eq name (codes "EndMessage") then option_map row.EndMessage (end_of fields)
    else None)
    else None

row-alike : (s : Party) (d : Option Party) (n : ℕ) (fields : Fields) → row_of (opening s d n) fields ≡ row_of plain fields
unfolding row_of
row-alike s d n [] = refl
row-alike s d n (name ∷ fields) = ap (λ (p : Option Price). row_by p name fields) (price-alike s d n fields)

rows-alike : (s : Party) (d : Option Party) (n : ℕ) (records : List Fields) → map (row_of (opening s d n)) records ≡ map (row_of plain) records
rows-alike s d n [] = refl
rows-alike s d n (r ∷ records) =
    ap (λ (x : Option Row). x ∷ map (row_of (opening s d n)) records) (row-alike s d n r)
    ∙ ap (λ (xs : List (Option Row)). row_of plain r ∷ xs) (rows-alike s d n records)

-- contents behind a record that says that
written : (s : Party) (d : Option Party) (n : ℕ) (c : List Product) → opening_of (message_record s d n) ≡ Some (opening s d n) → IsContents c → IsMessage (message_records s d n c) (numbered_header s d n) c
unfolding framed message_records
written s d n c opens (h, m) =
    let records = content_records c in
    let rest : List Fields = records ++ end_record (length (plain_opening ∷ records)) ∷ [] in
    let p = cons-parts plain_opening m.first rest m.rest m.split in
    let same : plain ≡ record { form = m.form; header = h } = same_Some {A = Opening} plain (record { form = m.form; header = h }) (sym plain-opens ∙ ap opening_of p.0 ∙ m.header) in
    record {
      within = m.within;
      first = message_record s d n;
      rest = rest;
      split = refl;
      form = form.Two;
      header = opens;
      reads = rows-alike s d n rest ∙ ap (λ (o : Opening). map (row_of o) rest) same ∙ ap (map (row_of (record { form = m.form; header = h }))) p.1 ∙ m.reads;
      details = m.details;
    }

-- The record says the parties and the number of a header that was read.

number-read : (text : List ℕ) (found : Option ℕ) (n : ℕ) → optional number_of text ≡ Some found → found ≡ Some n → number_of text ≡ Some n
number-read [] found n e f = cc (same_Some None found e, f)
number-read (b ∷ bs) found n e f =
    let (x, reads, same) = mapped-some Some (number_of (b ∷ bs)) found e in
    reads ∙ (same ∙ f)

from-again : (w : NumberLaws) (version sender_type sender_value to_type to_value number repeat sent price_type currency : List ℕ) (o : Opening) (n : ℕ)
    → is_clean sender_type ≡ true → is_clean sender_value ≡ true → is_clean to_type ≡ true → is_clean to_value ≡ true
    → opening_from version sender_type sender_value to_type to_value number repeat sent price_type currency ≡ Some o → o.header.number ≡ Some n
    → opening_of (message_record o.header.sender o.header.addressee n) ≡ Some (opening o.header.sender o.header.addressee n)
unfolding opening_of opening_fields opening_from
from-again w version sender_type sender_value to_type to_value number repeat sent price_type currency o n st sv tt_ tv e numbered =
    let (v, _, e1) = bind-some (form_of version) _ o e in
    let (s, reads_s, e2) = bind-some (party_of sender_type sender_value) _ o e1 in
    let (a, reads_a, e3) = bind-some (optional_party to_type to_value) _ o e2 in
    let (m, reads_m, e4) = bind-some (optional number_of number) _ o e3 in
    let (r, _, e5) = bind-some (optional digits_of repeat) _ o e4 in
    let (t, _, e6) = bind-some (optional code2_of price_type) _ o e5 in
    let (c, _, e7) = bind-some (optional currency_of currency) _ o e6 in
    let same = same_Some _ o e7 in
    let is_n : m ≡ Some n = ap (λ (x : Opening). x.header.number) same ∙ numbered in
    let range = w.range number n (number-read number m n reads_m is_n) in
    let p = party-same sender_type sender_value s reads_s in
    let q = party-fields to_type to_value a reads_a in
    let clean_n = digits-clean (decimal n) n (w.digits n range.1) in
    let first : Fields = codes "Message" ∷ codes "2" ∷ sender_type ∷ sender_value ∷ to_type ∷ to_value ∷ decimal n ∷ codes "1" ∷ [] ∷ [] ∷ [] ∷ [] in
    let is_first : message_record s a n ≡ first =
    ap (λ (x : List ℕ). codes "Message" ∷ codes "2" ∷ x ∷ s.id_value ∷ (party_fields a ++ decimal n ∷ codes "1" ∷ [] ∷ [] ∷ [] ∷ [])) p.0
    ∙ ap (λ (x : List ℕ). codes "Message" ∷ codes "2" ∷ sender_type ∷ x ∷ (party_fields a ++ decimal n ∷ codes "1" ∷ [] ∷ [] ∷ [] ∷ [])) p.1
    ∙ ap (λ (x : Fields). codes "Message" ∷ codes "2" ∷ sender_type ∷ sender_value ∷ (x ++ decimal n ∷ codes "1" ∷ [] ∷ [] ∷ [] ∷ [])) q in
    let clean : list_all is_clean first ≡ true = and_from _ _ st (and_from _ _ sv (and_from _ _ tt_ (and_from _ _ tv (and_from _ _ clean_n refl)))) in
    let says : opening_from (codes "2") sender_type sender_value to_type to_value (decimal n) (codes "1") [] [] [] ≡ Some (opening s a n) =
    bind-at _ s _ reads_s ∙ bind-at _ a _ reads_a ∙ bind-at _ (Some n) _ (optional-some number_of (decimal n) n refl (w.number n range.0 range.1)) in
    let opens : opening_of (message_record s a n) ≡ Some (opening s a n) =
    ap opening_of is_first
    ∙ ap (λ (b : Bool). if b then opening_from (codes "2") sender_type sender_value to_type to_value (decimal n) (codes "1") [] [] [] else None) clean
    ∙ says in
    rw (← same) opens

fields-again : (w : NumberLaws) (fields : Fields) (o : Opening) (n : ℕ) → list_all is_clean fields ≡ true → opening_fields fields ≡ Some o → o.header.number ≡ Some n
    → opening_of (message_record o.header.sender o.header.addressee n) ≡ Some (opening o.header.sender o.header.addressee n)
unfolding opening_fields
fields-again w [] o n clean e = cc e
fields-again w (a ∷ []) o n clean e = cc e
fields-again w (a ∷ b ∷ []) o n clean e = cc e
fields-again w (a ∷ b ∷ c ∷ []) o n clean e = cc e
fields-again w (a ∷ b ∷ c ∷ d ∷ []) o n clean e = cc e
fields-again w (a ∷ b ∷ c ∷ d ∷ f ∷ []) o n clean e = cc e
fields-again w (a ∷ b ∷ c ∷ d ∷ f ∷ g ∷ []) o n clean e = cc e
fields-again w (a ∷ b ∷ c ∷ d ∷ f ∷ g ∷ h ∷ []) o n clean e = cc e
fields-again w (a ∷ b ∷ c ∷ d ∷ f ∷ g ∷ h ∷ i ∷ []) o n clean e = cc e
fields-again w (a ∷ b ∷ c ∷ d ∷ f ∷ g ∷ h ∷ i ∷ j ∷ []) o n clean e = cc e
fields-again w (a ∷ b ∷ c ∷ d ∷ f ∷ g ∷ h ∷ i ∷ j ∷ k ∷ []) o n clean e =
    let p1 = clean-parts a (b ∷ c ∷ d ∷ f ∷ g ∷ h ∷ i ∷ j ∷ k ∷ []) clean in
    let p2 = clean-parts b (c ∷ d ∷ f ∷ g ∷ h ∷ i ∷ j ∷ k ∷ []) p1.1 in
    let p3 = clean-parts c (d ∷ f ∷ g ∷ h ∷ i ∷ j ∷ k ∷ []) p2.1 in
    let p4 = clean-parts d (f ∷ g ∷ h ∷ i ∷ j ∷ k ∷ []) p3.1 in
    let p5 = clean-parts f (g ∷ h ∷ i ∷ j ∷ k ∷ []) p4.1 in
    from-again w a b c d f g h i j k o n p2.0 p3.0 p4.0 p5.0 e
fields-again w (a ∷ b ∷ c ∷ d ∷ f ∷ g ∷ h ∷ i ∷ j ∷ k ∷ l ∷ fields) o n clean e = cc e

opening-again : (w : NumberLaws) (first : Fields) (o : Opening) (n : ℕ) → opening_of first ≡ Some o → o.header.number ≡ Some n
    → opening_of (message_record o.header.sender o.header.addressee n) ≡ Some (opening o.header.sender o.header.addressee n)
unfolding opening_of
opening-again w [] o n e numbered = cc e
opening-again w (name ∷ fields) o n e numbered = by-test (list_all is_clean (name ∷ fields)) refl (bytes_eq name (codes "Message")) e
  where
    by-test : (t : Bool) → list_all is_clean (name ∷ fields) ≡ t → (u : Bool) → (if t then (if u then opening_fields fields else None) else None) ≡ Some o
        → opening_of (message_record o.header.sender o.header.addressee n) ≡ Some (opening o.header.sender o.header.addressee n)
    by-test true clean true h = fields-again w fields o n (clean-parts name fields clean).1 h numbered
    by-test true clean false h = cc h
    by-test false clean u h = cc h

pub message-again : (w : NumberLaws) → ((records : List Fields) (h : Header) (c : List Product) → message_of records ≡ Some (h, c) → IsContents c)
    → (records : List Fields) (h : Header) (c : List Product) (n : ℕ) → message_of records ≡ Some (h, c) → h.number ≡ Some n
    → message_of (message_records h.sender h.addressee n c) ≡ Some (numbered_header h.sender h.addressee n, c)
message-again w contents records h c n e numbered =
    let m = message-meant records h c e in
    let opens = opening-again w m.first (record { form = m.form; header = h }) n m.header numbered in
    message-computed _ _ c (written h.sender h.addressee n c opens (contents records h c e))

-- a message has two records more than its contents have rows
count-of : (records : List Fields) (h : Header) (c : List Product) → IsMessage records h c → length records ≡ 1 + length (rows_after c)
count-of records h c m =
    let size : length records ≡ length m.rest + 1 = ap length m.split ∙ omega arith in
    let rows = reads-length (record { form = m.form; header = h }) m.rest (rows_after c) m.reads in
    omega (arith, size, rows)

pub count-again : (w : NumberLaws) → ((records : List Fields) (h : Header) (c : List Product) → message_of records ≡ Some (h, c) → IsContents c)
    → (records : List Fields) (h : Header) (c : List Product) (n : ℕ) → message_of records ≡ Some (h, c) → h.number ≡ Some n
    → length (message_records h.sender h.addressee n c) ≡ length records
count-again w contents records h c n e numbered =
    let came = count-of records h c (message-meant records h c e) in
    let anew = count-of (message_records h.sender h.addressee n c) _ c (message-meant (message_records h.sender h.addressee n c) _ c (message-again w contents records h c n e numbered)) in
    omega (arith, came, anew)
