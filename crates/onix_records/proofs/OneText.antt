-- Contents have one text each, which is read again.
use Rattle.std.proofs.Common.{◌≡◌, ◌≢◌, ◌++◌, ◌∷◌, ◌∙◌, [], ℕ, List, Option, Some, true, false, refl, sym, ap, map, subst, arith, length, length-append, ◌≤◌}
use Rattle.std.specs.Prelude.{◌==◌}
use Rattle.std.specs.Cmp.Lexicographic.{bytes_decides}
use Rattle.std.specs.List.{flat_map}
use Rattle.std.specs.Str.{bytes_eq}
use Rattle.std.proofs.lemmas.List.{length-map, map-append}
use Rattle.std.proofs.lemmas.Option.{same_Some}
use Rattle.csv.specs.Reading.{strip_bom}
use Rattle.onix_records.specs.ContentsText.{IsContents, contents_text, end_record, framed, plain_opening}
use Rattle.onix_records.specs.Grammar.{IsMessage}
use Rattle.onix_records.specs.PartRows.{content_rows, detail_rows, product_rows, supply_rows}
use Rattle.csv_records.specs.RecordTexts.{AllFilled, records_of, records_text}
use Rattle.onix_records.specs.Detail.{detail_record, detail_records}
use Rattle.onix_records.specs.Price.{price_record}
use Rattle.onix_records.specs.Product.{content_records, product_record, product_records}
use Rattle.onix_records.specs.Supply.{supplies_records, supply_record, supply_records}
use Rattle.onix_records.specs.declared.parts.Header.{Header}
use Rattle.onix_records.specs.declared.parts.Price.{Price}
use Rattle.onix_records.specs.declared.parts.Product.{Product}
use Rattle.onix_records.specs.declared.parts.ProductSupply.{ProductSupply}
use Rattle.onix_records.specs.declared.parts.SupplyDetail.{SupplyDetail}
use Rattle.onix_records.specs.declared.row.Row.{Row}
use Rattle.onix_records.specs.declared.row.Row.TheVariants as row
use Rattle.onix_records.proofs.RowParts.{message-computed}

-- what the law of one text of records says
pub record RecordLaw : Type 0 where
  pub read : (rows : List (List (List ℕ))) → AllFilled rows → strip_bom (records_text rows) ≡ records_text rows → records_of (records_text rows) ≡ rows
  pub only : (rows others : List (List (List ℕ))) → AllFilled rows → AllFilled others → records_text rows ≡ records_text others → rows ≡ others

-- the record of a row of contents
abbrev pub record_of : Row → List (List ℕ)
record_of (row.Message h) = end_record 0
record_of (row.Product p) = product_record p
record_of (row.ProductSupply s) = supply_record s
record_of (row.SupplyDetail d) = detail_record d
record_of (row.Price p) = price_record p
record_of (row.EndMessage n) = end_record n

-- The records of parts are those of their rows.

flat-rows : {X : Type 0} (f : X → List Row) (g : X → List (List (List ℕ))) → ((x : X) → map record_of (f x) ≡ g x) → (xs : List X) → map record_of (flat_map f xs) ≡ flat_map g xs
flat-rows f g same [] = refl
flat-rows f g same (x ∷ xs) =
    map-append record_of (f x) (flat_map f xs)
    ∙ ap (λ (t : List (List (List ℕ))). t ++ map record_of (flat_map f xs)) (same x)
    ∙ ap (λ (t : List (List (List ℕ))). g x ++ t) (flat-rows f g same xs)

prices-rows : (ps : List Price) → map record_of (map row.Price ps) ≡ map price_record ps
prices-rows [] = refl
prices-rows (p ∷ ps) = ap (λ (t : List (List (List ℕ))). price_record p ∷ t) (prices-rows ps)

detail-record-rows : (d : SupplyDetail) → map record_of (detail_rows d) ≡ detail_records d
unfolding detail_records
detail-record-rows d = ap (λ (t : List (List (List ℕ))). detail_record d ∷ t) (prices-rows d.prices)

supply-record-rows : (s : ProductSupply) → map record_of (supply_rows s) ≡ supply_records s
unfolding supply_records
supply-record-rows s = ap (λ (t : List (List (List ℕ))). supply_record s ∷ t) (flat-rows detail_rows detail_records detail-record-rows s.details)

product-record-rows : (p : Product) → map record_of (product_rows p) ≡ product_records p
unfolding product_records supplies_records
product-record-rows p = ap (λ (t : List (List (List ℕ))). product_record p ∷ t) (flat-rows supply_rows supply_records supply-record-rows p.supplies)

pub content-record-rows : (c : List Product) → content_records c ≡ map record_of (content_rows c)
unfolding content_records
content-record-rows c = sym (flat-rows product_rows product_records product-record-rows c)

-- Each record has a field, and none begins with a byte order mark.

filled-row : (r : Row) → record_of r ≢ []
filled-row (row.Message h) e = cc e
filled-row (row.Product p) e = cc e
filled-row (row.ProductSupply s) e = cc e
filled-row (row.SupplyDetail d) e = cc e
filled-row (row.Price p) e = cc e
filled-row (row.EndMessage n) e = cc e

filled-rows : (rows : List Row) → AllFilled (map record_of rows)
filled-rows [] = tt
filled-rows (r ∷ rows) = (filled-row r, filled-rows rows)

filled-contents : (c : List Product) → AllFilled (content_records c)
filled-contents c = rw (content-record-rows c) (filled-rows (content_rows c))

strip-first : (a : ℕ) (xs : List ℕ) → (a == 239) ≡ false → strip_bom (a ∷ xs) ≡ a ∷ xs
unfolding strip_bom
strip-first a [] e = refl
strip-first a (b ∷ []) e = refl
strip-first a (b ∷ c ∷ rest) e = rw e refl

no-mark : (rows : List Row) → strip_bom (records_text (map record_of rows)) ≡ records_text (map record_of rows)
unfolding records_text strip_bom
no-mark [] = refl
no-mark (row.Message h ∷ rows) = strip-first 69 _ refl
no-mark (row.Product p ∷ rows) = strip-first 80 _ refl
no-mark (row.ProductSupply s ∷ rows) = strip-first 80 _ refl
no-mark (row.SupplyDetail d ∷ rows) = strip-first 83 _ refl
no-mark (row.Price p ∷ rows) = strip-first 80 _ refl
no-mark (row.EndMessage n ∷ rows) = strip-first 69 _ refl

unmarked : (c : List Product) → strip_bom (records_text (content_records c)) ≡ records_text (content_records c)
unmarked c = rw (content-record-rows c) (no-mark (content_rows c))

-- the records of the text of contents
pub contents-again : RecordLaw → (c : List Product) → records_of (contents_text c) ≡ content_records c
unfolding contents_text
contents-again law c = law.read (content_records c) (filled-contents c) (unmarked c)

-- a list of records is one message at most
pub one-message : (records : List (List (List ℕ))) (g h : Header) (c d : List Product) → IsMessage records g c → IsMessage records h d → c ≡ d
one-message records g h c d m n =
    let found : ◌≡◌ {A = Option (Header × List Product)} (Some (g, c)) (Some (h, d)) = sym (message-computed records g c m) ∙ message-computed records h d n in
    ap (λ (p : Header × List Product). p.1) (same_Some {A = Header × List Product} (g, c) (h, d) found)

-- contents with the same text are the same
pub one-contents : RecordLaw → (c d : List Product) → IsContents c → IsContents d → contents_text c ≡ contents_text d → c ≡ d
unfolding contents_text
one-contents law c d (h, is_c) (g, is_d) e =
    let same = law.only (content_records c) (content_records d) (filled-contents c) (filled-contents d) e in
    one-message (framed (content_records c)) h g c d is_c (subst (λ (rs : List (List (List ℕ))). IsMessage (framed rs) g d) (sym same) is_d)

-- A text between a header without defaults and the right end.

read-only : RecordLaw → (bytes : List ℕ) (h : Header) (c d : List Product) → IsMessage (framed (records_of bytes)) h c → IsContents d → contents_text d ≡ bytes → c ≡ d
read-only law bytes h c d m (g, is_d) same =
    one-message (framed (records_of bytes)) h g c d m
    (subst (λ (rs : List (List (List ℕ))). IsMessage (framed rs) g d) (sym (contents-again law d) ∙ ap records_of same) is_d)

-- where it is no message, no contents have it
pub read-none : RecordLaw → (bytes : List ℕ) → ((h : Header) (c : List Product) → IsMessage (framed (records_of bytes)) h c → ⊥) → (c : List Product) → IsContents c → contents_text c ≡ bytes → ⊥
read-none law bytes none c (h, is_c) same =
    none h c (subst (λ (rs : List (List (List ℕ))). IsMessage (framed rs) h c) (sym (contents-again law c) ∙ ap records_of same) is_c)

-- where its contents have another text, no contents have it
pub read-other : RecordLaw → (bytes : List ℕ) (h : Header) (c : List Product) → IsMessage (framed (records_of bytes)) h c → bytes_eq (contents_text c) bytes ≡ false
    → (d : List Product) → IsContents d → contents_text d ≡ bytes → ⊥
read-other law bytes h c m other d is_d same =
    let one : contents_text c ≡ bytes = ap contents_text (read-only law bytes h c d m is_d same) ∙ same in
    let equal = (bytes_decides (contents_text c) bytes).1 one in
    cc (other, equal)

-- else its contents have it
pub read-same : (bytes : List ℕ) (c : List Product) → IsContents c → bytes_eq (contents_text c) bytes ≡ true → IsContents c × (contents_text c ≡ bytes)
read-same bytes c is_c equal = (is_c, (bytes_decides (contents_text c) bytes).0 equal)

-- contents have two rows less than a message may have
pub contents-few : (c : List Product) → IsContents c → length (content_rows c) ≤ 19998
unfolding framed
contents-few c (h, m) =
    let records = content_records c in
    let within : length (framed records) ≤ 20000 = m.within in
    let whole = length-append (plain_opening ∷ records) (end_record (length (plain_opening ∷ records)) ∷ []) in
    let rows = ap (λ (t : List (List (List ℕ))). length t) (content-record-rows c) in
    let mapped : length (map record_of (content_rows c)) ≡ length (content_rows c) = length-map (content_rows c) record_of in
    omega (arith, within, whole, rows, mapped)
