-- The contents of a message are contents: their records, with a header without defaults and the right end, are a message with these contents.
use Rattle.std.proofs.Common.{◌≡◌, ◌≤◌, ◌++◌, ◌∷◌, ◌∙◌, ◌+◌, [], ℕ, List, Option, Some, refl, sym, ap, arith, length, length-append, map}
use Rattle.std.specs.List.{AllByRecursion, flat_map}
use Rattle.std.proofs.lemmas.List.{length-map, map-append}
use Rattle.onix_records.specs.ContentsText.{IsContents, end_record, framed, plain_opening}
use Rattle.onix_records.specs.Grammar.{IsMessage}
use Rattle.onix_records.specs.Message.{message_of}
use Rattle.onix_records.specs.PartRows.{SuppliesHaveDetails, content_rows, detail_rows, product_rows, rows_after, supply_rows}
use Rattle.onix_records.specs.Row.{row_of}
use Rattle.onix_records.specs.Product.{content_records}
use Rattle.onix_records.specs.declared.parts.Header.{Header}
use Rattle.onix_records.specs.declared.parts.Price.{Price}
use Rattle.onix_records.specs.declared.parts.Product.{Product}
use Rattle.onix_records.specs.declared.parts.ProductSupply.{ProductSupply}
use Rattle.onix_records.specs.declared.parts.SupplyDetail.{SupplyDetail}
use Rattle.onix_records.specs.declared.row.Form.TheVariants as form
use Rattle.onix_records.specs.declared.row.Opening.{Opening}
use Rattle.onix_records.specs.declared.row.Row.{Row}
use Rattle.onix_records.specs.declared.row.Row.TheVariants as row
use Rattle.onix_records.proofs.Fronts.{cons-parts, reads-length}
use Rattle.onix_records.proofs.RowParts.{message-meant}
use Rattle.onix_records.proofs.OneText.{content-record-rows, record_of}
use Rattle.onix_records.proofs.RowTexts.{HasCodes, IsContent, end-back, opening-codes, plain, plain-opens, plain_header, row-back}
use Rattle.onix_records.proofs.TermLaws.{TermLaws}

-- The rows of contents are products, supplies, details and prices.

abbrev AllContent : List Row → Type 0
AllContent rows = AllByRecursion IsContent rows

all-append : (rows others : List Row) → AllContent rows → AllContent others → AllContent (rows ++ others)
all-append [] others h g = g
all-append (r ∷ rows) others h g = (h.0, all-append rows others h.1 g)

flat-content : {X : Type 0} (f : X → List Row) → ((x : X) → AllContent (f x)) → (xs : List X) → AllContent (flat_map f xs)
flat-content f each [] = tt
flat-content f each (x ∷ xs) = all-append (f x) (flat_map f xs) (each x) (flat-content f each xs)

prices-content : (ps : List Price) → AllContent (map row.Price ps)
prices-content [] = tt
prices-content (p ∷ ps) = (tt, prices-content ps)

detail-content : (d : SupplyDetail) → AllContent (detail_rows d)
detail-content d = (tt, prices-content d.prices)

supply-content : (s : ProductSupply) → AllContent (supply_rows s)
supply-content s = (tt, flat-content detail_rows detail-content s.details)

product-content : (p : Product) → AllContent (product_rows p)
product-content p = (tt, flat-content supply_rows supply-content p.supplies)

contents-content : (c : List Product) → AllContent (content_rows c)
contents-content c = flat-content product_rows product-content c

rows-back : (w : TermLaws) (o : Opening) (records : List (List (List ℕ))) (rows after : List Row) → HasCodes o.header → AllContent rows → map (row_of o) records ≡ map Some (rows ++ after)
    → map (row_of plain) (map record_of rows) ≡ map Some rows
rows-back w o records [] after h all e = refl
rows-back w o [] (r ∷ rows) after h all e = cc e
rows-back w o (f ∷ records) (r ∷ rows) after h all e =
    let p = cons-parts _ _ _ _ e in
    let first = row-back w o f r h all.0 p.0 in
    let others = rows-back w o records rows after h all.1 p.1 in
    cc (first, others)

framed-message : (w : TermLaws) (c : List Product) → length (content_rows c) ≤ 19998 → map (row_of plain) (content_records c) ≡ map Some (content_rows c) → AllByRecursion SuppliesHaveDetails c
    → IsMessage (framed (content_records c)) plain_header c
unfolding framed
framed-message w c few reads details =
    let records = content_records c in
    let same : length records ≡ length (content_rows c) = ap length (content-record-rows c) ∙ length-map (content_rows c) record_of in
    let count : ℕ = length (plain_opening ∷ records) in
    let counted : count ≡ 1 + length (content_rows c) = omega (arith, same) in
    let l = length-append records (end_record count ∷ []) in
    record {
      within = omega (arith, l, same, few);
      first = plain_opening;
      rest = records ++ end_record count ∷ [];
      split = refl;
      form = form.Two;
      header = plain-opens;
      reads =
          map-append (row_of plain) records (end_record count ∷ [])
          ∙ ap (λ (t : List (Option Row)). t ++ row_of plain (end_record count) ∷ []) reads
          ∙ ap (λ (t : Option Row). map Some (content_rows c) ++ t ∷ []) (end-back w count (omega (arith, counted, few)) ∙ ap (λ (n : ℕ). Some (row.EndMessage n)) counted)
          ∙ sym (map-append Some (content_rows c) (row.EndMessage (1 + length (content_rows c)) ∷ []));
      details = details;
    }

pub contents-back : (w : TermLaws) (records : List (List (List ℕ))) (h : Header) (c : List Product) → message_of records ≡ Some (h, c) → IsContents c
contents-back w records h c e =
    let m = message-meant records h c e in
    let o : Opening = record { form = m.form; header = h } in
    let size : length records ≡ length m.rest + 1 = ap length m.split ∙ omega arith in
    let within = m.within in
    let rows = reads-length o m.rest (rows_after c) m.reads in
    let l = length-append (content_rows c) (row.EndMessage (1 + length (content_rows c)) ∷ []) in
    let back = rows-back w o m.rest (content_rows c) (row.EndMessage (1 + length (content_rows c)) ∷ []) (opening-codes m.first o m.header) (contents-content c) m.reads in
    (plain_header, framed-message w c (omega (arith, size, within, rows, l)) (ap (map (row_of plain)) (content-record-rows c) ∙ back) m.details)
