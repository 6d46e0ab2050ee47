-- The records of contents each have a field, so that their text is read as these records.
use Rattle.std.proofs.Common.{◌≡◌, ◌∷◌, ◌++◌, ◌∙◌, [], ℕ, List, false, Option, Result, Ok, Err, IfOk, refl, sym, ap, map}
use Rattle.std.specs.Prelude.{◌==◌}
use Rattle.std.specs.List.{flat_map}
use Rattle.csv.specs.Reading.{strip_bom}
use Rattle.csv_records.specs.RecordTexts.{AllFilled, records_of, records_text}
use Rattle.onix_terms.specs.declared.party.Party.{Party}
use Rattle.onix_records.specs.ContentsText.{contents_text}
use Rattle.onix_records.specs.Detail.{detail_records}
use Rattle.onix_records.specs.Price.{price_record}
use Rattle.onix_records.specs.Product.{content_records, product_records}
use Rattle.onix_records.specs.Supply.{supplies_records, supply_records}
use Rattle.onix_records.specs.declared.parts.Price.{Price}
use Rattle.onix_records.specs.declared.parts.Product.{Product}
use Rattle.onix_records.specs.declared.parts.ProductSupply.{ProductSupply}
use Rattle.onix_records.specs.declared.parts.SupplyDetail.{SupplyDetail}
use Rattle.desk_export.specs.MessageRecords.{framed_by, message_record, message_records}

abbrev Record : Type 0
Record = List (List ℕ)

-- what the law of one text of records says
abbrev pub ReadLaw : Type 0
ReadLaw = (rows : List Record) → AllFilled rows → strip_bom (records_text rows) ≡ records_text rows → records_of (records_text rows) ≡ rows

-- no byte order mark
pub strip_first : (a : ℕ) (xs : List ℕ) → (a == 239) ≡ false → strip_bom (a ∷ xs) ≡ a ∷ xs
unfolding strip_bom
strip_first a [] e = refl
strip_first a (b ∷ []) e = refl
strip_first a (b ∷ c ∷ rest) e = rw e refl

pub filled_append : (xs ys : List Record) → AllFilled xs → AllFilled ys → AllFilled (xs ++ ys)
filled_append [] ys h g = g
filled_append (x ∷ xs) ys h g = (h.0, filled_append xs ys h.1 g)

flat_filled : {X : Type 0} (f : X → List Record) → ((x : X) → AllFilled (f x)) → (xs : List X) → AllFilled (flat_map f xs)
flat_filled f each [] = tt
flat_filled f each (x ∷ xs) = filled_append (f x) (flat_map f xs) (each x) (flat_filled f each xs)

filled_prices : (ps : List Price) → AllFilled (map price_record ps)
filled_prices [] = tt
filled_prices (p ∷ ps) = (λ e. absurd cc, filled_prices ps)

filled_detail : (d : SupplyDetail) → AllFilled (detail_records d)
unfolding detail_records
filled_detail d = (λ e. absurd cc, filled_prices d.prices)

filled_supply : (s : ProductSupply) → AllFilled (supply_records s)
unfolding supply_records
filled_supply s = (λ e. absurd cc, flat_filled detail_records filled_detail s.details)

filled_product : (p : Product) → AllFilled (product_records p)
unfolding product_records supplies_records
filled_product p = (λ e. absurd cc, flat_filled supply_records filled_supply p.supplies)

pub filled_contents : (c : List Product) → AllFilled (content_records c)
unfolding content_records
filled_contents c = flat_filled product_records filled_product c

unmarked : (c : List Product) → strip_bom (records_text (content_records c)) ≡ records_text (content_records c)
unfolding content_records product_records records_text strip_bom
unmarked [] = refl
unmarked (p ∷ c) = strip_first 80 _ refl

-- so their text is read as the records of these contents
pub contents_read : ReadLaw → (c : List Product) (text : List ℕ) → contents_text c ≡ text → records_of text ≡ content_records c
unfolding contents_text
contents_read law c text is = ap records_of (sym is) ∙ law (content_records c) (filled_contents c) (unmarked c)

-- and the records of a message, made of that text, are those of these contents
pub message_made : ReadLaw → (sender : Party) (addressee : Option Party) (n : ℕ) (text : List ℕ) (whole : List Record) → whole ≡ framed_by (message_record sender addressee n) (records_of text)
    → (c : List Product) → contents_text c ≡ text → whole ≡ message_records sender addressee n c
unfolding message_records
message_made law sender addressee n text whole framed c is = framed ∙ ap (framed_by (message_record sender addressee n)) (contents_read law c text is)

pub if_ok : {A E : Type 0} {P Q : A → Type 0} (r : Result A E) → ((a : A) → P a → Q a) → IfOk r P → IfOk r Q
if_ok (Ok a) f p = f a p
if_ok (Err e) f p = tt
