-- The records that are made of Prices are their rows.
use Rattle.std.proofs.Common.{◌≡◌, ℕ, List, [], ◌∷◌, ◌++◌, Bool, true, false, Option, Some, None, map, refl, sym, ap, ◌∙◌, subst}
use Rattle.std.specs.Prelude.{if◌then◌else◌, option_map, codes, is_some}
use Rattle.std.specs.List.{list_all}
use Rattle.std.specs.Option.{option_or}
use Rattle.std.specs.Str.{is_utf8}
use Rattle.std.proofs.lemmas.List.{map-append}
use Rattle.std.proofs.lemmas.Option.{same_Some}
use Rattle.onix_records.specs.Detail.{detail_of}
use Rattle.onix_records.specs.Fields.{is_clean}
use Rattle.onix_records.specs.Price.{price_of}
use Rattle.onix_records.specs.Product.{product_of}
use Rattle.onix_records.specs.Row.{row_of}
use Rattle.onix_records.specs.Supply.{supply_of}
use Rattle.onix_records.specs.declared.parts.Price.{Price}
use Rattle.onix_records.specs.declared.parts.Product.{Product}
use Rattle.onix_records.specs.declared.parts.ProductSupply.{ProductSupply}
use Rattle.onix_records.specs.declared.parts.SupplyDetail.{SupplyDetail}
use Rattle.onix_records.specs.declared.row.Opening.{Opening}
use Rattle.onix_records.specs.declared.row.Row.{Row}
use Rattle.onix_records.specs.declared.row.Row.TheVariants as row
use Rattle.feed_mapping.specs.Notes.{Reason, foreign}
use Rattle.feed_mapping.specs.declared.notes.Foreign.TheVariants.{LongTerritory}
use Rattle.feed_mapping.specs.Outcomes.{all_records, nothing, outcome_records}
use Rattle.feed_mapping.specs.PriceTexts.{PriceTexts}
use Rattle.feed_mapping.specs.Prices.{PriceContext, closed_reason, date_reason, early_reasons, free_reason, is_nothing, last_reason, long_reason, outcome_of, price_outcome, price_reasons, record_reason, written_fields}
use Rattle.feed_mapping.specs.Records.{clean, first_some, parsed}
use Rattle.feed_mapping.proofs.Utf8Laws.{are_utf8, named-utf8, utf8-first, utf8-joined}

abbrev pub Records : Type 0
Records = List (List (List ℕ))

-- records are these rows, and UTF-8
pub record Reads (o : Opening) (records : Records) (rows : List Row) : Type 0 where
  pub are : map (row_of o) records ≡ map Some rows
  pub utf8 : are_utf8 records ≡ true

-- ---- what is read of texts

pub cond-then : {A : Type 0} (b : Bool) (x : Option A) (y : A) → (if b then x else None) ≡ Some y → (b ≡ true) × (x ≡ Some y)
cond-then true x y e = (refl, e)
cond-then false x y e = cc e

pub mapped : {A B : Type 0} (x : Option A) (f : A → B) (y : B) → option_map f x ≡ Some y → (z : A) × (x ≡ Some z) × (f z ≡ y)
mapped None f y e = cc e
mapped (Some z) f y e = (z, refl, same_Some (f z) y e)

pub clean-read : {A : Type 0} (read : List (List ℕ) → Option A) (fields : List (List ℕ)) (x : A) → clean read fields ≡ Some x → (list_all is_clean fields ≡ true) × (read fields ≡ Some x)
clean-read read fields x e = cond-then (list_all is_clean fields) (read fields) x e

-- texts of which something is read are UTF-8 and clean
pub record IsSaid {A : Type 0} (read : List (List ℕ) → Option A) (texts : List (List ℕ)) (x : A) : Type 0 where
  pub utf8 : list_all is_utf8 texts ≡ true
  pub clean : list_all is_clean texts ≡ true
  pub is : read texts ≡ Some x

pub said-read : {A : Type 0} (read : List (List ℕ) → Option A) (texts : List (List ℕ)) (x : A) → parsed read texts ≡ Some x → IsSaid read texts x
said-read read texts x e =
    let (u, f) = cond-then (list_all is_utf8 texts) (clean read texts) x e in
    let (c, g) = clean-read read texts x f in
    record { utf8 = u; clean = c; is = g }

pub is-there : {A : Type 0} (x : Option A) → is_some x ≡ true → (y : A) × (x ≡ Some y)
is-there (Some y) e = (y, refl)
is-there None e = cc e

-- ---- one record, as a row

pub product-row : (o : Opening) (fields : List (List ℕ)) (p : Product) → list_all is_clean fields ≡ true → product_of fields ≡ Some p → row_of o (codes "Product" ∷ fields) ≡ Some (row.Product p)
unfolding row_of
product-row o fields p all is = ap (λ (t : Bool). if t then option_map row.Product (product_of fields) else None) all ∙ ap (option_map row.Product) is

pub supply-row : (o : Opening) (fields : List (List ℕ)) (s : ProductSupply) → list_all is_clean fields ≡ true → supply_of fields ≡ Some s → row_of o (codes "ProductSupply" ∷ fields) ≡ Some (row.ProductSupply s)
unfolding row_of
supply-row o fields s all is = ap (λ (t : Bool). if t then option_map row.ProductSupply (supply_of fields) else None) all ∙ ap (option_map row.ProductSupply) is

pub detail-row : (o : Opening) (fields : List (List ℕ)) (d : SupplyDetail) → list_all is_clean fields ≡ true → detail_of fields ≡ Some d → row_of o (codes "SupplyDetail" ∷ fields) ≡ Some (row.SupplyDetail d)
unfolding row_of
detail-row o fields d all is = ap (λ (t : Bool). if t then option_map row.SupplyDetail (detail_of fields) else None) all ∙ ap (option_map row.SupplyDetail) is

pub price-row : (o : Opening) (fields : List (List ℕ)) (p : Price) → list_all is_clean fields ≡ true → price_of o fields ≡ Some p → row_of o (codes "Price" ∷ fields) ≡ Some (row.Price p)
unfolding row_of
price-row o fields p all is = ap (λ (t : Bool). if t then option_map row.Price (price_of o fields) else None) all ∙ ap (option_map row.Price) is

-- ---- rows one after the other

pub map-joined : (o : Opening) (a b : Records) (xs ys : List Row) → map (row_of o) a ≡ map Some xs → map (row_of o) b ≡ map Some ys → map (row_of o) (a ++ b) ≡ map Some (xs ++ ys)
map-joined o a b xs ys e f =
    map-append (row_of o) a b ∙ ap (λ (k : List (Option Row)). k ++ map (row_of o) b) e ∙ ap (λ (k : List (Option Row)). map Some xs ++ k) f ∙ sym (map-append Some xs ys)

pub rows-joined : (o : Opening) (a b : Records) (xs ys : List Row) → map (row_of o) a ≡ map Some xs → map (row_of o) b ≡ map Some ys → map (row_of o) (a ++ b) ≡ map Some (xs ++ ys)
rows-joined o a b xs ys e f = map-joined o a b xs ys e f

pub both : (o : Opening) (a b : Records) (xs ys : List Row) → Reads o a xs → Reads o b ys → Reads o (a ++ b) (xs ++ ys)
both o a b xs ys e f = record { are = map-joined o a b xs ys e.are f.are; utf8 = utf8-joined a b e.utf8 f.utf8 }

pub as-rows : (o : Opening) (a : Records) (xs ys : List Row) → xs ≡ ys → Reads o a xs → Reads o a ys
as-rows o a xs ys same e = subst (λ (k : List Row). Reads o a k) same e

pub no-rows : (o : Opening) → Reads o [] []
no-rows o = record { are = refl; utf8 = refl }

-- one record before others
pub one-first : (o : Opening) (fields : List (List ℕ)) (r : Row) (records : Records) (rows : List Row) → row_of o fields ≡ Some r → list_all is_utf8 fields ≡ true → Reads o records rows
    → Reads o (fields ∷ records) (r ∷ rows)
one-first o fields r records rows is u e = record {
  are = ap (λ (k : Option Row). k ∷ map (row_of o) records) is ∙ ap (λ (k : List (Option Row)). Some r ∷ k) e.are;
  utf8 = utf8-first fields records u e.utf8;
}

-- ---- Prices

pub last-none : {A : Type 0} (xs : List (Option A)) (y : Option A) → first_some (xs ++ y ∷ []) ≡ None → y ≡ None
last-none [] None e = refl
last-none [] (Some r) e = cc e
last-none (None ∷ xs) y e = last-none xs y e
last-none (Some r ∷ xs) y e = cc e

pub or-none : {A : Type 0} (x y : Option A) → option_or x y ≡ None → y ≡ None
or-none None y e = e
or-none (Some a) y e = cc e

pub taken : {A B : Type 0} (x : Option A) (w : B) → (if is_some x then None else Some w) ≡ None → (p : A) × (x ≡ Some p)
taken (Some p) w e = (p, refl)
taken None w e = cc e

-- records are the rows of Prices
abbrev pub ArePrices : Opening → Records → Type 0
ArePrices o records = (ps : List Price) × Reads o records (map row.Price ps)

pub reason-rows : (context : PriceContext) (price : PriceTexts) (kind : Option Reason) → first_some (price_reasons context price) ≡ kind
    → ArePrices context.opening (outcome_records (outcome_of kind context price))
reason-rows context price (Some kind) e = ([], no-rows context.opening)
reason-rows context price None e =
    let last : last_reason context price ≡ None = last-none (early_reasons (date_reason price) (free_reason price) price) (last_reason context price) e in
    let beside : option_or (closed_reason context price) (long_reason context price) ≡ None = or-none (record_reason context price) (option_or (closed_reason context price) (long_reason context price)) last in
    let none : long_reason context price ≡ None = or-none (closed_reason context price) (long_reason context price) beside in
    let (p, read) = taken (parsed (price_of context.opening) (written_fields context price)) (foreign LongTerritory []) none in
    let s = said-read (price_of context.opening) (written_fields context price) p read in (
      p ∷ [],
      one-first context.opening (codes "Price" ∷ written_fields context price) (row.Price p) [] [] (price-row context.opening (written_fields context price) p s.clean s.is)
          (named-utf8 (codes "Price") (written_fields context price) refl s.utf8) (no-rows context.opening),
    )

pub price-rows : (context : PriceContext) (price : PriceTexts) → ArePrices context.opening (outcome_records (price_outcome context price))
price-rows context price = go (is_nothing context price)
  where
    go : (bare : Bool) → ArePrices context.opening (outcome_records (if bare then nothing else outcome_of (first_some (price_reasons context price)) context price))
    go true = ([], no-rows context.opening)
    go false = reason-rows context price (first_some (price_reasons context price)) refl

pub prices-rows : (context : PriceContext) (prices : List PriceTexts) → ArePrices context.opening (all_records (price_outcome context) prices)
prices-rows context [] = ([], no-rows context.opening)
prices-rows context (c ∷ cs) =
    let (ps, e) = price-rows context c in
    let (qs, f) = prices-rows context cs in (
      ps ++ qs,
      as-rows context.opening _ (map row.Price ps ++ map row.Price qs) (map row.Price (ps ++ qs)) (sym (map-append row.Price ps qs))
          (both context.opening (outcome_records (price_outcome context c)) (all_records (price_outcome context) cs) (map row.Price ps) (map row.Price qs) e f),
    )
