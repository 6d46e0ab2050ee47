-- No price of a message of form 1 has a minimum order quantity above 1.
use Rattle.std.proofs.Common.{◌≡◌, ◌++◌, ◌∷◌, ◌∙◌, [], ℕ, List, Bool, true, false, Option, Some, refl, sym, ap, subst, map}
use Rattle.std.specs.Prelude.{⊤, codes, if◌then◌else◌, option_map, None}
use Rattle.std.specs.List.{AllByRecursion, list_all}
use Rattle.std.specs.Str.{bytes_eq}
use Rattle.std.proofs.lemmas.Option.{same_Some}
use Rattle.onix_terms.specs.Amount.{amount_of}
use Rattle.onix_terms.specs.Code.{code2_of, currency_of}
use Rattle.onix_terms.specs.Day.{day_of}
use Rattle.onix_terms.specs.Territory.{territory_of}
use Rattle.onix_records.proofs.FrontRows.{bind-some}
use Rattle.onix_records.proofs.Fronts.{cons-parts}
use Rattle.onix_records.specs.Detail.{detail_of}
use Rattle.onix_records.specs.Fields.{is_clean, optional, or_default}
use Rattle.onix_records.specs.Grammar.{IsMessage}
use Rattle.onix_records.specs.Opening.{opening_fields}
use Rattle.onix_records.specs.PartRows.{content_rows, rows_after}
use Rattle.onix_records.specs.Price.{minimum_of, price_from, price_of}
use Rattle.onix_records.specs.Product.{product_of}
use Rattle.onix_records.specs.Row.{end_of, message_row, named_row, row_of}
use Rattle.onix_records.specs.Supply.{supply_of}
use Rattle.onix_records.specs.declared.parts.Header.{Header}
use Rattle.onix_records.specs.declared.parts.Price.{Price}
use Rattle.onix_records.specs.declared.parts.Product.{Product}
use Rattle.onix_records.specs.declared.row.Form.{Form}
use Rattle.onix_records.specs.declared.row.Form.TheVariants as form
use Rattle.onix_records.specs.declared.row.Opening.{Opening}
use Rattle.onix_records.specs.declared.row.Row.{Row}
use Rattle.onix_records.specs.declared.row.Row.TheVariants as row

-- ---- one record

-- a price in it holds from one copy on
abbrev pub HasNoMinimum : Row → Type 0
HasNoMinimum (row.Price p) = p.minimum ≡ 1
HasNoMinimum _ = ⊤

-- the opening of a message of form 1
abbrev first_form : Header → Opening
first_form h = record { form = form.One; header = h }

minimum_is : (fields : List (List ℕ)) (m : ℕ) → minimum_of form.One fields ≡ Some m → m ≡ 1
minimum_is [] m e = sym (same_Some 1 m e)
minimum_is (x ∷ []) m e = cc e
minimum_is (x ∷ y ∷ fields) m e = cc e

price_from_is : (h : Header) (m : ℕ) (price_type amount currency included regions excluded from until : List ℕ) (p : Price)
    → price_from h m price_type amount currency included regions excluded from until ≡ Some p → p.minimum ≡ m
unfolding price_from
price_from_is h m price_type amount currency included regions excluded from until p e =
    let (t, _, e1) = bind-some (or_default code2_of h.default_type price_type) _ p e in
    let (a, _, e2) = bind-some (amount_of amount) _ p e1 in
    let (c, _, e3) = bind-some (or_default currency_of h.default_currency currency) _ p e2 in
    let (z, _, e4) = bind-some (territory_of included regions excluded) _ p e3 in
    let (f, _, e5) = bind-some (optional day_of from) _ p e4 in
    let (u, _, e6) = bind-some (optional day_of until) _ p e5 in
    let same = same_Some _ p e6 in
    sym (ap (λ (q : Price). q.minimum) same)

price_is : (h : Header) (fields : List (List ℕ)) (p : Price) → price_of (first_form h) fields ≡ Some p → p.minimum ≡ 1
unfolding price_of
price_is h [] p e = cc e
price_is h (a ∷ []) p e = cc e
price_is h (a ∷ b ∷ []) p e = cc e
price_is h (a ∷ b ∷ c ∷ []) p e = cc e
price_is h (a ∷ b ∷ c ∷ d ∷ []) p e = cc e
price_is h (a ∷ b ∷ c ∷ d ∷ f ∷ []) p e = cc e
price_is h (a ∷ b ∷ c ∷ d ∷ f ∷ g ∷ []) p e = cc e
price_is h (a ∷ b ∷ c ∷ d ∷ f ∷ g ∷ i ∷ []) p e = cc e
price_is h (price_type ∷ amount ∷ currency ∷ included ∷ regions ∷ excluded ∷ from ∷ until ∷ more) p e =
    let (m, reads, f) = bind-some (minimum_of form.One more) _ p e in
    price_from_is h m price_type amount currency included regions excluded from until p f ∙ minimum_is more m reads

made : {A : Type 0} (make : A → Row) (read : Option A) → ((x : A) → read ≡ Some x → HasNoMinimum (make x)) → (r : Row) → option_map make read ≡ Some r → HasNoMinimum r
made make None own r e = cc e
made make (Some x) own r e = subst HasNoMinimum (same_Some (make x) r e) (own x refl)

choose : (t : Bool) (x y : Option Row) (r : Row) → (x ≡ Some r → HasNoMinimum r) → (y ≡ Some r → HasNoMinimum r) → (if t then x else y) ≡ Some r → HasNoMinimum r
choose true x y r f g e = f e
choose false x y r f g e = g e

named_is : (h : Header) (name : List ℕ) (fields : List (List ℕ)) (r : Row) → named_row (first_form h) name fields ≡ Some r → HasNoMinimum r
named_is h name fields r =
    choose (bytes_eq name (codes "Message")) _ _ r (made message_row (opening_fields fields) (λ x e. tt) r)
    (choose (bytes_eq name (codes "Product")) _ _ r (made row.Product (product_of fields) (λ x e. tt) r)
    (choose (bytes_eq name (codes "ProductSupply")) _ _ r (made row.ProductSupply (supply_of fields) (λ x e. tt) r)
    (choose (bytes_eq name (codes "SupplyDetail")) _ _ r (made row.SupplyDetail (detail_of fields) (λ x e. tt) r)
    (choose (bytes_eq name (codes "Price")) _ _ r (made row.Price (price_of (first_form h) fields) (price_is h fields) r)
    (choose (bytes_eq name (codes "EndMessage")) _ _ r (made row.EndMessage (end_of fields) (λ x e. tt) r)
    (λ e. cc e))))))

row_is : (h : Header) (fields : List (List ℕ)) (r : Row) → row_of (first_form h) fields ≡ Some r → HasNoMinimum r
unfolding row_of
row_is h [] r e = cc e
row_is h (name ∷ fields) r e = choose (list_all is_clean (name ∷ fields)) _ _ r (named_is h name fields r) (λ f. cc f) e

-- ---- all of them

rows_are : (h : Header) (records : List (List (List ℕ))) (rows : List Row) → map (row_of (first_form h)) records ≡ map Some rows → AllByRecursion HasNoMinimum rows
rows_are h [] [] e = tt
rows_are h [] (x ∷ rows) e = cc e
rows_are h (r ∷ records) [] e = cc
rows_are h (r ∷ records) (x ∷ rows) e = let p = cons-parts _ _ _ _ e in (row_is h r x p.0, rows_are h records rows p.1)

pub all_left : {A : Type 0} (P : A → Type 0) (xs ys : List A) → AllByRecursion P (xs ++ ys) → AllByRecursion P xs
all_left P [] ys h = tt
all_left P (x ∷ xs) ys h = (h.0, all_left P xs ys h.1)

pub all_right : {A : Type 0} (P : A → Type 0) (xs ys : List A) → AllByRecursion P (xs ++ ys) → AllByRecursion P ys
all_right P [] ys h = h
all_right P (x ∷ xs) ys h = all_right P xs ys h.1

-- the contents of the message
pub contents_are : (records : List (List (List ℕ))) (h : Header) (c : List Product) (m : IsMessage records h c) → m.form ≡ form.One → AllByRecursion HasNoMinimum (content_rows c)
contents_are records h c m one =
    let reads : map (row_of (first_form h)) m.rest ≡ map Some (rows_after c) = subst (λ (f : Form). map (row_of (record { form = f; header = h })) m.rest ≡ map Some (rows_after c)) one m.reads in
    all_left HasNoMinimum (content_rows c) _ (rows_are h m.rest (rows_after c) reads)
