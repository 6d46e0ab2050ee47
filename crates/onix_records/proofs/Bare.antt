-- A row as a record gives it has nothing below it.
use Rattle.std.proofs.Common.{◌≡◌, ◌∷◌, [], ℕ, List, Bool, true, false, Option, Some, None, map, refl}
use Rattle.std.specs.Prelude.{⊤, if◌then◌else◌, option_map, codes}
use Rattle.std.specs.List.{list_all}
use Rattle.std.specs.Str.{bytes_eq}
use Rattle.std.proofs.lemmas.Option.{same_Some}
use Rattle.onix_records.specs.Fields.{is_clean, optional, optional_party}
use Rattle.onix_records.specs.Opening.{opening_fields}
use Rattle.onix_records.specs.Price.{price_of}
use Rattle.onix_records.specs.Product.{pairs_of, product_of}
use Rattle.onix_records.specs.Row.{end_of, message_row, named_row, row_of}
use Rattle.onix_records.specs.Detail.{detail_of, supplier_name}
use Rattle.onix_records.specs.Supply.{supply_of}
use Rattle.onix_records.specs.declared.parts.Product.{Product}
use Rattle.onix_records.specs.declared.parts.ProductSupply.{ProductSupply}
use Rattle.onix_records.specs.declared.parts.SupplyDetail.{SupplyDetail}
use Rattle.onix_records.specs.declared.row.Opening.{Opening}
use Rattle.onix_records.specs.declared.row.Row.{Row}
use Rattle.onix_records.specs.declared.row.Row.TheVariants as row
use Rattle.onix_records.proofs.FrontRows.{bind-some}
use Rattle.onix_records.proofs.Fronts.{cons-parts}
use Rattle.onix_terms.specs.Code.{code2_of}
use Rattle.onix_terms.specs.Options.{nonempty}
use Rattle.onix_terms.specs.Territory.{territory_of}

-- a row has nothing below it
abbrev pub IsBare : Row → Type 0
IsBare (row.Product p) = p.supplies ≡ []
IsBare (row.ProductSupply s) = s.details ≡ []
IsBare (row.SupplyDetail d) = d.prices ≡ []
IsBare _ = ⊤

abbrev pub AllBare : List Row → Type 0
AllBare [] = ⊤
AllBare (r ∷ rows) = IsBare r × AllBare rows

pub product-bare : (fields : List (List ℕ)) (p : Product) → product_of fields ≡ Some p → p.supplies ≡ []
unfolding product_of
product-bare [] p e = cc e
product-bare (reference ∷ []) p e = cc e
product-bare (reference ∷ notification ∷ []) p e = cc e
product-bare (reference ∷ notification ∷ kind ∷ pairs) p e =
    let (r, _, f) = bind-some (nonempty reference) _ p e in
    let (n, _, g) = bind-some (code2_of notification) _ p f in
    let (ids, _, h) = bind-some (pairs_of (kind ∷ pairs)) _ p g in
    let same = same_Some _ p h in
    cc same

pub supply-bare : (fields : List (List ℕ)) (s : ProductSupply) → supply_of fields ≡ Some s → s.details ≡ []
supply-bare [] s e = cc e
supply-bare (included ∷ []) s e = cc e
supply-bare (included ∷ regions ∷ []) s e = cc e
supply-bare (included ∷ regions ∷ excluded ∷ []) s e =
    let (t, _, f) = bind-some (territory_of included regions excluded) _ s e in
    let same = same_Some _ s f in
    cc same
supply-bare (included ∷ regions ∷ excluded ∷ more ∷ fields) s e = cc e

pub detail-bare : (fields : List (List ℕ)) (d : SupplyDetail) → detail_of fields ≡ Some d → d.prices ≡ []
unfolding detail_of
detail-bare [] d e = cc e
detail-bare (role ∷ []) d e = cc e
detail-bare (role ∷ id_type ∷ []) d e = cc e
detail-bare (role ∷ id_type ∷ id_value ∷ []) d e = cc e
detail-bare (role ∷ id_type ∷ id_value ∷ name ∷ []) d e = cc e
detail-bare (role ∷ id_type ∷ id_value ∷ name ∷ availability ∷ []) d e = cc e
detail-bare (role ∷ id_type ∷ id_value ∷ name ∷ availability ∷ unpriced ∷ []) d e =
    let (r, _, f) = bind-some (code2_of role) _ d e in
    let (p, _, g) = bind-some (optional_party id_type id_value) _ d f in
    let (n, _, h) = bind-some (supplier_name p name) _ d g in
    let (a, _, j) = bind-some (code2_of availability) _ d h in
    let (u, _, k) = bind-some (optional code2_of unpriced) _ d j in
    let same = same_Some _ d k in
    cc same
detail-bare (role ∷ id_type ∷ id_value ∷ name ∷ availability ∷ unpriced ∷ more ∷ fields) d e = cc e

-- what a named row is made of
made-bare : {A : Type 0} (make : A → Row) (read : Option A) → ((x : A) → read ≡ Some x → IsBare (make x)) → (r : Row) → option_map make read ≡ Some r → IsBare r
made-bare make None own r e = cc e
made-bare make (Some x) own r e = rw (← same_Some (make x) r e) (own x refl)

choose : (t : Bool) (x y : Option Row) (r : Row) → (x ≡ Some r → IsBare r) → (y ≡ Some r → IsBare r) → (if t then x else y) ≡ Some r → IsBare r
choose true x y r f g e = f e
choose false x y r f g e = g e

named-bare : (o : Opening) (name : List ℕ) (fields : List (List ℕ)) (r : Row) → named_row o name fields ≡ Some r → IsBare r
named-bare o name fields r =
    choose (bytes_eq name (codes "Message")) _ _ r (made-bare message_row (opening_fields fields) (λ x e. tt) r)
    (choose (bytes_eq name (codes "Product")) _ _ r (made-bare row.Product (product_of fields) (product-bare fields) r)
    (choose (bytes_eq name (codes "ProductSupply")) _ _ r (made-bare row.ProductSupply (supply_of fields) (supply-bare fields) r)
    (choose (bytes_eq name (codes "SupplyDetail")) _ _ r (made-bare row.SupplyDetail (detail_of fields) (detail-bare fields) r)
    (choose (bytes_eq name (codes "Price")) _ _ r (made-bare row.Price (price_of o fields) (λ x e. tt) r)
    (choose (bytes_eq name (codes "EndMessage")) _ _ r (made-bare row.EndMessage (end_of fields) (λ x e. tt) r)
    (λ e. cc e))))))

pub row-bare : (o : Opening) (fields : List (List ℕ)) (r : Row) → row_of o fields ≡ Some r → IsBare r
unfolding row_of
row-bare o [] r e = cc e
row-bare o (name ∷ fields) r e = choose (list_all is_clean (name ∷ fields)) _ _ r (named-bare o name fields r) (λ f. cc f) e

pub all-bare : (o : Opening) (records : List (List (List ℕ))) (rows : List Row) → map (row_of o) records ≡ map Some rows → AllBare rows
all-bare o [] [] e = tt
all-bare o [] (x ∷ rows) e = cc e
all-bare o (r ∷ records) [] e = cc e
all-bare o (r ∷ records) (x ∷ rows) e = let p = cons-parts _ _ _ _ e in (row-bare o r x p.0, all-bare o records rows p.1)
