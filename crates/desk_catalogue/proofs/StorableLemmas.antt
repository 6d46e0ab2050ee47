-- What a message writes can be kept: each product of contents is storable.
use Rattle.std.specs.Prelude.{◌≡◌, ◌≢◌, ◌≤◌, ◌+◌, ◌++◌, ℕ, Bool, true, false, All, List, [], ◌∷◌, map, length, Option, Some, None, IfSome, ⊤, codes, if◌then◌else◌, option_map}
use Rattle.std.specs.List.{AllByRecursion, flat_map, list_all}
use Rattle.std.specs.Str.{bytes_eq}
use Rattle.std.proofs.Common.{arith, ap, refl, sym, length-append, ◌∙◌}
use Rattle.std.proofs.lemmas.List.Elements.{All-cons, All-from_recursion, All-head, All-nil, All-tail}
use Rattle.std.proofs.lemmas.Option.{same_Some}
use Rattle.onix_terms.proofs.Ranges.{met, positive-range}
use Rattle.onix_terms.specs.Amount.{amount_of}
use Rattle.onix_terms.specs.Code.{code2_of, currency_of}
use Rattle.onix_terms.specs.Day.{day_of}
use Rattle.onix_terms.specs.Options.{nonempty}
use Rattle.onix_terms.specs.Territory.{territory_of}
use Rattle.onix_terms.specs.declared.party.Party.{Party}
use Rattle.onix_records.proofs.DetailCounts.{details-within}
use Rattle.onix_records.proofs.FrontRows.{bind-some}
use Rattle.onix_records.proofs.Fronts.{cons-parts, reads-length}
use Rattle.onix_records.specs.ContentsText.{IsContents}
use Rattle.onix_records.specs.Detail.{detail_of, supplier_name}
use Rattle.onix_records.specs.DetailCount.{detail_count}
use Rattle.onix_records.specs.Fields.{is_clean, optional, optional_party, or_default, party_of}
use Rattle.onix_records.specs.Grammar.{IsMessage}
use Rattle.onix_records.specs.Opening.{opening_fields}
use Rattle.onix_records.specs.PartRows.{HasDetails, SuppliesHaveDetails, content_rows, detail_rows, product_rows, rows_after, supply_rows}
use Rattle.onix_records.specs.Price.{minimum_of, price_from, price_of}
use Rattle.onix_records.specs.Product.{identifier_of, pairs_of, product_of}
use Rattle.onix_records.specs.Row.{end_of, message_row, named_row, row_of}
use Rattle.onix_records.specs.Supply.{supply_of}
use Rattle.onix_records.specs.declared.parts.Header.{Header}
use Rattle.onix_records.specs.declared.parts.Price.{Price}
use Rattle.onix_records.specs.declared.parts.Product.{Product}
use Rattle.onix_records.specs.declared.parts.ProductIdentifier.{ProductIdentifier}
use Rattle.onix_records.specs.declared.parts.ProductSupply.{ProductSupply}
use Rattle.onix_records.specs.declared.parts.SupplyDetail.{SupplyDetail}
use Rattle.onix_records.specs.declared.row.Form.{Form}
use Rattle.onix_records.specs.declared.row.Form.TheVariants as form
use Rattle.onix_records.specs.declared.row.Opening.{Opening}
use Rattle.onix_records.specs.declared.row.Row.{Row}
use Rattle.onix_records.specs.declared.row.Row.TheVariants as row
use Rattle.desk_tables.specs.Rows.{IsAddressee}
use Rattle.desk_catalogue.specs.Storable.{IsStorableDetail, IsStorablePrice, IsStorableProduct, IsStorableSupply, IsWritten}

-- ---- what one record writes

record IsKeptDetail (d : SupplyDetail) : Type 0 where
  party : IsAddressee d.supplier.party
  unpriced : IfSome d.unpriced (λ code. code ≢ [])

abbrev IsKept : Row → Type 0
IsKept (row.Product p) = p.ids ≢ []
IsKept (row.ProductSupply s) = IsWritten s.market
IsKept (row.SupplyDetail d) = IsKeptDetail d
IsKept (row.Price p) = IsStorablePrice p
IsKept _ = ⊤

pairs-some : (kind : List ℕ) (rest : List (List ℕ)) (ids : List ProductIdentifier)
    → pairs_of (kind ∷ rest) ≡ Some ids → ids ≢ []
unfolding pairs_of
pairs-some kind [] ids e none = cc e
pairs-some kind (value ∷ rest) ids e none =
    let (id, _, f) = bind-some (identifier_of kind value) _ ids e in
    let (more, _, g) = bind-some (pairs_of rest) _ ids f in
    let same : id ∷ more ≡ [] = same_Some _ ids g ∙ none in
    cc same

product-kept : (fields : List (List ℕ)) (p : Product) → product_of fields ≡ Some p → p.ids ≢ []
unfolding product_of
product-kept [] p e none = cc e
product-kept (reference ∷ []) p e none = cc e
product-kept (reference ∷ notification ∷ []) p e none = cc e
product-kept (reference ∷ notification ∷ kind ∷ pairs) p e none =
    let (r, _, f) = bind-some (nonempty reference) _ p e in
    let (n, _, g) = bind-some (code2_of notification) _ p f in
    let (ids, reads, h) = bind-some (pairs_of (kind ∷ pairs)) _ p g in
    pairs-some kind pairs ids reads (ap (λ (q : Product). q.ids) (same_Some _ p h) ∙ none)

supply-kept : (fields : List (List ℕ)) (s : ProductSupply) → supply_of fields ≡ Some s
    → IsWritten s.market
supply-kept [] s e = cc e
supply-kept (included ∷ []) s e = cc e
supply-kept (included ∷ regions ∷ []) s e = cc e
supply-kept (included ∷ regions ∷ excluded ∷ []) s e =
    let (t, reads, f) = bind-some (territory_of included regions excluded) _ s e in
    let same = same_Some _ s f in
    rw (← same) (included, regions, excluded, reads)
supply-kept (included ∷ regions ∷ excluded ∷ more ∷ fields) s e = cc e

code-some : (text code : List ℕ) → code2_of text ≡ Some code → code ≢ []
code-some text code e none =
    let (test, same) = met _ (Some text) code e in
    let empty : text ≡ [] = same_Some text code same ∙ none in
    let fails : code2_of [] ≡ Some code = ap code2_of (sym empty) ∙ e in
    cc fails

party-kept : (id_type id_value : List ℕ) (party : Party) → party_of id_type id_value ≡ Some party
    → party.id_type ≢ []
party-kept id_type id_value party e none =
    let (t, reads, f) = bind-some (code2_of id_type) _ party e in
    let (v, _, g) = bind-some (nonempty id_value) _ party f in
    let same = same_Some _ party g in
    code-some id_type t reads (ap (λ (p : Party). p.id_type) same ∙ none)

mapped-party : (read : Option Party) (party : Option Party)
    → ((p : Party) → read ≡ Some p → p.id_type ≢ []) → option_map Some read ≡ Some party
    → IsAddressee party
mapped-party None party each e = cc e
mapped-party (Some p) party each e = rw (← same_Some (Some p) party e) (each p refl)

optional-party-kept : (id_type id_value : List ℕ) (party : Option Party)
    → optional_party id_type id_value ≡ Some party → IsAddressee party
optional-party-kept [] [] party e = rw (← same_Some None party e) tt
optional-party-kept [] (b ∷ bs) party e =
    mapped-party (party_of [] (b ∷ bs)) party (party-kept [] (b ∷ bs)) e
optional-party-kept (a ∷ text) id_value party e =
    mapped-party (party_of (a ∷ text) id_value) party (party-kept (a ∷ text) id_value) e

mapped-code : (read : Option (List ℕ)) (code : Option (List ℕ))
    → ((c : List ℕ) → read ≡ Some c → c ≢ []) → option_map Some read ≡ Some code
    → IfSome code (λ c. c ≢ [])
mapped-code None code each e = cc e
mapped-code (Some c) code each e = rw (← same_Some (Some c) code e) (each c refl)

optional-code-kept : (text : List ℕ) (code : Option (List ℕ)) → optional code2_of text ≡ Some code
    → IfSome code (λ c. c ≢ [])
optional-code-kept [] code e = rw (← same_Some None code e) tt
optional-code-kept (b ∷ bs) code e = mapped-code (code2_of (b ∷ bs)) code (code-some (b ∷ bs)) e

detail-kept : (fields : List (List ℕ)) (d : SupplyDetail) → detail_of fields ≡ Some d
    → IsKeptDetail d
unfolding detail_of
detail-kept [] d e = cc e
detail-kept (role ∷ []) d e = cc e
detail-kept (role ∷ id_type ∷ []) d e = cc e
detail-kept (role ∷ id_type ∷ id_value ∷ []) d e = cc e
detail-kept (role ∷ id_type ∷ id_value ∷ name ∷ []) d e = cc e
detail-kept (role ∷ id_type ∷ id_value ∷ name ∷ availability ∷ []) d e = cc e
detail-kept (role ∷ id_type ∷ id_value ∷ name ∷ availability ∷ unpriced ∷ []) d e =
    let (r, _, f) = bind-some (code2_of role) _ d e in
    let (p, reads_p, g) = bind-some (optional_party id_type id_value) _ d f in
    let (n, _, h) = bind-some (supplier_name p name) _ d g in
    let (a, _, j) = bind-some (code2_of availability) _ d h in
    let (u, reads_u, k) = bind-some (optional code2_of unpriced) _ d j in
    let same = same_Some _ d k in
    rw (← same) (record {
      party = optional-party-kept id_type id_value p reads_p;
      unpriced =
          optional-code-kept unpriced u reads_u;
    })
detail-kept (role ∷ id_type ∷ id_value ∷ name ∷ availability ∷ unpriced ∷ more ∷ fields) d e = cc e

minimum-kept : (f : Form) (fields : List (List ℕ)) (m : ℕ) → minimum_of f fields ≡ Some m → 1 ≤ m
minimum-kept f [] m e = rw (← same_Some 1 m e) (omega arith)
minimum-kept form.One (x ∷ []) m e = cc e
minimum-kept form.One (x ∷ y ∷ fields) m e = cc e
minimum-kept form.Two ([] ∷ []) m e = rw (← same_Some 1 m e) (omega arith)
minimum-kept form.Two ((b ∷ bs) ∷ []) m e = let range =
    positive-range 6 1_000_000 (b ∷ bs) m e in omega (arith, range.0)
minimum-kept form.Two (x ∷ y ∷ fields) m e = cc e

price-from-kept : (h : Header) (m : ℕ) (price_type amount currency included regions excluded from
    until : List ℕ) (p : Price) → 1 ≤ m
    → price_from h m price_type amount currency included regions excluded from until ≡ Some p
    → IsStorablePrice p
unfolding price_from
price-from-kept h m price_type amount currency included regions excluded from until p least e =
    let (t, _, e1) = bind-some (or_default code2_of h.default_type price_type) _ p e in
    let (a, _, e2) = bind-some (amount_of amount) _ p e1 in
    let (c, _, e3) = bind-some (or_default currency_of h.default_currency currency) _ p e2 in
    let (z, reads, e4) = bind-some (territory_of included regions excluded) _ p e3 in
    let (f, _, e5) = bind-some (optional day_of from) _ p e4 in
    let (u, _, e6) = bind-some (optional day_of until) _ p e5 in
    let same = same_Some _ p e6 in
    rw (← same) (record { territory = (included, regions, excluded, reads); minimum = least })

price-kept : (o : Opening) (fields : List (List ℕ)) (p : Price) → price_of o fields ≡ Some p
    → IsStorablePrice p
unfolding price_of
price-kept o [] p e = cc e
price-kept o (a ∷ []) p e = cc e
price-kept o (a ∷ b ∷ []) p e = cc e
price-kept o (a ∷ b ∷ c ∷ []) p e = cc e
price-kept o (a ∷ b ∷ c ∷ d ∷ []) p e = cc e
price-kept o (a ∷ b ∷ c ∷ d ∷ f ∷ []) p e = cc e
price-kept o (a ∷ b ∷ c ∷ d ∷ f ∷ g ∷ []) p e = cc e
price-kept o (a ∷ b ∷ c ∷ d ∷ f ∷ g ∷ i ∷ []) p e = cc e
price-kept o (price_type ∷ amount ∷ currency ∷ included ∷ regions ∷ excluded ∷ from ∷ until ∷ more)
    p e =
    let (m, reads, f) = bind-some (minimum_of o.form more) _ p e in
    price-from-kept o.header m price_type amount currency included regions excluded from until p
    (minimum-kept o.form more m reads) f

made-kept : {A : Type 0} (make : A → Row) (read : Option A)
    → ((x : A) → read ≡ Some x → IsKept (make x)) → (r : Row) → option_map make read ≡ Some r
    → IsKept r
made-kept make None own r e = cc e
made-kept make (Some x) own r e = rw (← same_Some (make x) r e) (own x refl)

choose : (t : Bool) (x y : Option Row) (r : Row) → (x ≡ Some r → IsKept r) → (y ≡ Some r → IsKept r)
    → (if t then x else y) ≡ Some r → IsKept r
choose true x y r f g e = f e
choose false x y r f g e = g e

named-kept : (o : Opening) (name : List ℕ) (fields : List (List ℕ)) (r : Row)
    → named_row o name fields ≡ Some r → IsKept r
named-kept o name fields r =
    choose (bytes_eq name (codes "Message")) _ _ r
    (made-kept message_row (opening_fields fields) (λ x e. tt) r)
    (choose (bytes_eq name (codes "Product")) _ _ r
    (made-kept row.Product (product_of fields) (product-kept fields) r)
    (choose (bytes_eq name (codes "ProductSupply")) _ _ r
    (made-kept row.ProductSupply (supply_of fields) (supply-kept fields) r)
    (choose (bytes_eq name (codes "SupplyDetail")) _ _ r
    (made-kept row.SupplyDetail (detail_of fields) (detail-kept fields) r)
    (choose (bytes_eq name (codes "Price")) _ _ r
    (made-kept row.Price (price_of o fields) (price-kept o fields) r)
    (choose (bytes_eq name (codes "EndMessage")) _ _ r
    (made-kept row.EndMessage (end_of fields) (λ x e. tt) r)
    (λ e. cc e))))))

row-kept : (o : Opening) (fields : List (List ℕ)) (r : Row) → row_of o fields ≡ Some r → IsKept r
unfolding row_of
row-kept o [] r e = cc e
row-kept o (name ∷ fields) r e = choose (list_all is_clean (name ∷ fields)) _ _ r
    (named-kept o name fields r) (λ f. cc f) e

all-kept : (o : Opening) (records : List (List (List ℕ))) (rows : List Row)
    → map (row_of o) records ≡ map Some rows → AllByRecursion IsKept rows
all-kept o [] [] e = tt
all-kept o [] (x ∷ rows) e = cc e
all-kept o (r ∷ records) [] e = cc
all-kept o (r ∷ records) (x ∷ rows) e = let p =
    cons-parts _ _ _ _ e in (row-kept o r x p.0, all-kept o records rows p.1)

-- ---- the parts of contents

kept-left : (rows others : List Row) → AllByRecursion IsKept (rows ++ others)
    → AllByRecursion IsKept rows
kept-left [] others h = tt
kept-left (r ∷ rows) others h = (h.0, kept-left rows others h.1)

kept-right : (rows others : List Row) → AllByRecursion IsKept (rows ++ others)
    → AllByRecursion IsKept others
kept-right [] others h = h
kept-right (r ∷ rows) others h = kept-right rows others h.1

prices-kept : (ps : List Price) → AllByRecursion IsKept (map row.Price ps)
    → AllByRecursion IsStorablePrice ps
prices-kept [] h = tt
prices-kept (p ∷ ps) h = (h.0, prices-kept ps h.1)

details-kept : (ds : List SupplyDetail) → AllByRecursion IsKept (flat_map detail_rows ds)
    → AllByRecursion IsStorableDetail ds
details-kept [] h = tt
details-kept (d ∷ ds) h =
    let own = kept-left (detail_rows d) (flat_map detail_rows ds) h in (
      record {
        party = own.0.party;
        unpriced = own.0.unpriced;
        prices = All-from_recursion
            IsStorablePrice d.prices (prices-kept d.prices own.1);
      },
      details-kept ds (kept-right
          (detail_rows d) (flat_map detail_rows ds) h),
    )

supplies-kept : (ss : List ProductSupply) → AllByRecursion HasDetails ss
    → AllByRecursion IsKept (flat_map supply_rows ss) → AllByRecursion IsStorableSupply ss
supplies-kept [] some h = tt
supplies-kept (s ∷ ss) some h =
    let own = kept-left (supply_rows s) (flat_map supply_rows ss) h in (
      record {
        market = own.0;
        details = some.0;
        each = All-from_recursion IsStorableDetail s.details
            (details-kept s.details own.1);
      },
      supplies-kept ss some.1 (kept-right (supply_rows s)
          (flat_map supply_rows ss) h),
    )

products-kept : (c : List Product) → AllByRecursion SuppliesHaveDetails c
    → All (λ p. detail_count p.supplies ≤ 19998) c → AllByRecursion IsKept (content_rows c)
    → All IsStorableProduct c
products-kept [] some few h = All-nil IsStorableProduct
products-kept (p ∷ ps) some few h =
    let own = kept-left (product_rows p) (content_rows ps) h in
    let bound : detail_count p.supplies ≤ 19998 =
    All-head (λ (q : Product). detail_count q.supplies ≤ 19998) p ps few in
    All-cons IsStorableProduct p ps (
      own.0,
      record {
        each = All-from_recursion IsStorableSupply p.supplies
            (supplies-kept p.supplies some.0 own.1);
        few = omega (arith, bound);
      },
    )
    (products-kept ps some.1 (All-tail (λ (q : Product). detail_count q.supplies ≤ 19998) p ps few)
    (kept-right (product_rows p) (content_rows ps) h))

message-kept : (records : List (List (List ℕ))) (h : Header) (c : List Product)
    → IsMessage records h c → All IsStorableProduct c
message-kept records h c m =
    let o : Opening = record { form = m.form; header = h } in
    let size : length records ≡ length m.rest + 1 = ap length m.split ∙ omega arith in
    let within = m.within in
    let read = reads-length o m.rest (rows_after c) m.reads in
    let both = length-append (content_rows c) (row.EndMessage (1 + length (content_rows c)) ∷ []) in
    let few : length (content_rows c) ≤ 19998 = omega (arith, size, within, read, both) in
    products-kept c m.details (details-within 19998 c few)
    (kept-left (content_rows c) (row.EndMessage (1 + length (content_rows c)) ∷ [])
    (all-kept o m.rest (rows_after c) m.reads))

-- each product of contents can be kept
pub contents-storable : (c : List Product) → IsContents c → All IsStorableProduct c
contents-storable c (h, m) = message-kept _ h c m
