-- The record of a row that was read is read as that row, in a message of form 2 without defaults.
use Rattle.std.proofs.Common.{◌≡◌, ◌<◌, ◌++◌, ◌∷◌, ◌∙◌, [], ℕ, ℤ, List, Bool, true, false, Option, Some, None, refl, sym, ap, arith, inl, inr}
use Rattle.std.specs.Prelude.{⊤, nat_lt, if◌then◌else◌, option_map, codes, decimal}
use Rattle.std.specs.Cmp.Lexicographic.{bytes_decides}
use Rattle.std.specs.List.{flat_map, list_all}
use Rattle.std.specs.Option.{unwrap_or}
use Rattle.std.specs.Str.{bytes_eq}
use Rattle.std.proofs.lemmas.Bool.{and_from, and_parts, cases_Bool, ltb-false}
use Rattle.std.proofs.lemmas.Option.{cond_some, same_Some}
use Rattle.onix_terms.specs.Amount.{amount_of, amount_text}
use Rattle.onix_terms.specs.Code.{code2_of, currency_of}
use Rattle.onix_terms.specs.Day.{IsDayNumber, day_of, day_text}
use Rattle.onix_terms.specs.Digits.{digits_of}
use Rattle.onix_terms.specs.Number.{number_of}
use Rattle.onix_terms.specs.Options.{◌>>=◌, nonempty}
use Rattle.onix_terms.specs.Quantity.{quantity_of}
use Rattle.onix_terms.specs.Territory.{countries_text, territory_of, world_text}
use Rattle.onix_terms.specs.declared.party.Party.{Party}
use Rattle.onix_terms.specs.declared.territory.Territory.{Territory}
use Rattle.onix_records.specs.ContentsText.{end_record, plain_opening}
use Rattle.onix_records.specs.Fields.{is_clean, optional, optional_party, party_of, or_default}
use Rattle.onix_records.specs.Opening.{form_of, opening_fields, opening_from, opening_of}
use Rattle.onix_records.specs.Price.{minimum_of, price_from, price_of, quantity_or_one}
use Rattle.onix_records.specs.Product.{identifier_of, pairs_of, product_of}
use Rattle.onix_records.specs.Row.{end_of, message_row, named_row, row_of}
use Rattle.onix_records.specs.Detail.{detail_record}
use Rattle.onix_records.specs.Fields.{party_fields, territory_fields}
use Rattle.onix_records.specs.Price.{day_field, minimum_fields, price_record}
use Rattle.onix_records.specs.Product.{identifier_fields, product_record}
use Rattle.onix_records.specs.Supply.{supply_record}
use Rattle.onix_records.specs.Detail.{detail_of, supplier_name}
use Rattle.onix_records.specs.Supply.{supply_of}
use Rattle.onix_records.specs.declared.parts.Header.{Header}
use Rattle.onix_records.specs.declared.parts.Price.{Price}
use Rattle.onix_records.specs.declared.parts.Product.{Product}
use Rattle.onix_records.specs.declared.parts.ProductIdentifier.{ProductIdentifier}
use Rattle.onix_records.specs.declared.parts.ProductSupply.{ProductSupply}
use Rattle.onix_records.specs.declared.parts.SupplyDetail.{SupplyDetail}
use Rattle.onix_records.specs.declared.row.Form.{Form}
use Rattle.onix_records.specs.declared.row.Form.TheVariants as form
use Rattle.onix_records.specs.declared.row.Opening.{Opening}
use Rattle.onix_records.specs.declared.row.Row.{Row}
use Rattle.onix_records.specs.declared.row.Row.TheVariants as row
use Rattle.onix_records.proofs.CleanTexts.{amount-clean, code2-clean, currency-clean, day-clean, digits-clean, letters-clean}
use Rattle.onix_records.proofs.FrontRows.{bind-some}
use Rattle.onix_records.proofs.OneText.{record_of}
use Rattle.onix_records.proofs.TermLaws.{TermLaws}

abbrev Fields : Type 0
Fields = List (List ℕ)

-- The opening without defaults.

pub plain_header : Header
plain_header = record { sender = record { id_type = codes "01"; id_value = codes "x" }; addressee = None; number = None; repeat = None; sent = []; default_type = None; default_currency = None }

abbrev pub plain : Opening
plain = record { form = form.Two; header = plain_header }

pub plain-opens : opening_of plain_opening ≡ Some plain
unfolding opening_of opening_fields opening_from plain_header
plain-opens = refl

-- Codes are themselves.

code2-same : (text code : List ℕ) → code2_of text ≡ Some code → text ≡ code
code2-same text code e = (cond_some _ text code e).1

code2-again : (text code : List ℕ) → code2_of text ≡ Some code → code2_of code ≡ Some code
code2-again text code e = ap code2_of (sym (code2-same text code e)) ∙ e

currency-again : (text code : List ℕ) → currency_of text ≡ Some code → currency_of code ≡ Some code
currency-again text code e = ap currency_of (sym (cond_some _ text code e).1) ∙ e

nonempty-same : (text found : List ℕ) → nonempty text ≡ Some found → text ≡ found
nonempty-same [] found e = cc e
nonempty-same (b ∷ bs) found e = same_Some (b ∷ bs) found e

mapped-some : {A B : Type 0} (f : A → B) (o : Option A) (y : B) → option_map f o ≡ Some y → (x : A) × (o ≡ Some x) × (f x ≡ y)
mapped-some f None y e = cc e
mapped-some f (Some x) y e = (x, refl, same_Some (f x) y e)

-- What the row of a record came from.

IsNamed : Opening → List ℕ → Fields → Row → Type 0
IsNamed o name fields (row.Message h) = ⊤
IsNamed o name fields (row.Product p) = (name ≡ codes "Product") × (product_of fields ≡ Some p)
IsNamed o name fields (row.ProductSupply s) = (name ≡ codes "ProductSupply") × (supply_of fields ≡ Some s)
IsNamed o name fields (row.SupplyDetail d) = (name ≡ codes "SupplyDetail") × (detail_of fields ≡ Some d)
IsNamed o name fields (row.Price p) = (name ≡ codes "Price") × (price_of o fields ≡ Some p)
IsNamed o name fields (row.EndMessage n) = ⊤

made : {A : Type 0} (o : Opening) (name : List ℕ) (fields : Fields) (make : A → Row) (read : Option A) → ((x : A) → read ≡ Some x → IsNamed o name fields (make x)) → (r : Row) → option_map make read ≡ Some r → IsNamed o name fields r
made o name fields make None own r e = cc e
made o name fields make (Some x) own r e = rw (← same_Some (make x) r e) (own x refl)

choose : (o : Opening) (name word : List ℕ) (fields : Fields) (x y : Option Row) (r : Row) → (name ≡ word → x ≡ Some r → IsNamed o name fields r) → (y ≡ Some r → IsNamed o name fields r)
    → (if bytes_eq name word then x else y) ≡ Some r → IsNamed o name fields r
choose o name word fields x y r f g e = by-test (bytes_eq name word) (bytes_decides name word).0 e
  where
    by-test : (t : Bool) → (t ≡ true → name ≡ word) → (if t then x else y) ≡ Some r → IsNamed o name fields r
    by-test true same h = f (same refl) h
    by-test false same h = g h

named-is : (o : Opening) (name : List ℕ) (fields : Fields) (r : Row) → named_row o name fields ≡ Some r → IsNamed o name fields r
unfolding IsNamed
named-is o name fields r =
    choose o name (codes "Message") fields _ _ r (λ n. made o name fields message_row (opening_fields fields) (λ x e. tt) r)
    (choose o name (codes "Product") fields _ _ r (λ n. made o name fields row.Product (product_of fields) (λ x e. (n, e)) r)
    (choose o name (codes "ProductSupply") fields _ _ r (λ n. made o name fields row.ProductSupply (supply_of fields) (λ x e. (n, e)) r)
    (choose o name (codes "SupplyDetail") fields _ _ r (λ n. made o name fields row.SupplyDetail (detail_of fields) (λ x e. (n, e)) r)
    (choose o name (codes "Price") fields _ _ r (λ n. made o name fields row.Price (price_of o fields) (λ x e. (n, e)) r)
    (choose o name (codes "EndMessage") fields _ _ r (λ n. made o name fields row.EndMessage (end_of fields) (λ x e. tt) r)
    (λ e. cc e))))))

row-parts : (o : Opening) (name : List ℕ) (fields : Fields) (r : Row) → row_of o (name ∷ fields) ≡ Some r → (list_all is_clean (name ∷ fields) ≡ true) × IsNamed o name fields r
unfolding row_of
row-parts o name fields r e = by-test (list_all is_clean (name ∷ fields)) e
  where
    by-test : (t : Bool) → (if t then named_row o name fields else None) ≡ Some r → (t ≡ true) × IsNamed o name fields r
    by-test true h = (refl, named-is o name fields r h)
    by-test false h = cc h

row-built : (name : List ℕ) (fields : Fields) (r : Row) → list_all is_clean (name ∷ fields) ≡ true → named_row plain name fields ≡ Some r → row_of plain (name ∷ fields) ≡ Some r
unfolding row_of
row-built name fields r clean named = ap (λ (t : Bool). if t then named_row plain name fields else None) clean ∙ named

-- Products: each field stands as it was.

identifier-fields : (kind value : List ℕ) (i : ProductIdentifier) → identifier_of kind value ≡ Some i → identifier_fields i ≡ kind ∷ value ∷ []
identifier-fields kind value i e =
    let (k, reads_k, f) = bind-some (code2_of kind) _ i e in
    let (v, reads_v, g) = bind-some (nonempty value) _ i f in
    let same = same_Some _ i g in
    let a = code2-same kind k reads_k in
    let b = nonempty-same value v reads_v in
    cc (same, a, b)

pairs-fields : (fields : Fields) (ids : List ProductIdentifier) → pairs_of fields ≡ Some ids → flat_map identifier_fields ids ≡ fields
unfolding pairs_of
pairs-fields [] ids e = rw (← same_Some [] ids e) refl
pairs-fields (kind ∷ []) ids e = cc e
pairs-fields (kind ∷ value ∷ rest) ids e =
    let (i, reads_i, f) = bind-some (identifier_of kind value) _ ids e in
    let (more, reads, g) = bind-some (pairs_of rest) _ ids f in
    rw (← same_Some (i ∷ more) ids g) (ap (λ (t : Fields). t ++ flat_map identifier_fields more) (identifier-fields kind value i reads_i) ∙ ap (λ (t : Fields). kind ∷ value ∷ t) (pairs-fields rest more reads))

product-fields : (fields : Fields) (p : Product) → product_of fields ≡ Some p → p.reference ∷ p.notification ∷ flat_map identifier_fields p.ids ≡ fields
unfolding product_of
product-fields [] p e = cc e
product-fields (reference ∷ []) p e = cc e
product-fields (reference ∷ notification ∷ []) p e = cc e
product-fields (reference ∷ notification ∷ kind ∷ pairs) p e =
    let (r, reads_r, f) = bind-some (nonempty reference) _ p e in
    let (n, reads_n, g) = bind-some (code2_of notification) _ p f in
    let (ids, reads_ids, h) = bind-some (pairs_of (kind ∷ pairs)) _ p g in
    let same = same_Some _ p h in
    let a = nonempty-same reference r reads_r in
    let b = code2-same notification n reads_n in
    let c = pairs-fields (kind ∷ pairs) ids reads_ids in
    rw (← same) (cc (a, b, c))

-- Details: each field stands as it was.

party-some : (id_type id_value : List ℕ) (p : Option Party) → option_map Some (party_of id_type id_value) ≡ Some p → party_fields p ≡ id_type ∷ id_value ∷ []
party-some id_type id_value p e =
    let (x, reads, same) = mapped-some Some (party_of id_type id_value) p e in
    let (t, reads_t, f) = bind-some (code2_of id_type) _ x reads in
    let (v, reads_v, g) = bind-some (nonempty id_value) _ x f in
    let is = same_Some _ x g in
    let a = code2-same id_type t reads_t in
    let b = nonempty-same id_value v reads_v in
    rw (← same, ← is) (cc (a, b))

party-fields : (id_type id_value : List ℕ) (p : Option Party) → optional_party id_type id_value ≡ Some p → party_fields p ≡ id_type ∷ id_value ∷ []
party-fields [] [] p e = rw (← same_Some None p e) refl
party-fields [] (b ∷ bs) p e = party-some [] (b ∷ bs) p e
party-fields (a ∷ as_) id_value p e = party-some (a ∷ as_) id_value p e

name-same : (p : Option Party) (name found : List ℕ) → supplier_name p name ≡ Some found → name ≡ found
name-same None name found e = nonempty-same name found e
name-same (Some p) name found e = same_Some name found e

optional-same : (text : List ℕ) (found : Option (List ℕ)) → optional code2_of text ≡ Some found → text ≡ unwrap_or found []
optional-same [] found e = rw (← same_Some None found e) refl
optional-same (b ∷ bs) found e =
    let (x, reads, same) = mapped-some Some (code2_of (b ∷ bs)) found e in
    rw (← same) (code2-same (b ∷ bs) x reads)

detail-fields : (fields : Fields) (d : SupplyDetail) → detail_of fields ≡ Some d
    → d.supplier.role ∷ (party_fields d.supplier.party ++ (d.supplier.name ∷ d.availability ∷ unwrap_or d.unpriced [] ∷ [])) ≡ fields
unfolding detail_of
detail-fields [] d e = cc e
detail-fields (role ∷ []) d e = cc e
detail-fields (role ∷ id_type ∷ []) d e = cc e
detail-fields (role ∷ id_type ∷ id_value ∷ []) d e = cc e
detail-fields (role ∷ id_type ∷ id_value ∷ name ∷ []) d e = cc e
detail-fields (role ∷ id_type ∷ id_value ∷ name ∷ availability ∷ []) d e = cc e
detail-fields (role ∷ id_type ∷ id_value ∷ name ∷ availability ∷ unpriced ∷ []) d e =
    let (r, reads_r, f) = bind-some (code2_of role) _ d e in
    let (p, reads_p, g) = bind-some (optional_party id_type id_value) _ d f in
    let (n, reads_n, h) = bind-some (supplier_name p name) _ d g in
    let (a, reads_a, j) = bind-some (code2_of availability) _ d h in
    let (u, reads_u, k) = bind-some (optional code2_of unpriced) _ d j in
    let same = same_Some _ d k in
    let i = code2-same role r reads_r in
    let l = name-same p name n reads_n in
    let m = code2-same availability a reads_a in
    let o = optional-same unpriced u reads_u in
    rw (← same) (ap (λ (t : Fields). r ∷ (t ++ (n ∷ a ∷ unwrap_or u [] ∷ []))) (party-fields id_type id_value p reads_p) ∙ cc (i, l, m, o))
detail-fields (role ∷ id_type ∷ id_value ∷ name ∷ availability ∷ unpriced ∷ more ∷ fields) d e = cc e

-- Supplies: the territory is written anew.

clean-parts : (field : List ℕ) (fields : Fields) → list_all is_clean (field ∷ fields) ≡ true → (is_clean field ≡ true) × (list_all is_clean fields ≡ true)
clean-parts field fields e = and_parts (is_clean field) (list_all is_clean fields) e

world-clean : (world : Bool) → is_clean (world_text world) ≡ true
world-clean true = refl
world-clean false = refl

-- what is known of the written fields of a territory that was read
record Back (t : Territory) : Type 0 where
  reads : territory_of (countries_text t.included) (world_text t.world) (countries_text t.excluded) ≡ Some t
  included : is_clean (countries_text t.included) ≡ true
  excluded : is_clean (countries_text t.excluded) ≡ true

territory-back : (w : TermLaws) (included regions excluded : List ℕ) (t : Territory) → territory_of included regions excluded ≡ Some t → is_clean included ≡ true → is_clean excluded ≡ true → Back t
territory-back w included regions excluded t is clean_i clean_e =
    let short = w.territory_short included regions excluded t is in
    let letters = w.territory_letters included regions excluded t is in
    record {
      reads = w.territory included regions excluded t is;
      included = letters-clean included _ clean_i short.0 letters.0;
      excluded = letters-clean excluded _ clean_e short.1 letters.1;
    }

territory-clean : (t : Territory) (rest : Fields) → Back t → list_all is_clean rest ≡ true → list_all is_clean (territory_fields t ++ rest) ≡ true
territory-clean t rest b more = and_from _ _ b.included (and_from _ _ (world-clean t.world) (and_from _ _ b.excluded more))

supply-built : (t : Territory) → Back t → supply_of (territory_fields t) ≡ Some (record { market = t; details = [] })
supply-built t b = ap (λ (o : Option Territory). o >>= (λ x. Some (record { market = x; details = [] }))) b.reads

supply-back : (w : TermLaws) (name : List ℕ) (fields : Fields) (s : ProductSupply) → list_all is_clean (name ∷ fields) ≡ true → supply_of fields ≡ Some s → row_of plain (supply_record s) ≡ Some (row.ProductSupply s)
supply-back w name [] s clean e = cc e
supply-back w name (included ∷ []) s clean e = cc e
supply-back w name (included ∷ regions ∷ []) s clean e = cc e
supply-back w name (included ∷ regions ∷ excluded ∷ []) s clean e =
    let (t, reads, f) = bind-some (territory_of included regions excluded) _ s e in
    let same = same_Some _ s f in
    let c = and_parts _ _ (and_parts _ _ clean).1 in
    let b = territory-back w included regions excluded t reads c.0 (and_parts _ _ (and_parts _ _ c.1).1).0 in
    rw (← same) (row-built (codes "ProductSupply") (territory_fields t) (row.ProductSupply (record { market = t; details = [] })) (territory-clean t [] b refl)
    (ap (option_map row.ProductSupply) (supply-built t b)))
supply-back w name (included ∷ regions ∷ excluded ∷ more ∷ fields) s clean e = cc e

-- Prices: each value is written anew.

-- the defaults of a header are codes
pub record HasCodes (h : Header) : Type 0 where
  pub type_code : (t : List ℕ) → h.default_type ≡ Some t → code2_of t ≡ Some t
  pub currency_code : (c : List ℕ) → h.default_currency ≡ Some c → currency_of c ≡ Some c

or-default-again : (term : List ℕ → Option (List ℕ)) (default : Option (List ℕ)) (text found : List ℕ) → ((t : List ℕ) → default ≡ Some t → term t ≡ Some t) → ((t c : List ℕ) → term t ≡ Some c → term c ≡ Some c)
    → or_default term default text ≡ Some found → term found ≡ Some found
or-default-again term default [] found own again e = own found e
or-default-again term default (b ∷ bs) found own again e = again (b ∷ bs) found e

or-none : {A : Type 0} (term : List ℕ → Option A) (text : List ℕ) (found : A) → term [] ≡ None → term text ≡ Some found → or_default term None text ≡ Some found
or-none term [] found none e = cc (none, e)
or-none term (b ∷ bs) found none e = e

optional-some : {A : Type 0} (term : List ℕ → Option A) (text : List ℕ) (found : A) → term [] ≡ None → term text ≡ Some found → optional term text ≡ Some (Some found)
optional-some term [] found none e = cc (none, e)
optional-some term (b ∷ bs) found none e = ap (option_map Some) e

day-back : (w : TermLaws) (d : Option ℤ) → ((n : ℤ) → d ≡ Some n → IsDayNumber n) → (optional day_of (day_field d) ≡ Some d) × (is_clean (day_field d) ≡ true)
day-back w None h = (refl, refl)
day-back w (Some n) h = let reads = w.day n (h n refl) in (optional-some day_of (day_text n) n refl reads, day-clean n reads)

days-are : (w : TermLaws) (text : List ℕ) (d : Option ℤ) → optional day_of text ≡ Some d → (n : ℤ) → d ≡ Some n → IsDayNumber n
days-are w [] d e n f = cc (same_Some None d e, f)
days-are w (b ∷ bs) d e n f =
    let (x, reads, same) = mapped-some Some (day_of (b ∷ bs)) d e in
    let is : x ≡ n = same_Some x n (same ∙ f) in
    w.day_range (b ∷ bs) n (reads ∙ ap Some is)

quantity-some : (text : List ℕ) (n : ℕ) → quantity_of text ≡ Some n → quantity_or_one text ≡ Some n
quantity-some [] n e = cc e
quantity-some (b ∷ bs) n e = e

minimum-range : (w : TermLaws) (f : Form) (fields : Fields) (m : ℕ) → minimum_of f fields ≡ Some m → (0 < m) × (m < 1_000_000)
minimum-range w f [] m e = rw (← same_Some 1 m e) (omega arith, omega arith)
minimum-range w form.One (x ∷ []) m e = cc e
minimum-range w form.One (x ∷ y ∷ fields) m e = cc e
minimum-range w form.Two ([] ∷ []) m e = rw (← same_Some 1 m e) (omega arith, omega arith)
minimum-range w form.Two ((b ∷ bs) ∷ []) m e = w.quantity_range (b ∷ bs) m e
minimum-range w form.Two (x ∷ y ∷ fields) m e = cc e

minimum-back : (w : TermLaws) (m : ℕ) → 0 < m → m < 1_000_000 → (minimum_of form.Two (minimum_fields m) ≡ Some m) × (list_all is_clean (minimum_fields m) ≡ true)
minimum-back w m some small = elim (cases_Bool (nat_lt 1 m)) [
  | inl above ↦ rw above (quantity-some (decimal m) m (w.quantity m some small), and_from _ _ (digits-clean (decimal m) m (w.digits m (omega arith))) refl)
  | inr not_above ↦ let few = ltb-false 1 m not_above in let one : 1 ≡ m = omega (arith, few) in rw not_above (ap Some one, refl)
]

bind-at : {A B : Type 0} (o : Option A) (x : A) (f : A → Option B) → o ≡ Some x → (o >>= f) ≡ f x
bind-at o x f e = ap (λ t. t >>= f) e

-- what is known of a price that was read
record Priced (p : Price) : Type 0 where
  type_code : code2_of p.price_type ≡ Some p.price_type
  amount : p.amount < 1_000_000_000_000
  currency : currency_of p.currency ≡ Some p.currency
  territory : Back p.territory
  from : (n : ℤ) → p.from ≡ Some n → IsDayNumber n
  until : (n : ℤ) → p.until ≡ Some n → IsDayNumber n
  some : 0 < p.minimum
  small : p.minimum < 1_000_000

price-from-built : (w : TermLaws) (p : Price) → Priced p
    → price_from plain_header p.minimum p.price_type (amount_text p.amount) p.currency (countries_text p.territory.included) (world_text p.territory.world) (countries_text p.territory.excluded) (day_field p.from) (day_field p.until) ≡ Some p
unfolding price_from plain_header
price-from-built w p k =
    bind-at _ p.price_type _ (or-none code2_of p.price_type p.price_type refl k.type_code)
    ∙ bind-at _ p.amount _ (w.amount p.amount k.amount)
    ∙ bind-at _ p.currency _ (or-none currency_of p.currency p.currency refl k.currency)
    ∙ bind-at _ p.territory _ k.territory.reads
    ∙ bind-at _ p.from _ (day-back w p.from k.from).0
    ∙ bind-at _ p.until _ (day-back w p.until k.until).0

price-built : (w : TermLaws) (p : Price) → Priced p → price_of plain (p.price_type ∷ amount_text p.amount ∷ p.currency ∷ (territory_fields p.territory ++ (day_field p.from ∷ day_field p.until ∷ minimum_fields p.minimum))) ≡ Some p
unfolding price_of
price-built w p k = bind-at (minimum_of form.Two (minimum_fields p.minimum)) p.minimum _ (minimum-back w p.minimum k.some k.small).0 ∙ price-from-built w p k

price-clean : (w : TermLaws) (p : Price) → Priced p → list_all is_clean (price_record p) ≡ true
price-clean w p k =
    and_from _ _ (code2-clean p.price_type p.price_type k.type_code)
    (and_from _ _ (amount-clean p.amount k.amount)
    (and_from _ _ (currency-clean p.currency p.currency k.currency)
    (territory-clean p.territory (day_field p.from ∷ day_field p.until ∷ minimum_fields p.minimum) k.territory
    (and_from _ _ (day-back w p.from k.from).1
    (and_from _ _ (day-back w p.until k.until).1 (minimum-back w p.minimum k.some k.small).1)))))

price-from-read : (w : TermLaws) (h : Header) (m : ℕ) (price_type amount currency included regions excluded from until : List ℕ) (p : Price) → HasCodes h → is_clean included ≡ true → is_clean excluded ≡ true → (0 < m) × (m < 1_000_000)
    → price_from h m price_type amount currency included regions excluded from until ≡ Some p → Priced p
unfolding price_from
price-from-read w h m price_type amount currency included regions excluded from until p codes_ clean_i clean_e range e =
    let (t, reads_t, e1) = bind-some (or_default code2_of h.default_type price_type) _ p e in
    let (a, reads_a, e2) = bind-some (amount_of amount) _ p e1 in
    let (c, reads_c, e3) = bind-some (or_default currency_of h.default_currency currency) _ p e2 in
    let (z, reads_z, e4) = bind-some (territory_of included regions excluded) _ p e3 in
    let (f, reads_f, e5) = bind-some (optional day_of from) _ p e4 in
    let (u, reads_u, e6) = bind-some (optional day_of until) _ p e5 in
    let same = same_Some _ p e6 in
    rw (← same) (record {
      type_code = or-default-again code2_of h.default_type price_type t codes_.type_code code2-again reads_t;
      amount = w.amount_range amount a reads_a;
      currency = or-default-again currency_of h.default_currency currency c codes_.currency_code currency-again reads_c;
      territory = territory-back w included regions excluded z reads_z clean_i clean_e;
      from = days-are w from f reads_f;
      until = days-are w until u reads_u;
      some = range.0;
      small = range.1;
    })

price-read : (w : TermLaws) (o : Opening) (name : List ℕ) (fields : Fields) (p : Price) → HasCodes o.header → list_all is_clean (name ∷ fields) ≡ true → price_of o fields ≡ Some p → Priced p
unfolding price_of
price-read w o name [] p h clean e = cc e
price-read w o name (a ∷ []) p h clean e = cc e
price-read w o name (a ∷ b ∷ []) p h clean e = cc e
price-read w o name (a ∷ b ∷ c ∷ []) p h clean e = cc e
price-read w o name (a ∷ b ∷ c ∷ d ∷ []) p h clean e = cc e
price-read w o name (a ∷ b ∷ c ∷ d ∷ f ∷ []) p h clean e = cc e
price-read w o name (a ∷ b ∷ c ∷ d ∷ f ∷ g ∷ []) p h clean e = cc e
price-read w o name (a ∷ b ∷ c ∷ d ∷ f ∷ g ∷ i ∷ []) p h clean e = cc e
price-read w o name (price_type ∷ amount ∷ currency ∷ included ∷ regions ∷ excluded ∷ from ∷ until ∷ more) p h clean e =
    let (m, reads, f) = bind-some (minimum_of o.form more) _ p e in
    let others = included ∷ regions ∷ excluded ∷ from ∷ until ∷ more in
    let c0 = clean-parts name (price_type ∷ amount ∷ currency ∷ others) clean in
    let c1 = clean-parts price_type (amount ∷ currency ∷ others) c0.1 in
    let c2 = clean-parts amount (currency ∷ others) c1.1 in
    let c3 = clean-parts currency others c2.1 in
    let c4 = clean-parts included (regions ∷ excluded ∷ from ∷ until ∷ more) c3.1 in
    let c5 = clean-parts regions (excluded ∷ from ∷ until ∷ more) c4.1 in
    let c6 = clean-parts excluded (from ∷ until ∷ more) c5.1 in
    price-from-read w o.header m price_type amount currency included regions excluded from until p h c4.0 c6.0 (minimum-range w o.form more m reads) f

-- Rows of contents.

abbrev pub IsContent : Row → Type 0
IsContent (row.Message h) = ⊥
IsContent (row.EndMessage n) = ⊥
IsContent _ = ⊤

same-record : (name word : List ℕ) (fields own : Fields) → name ≡ word → own ≡ fields → word ∷ own ≡ name ∷ fields
same-record name word fields own e f = cc (e, f)

pub row-back : (w : TermLaws) (o : Opening) (fields : Fields) (r : Row) → HasCodes o.header → IsContent r → row_of o fields ≡ Some r → row_of plain (record_of r) ≡ Some r
unfolding IsNamed row_of
row-back w o [] r h content e = cc e
row-back w o (name ∷ fields) (row.Message m) h content e = absurd content
row-back w o (name ∷ fields) (row.Product p) h content e =
    let k = row-parts o name fields (row.Product p) e in
    let is = k.1 in
    let same = product-fields fields p is.1 in
    let clean : list_all is_clean (product_record p) ≡ true = ap (list_all is_clean) (same-record name (codes "Product") fields _ is.0 same) ∙ k.0 in
    row-built (codes "Product") (p.reference ∷ p.notification ∷ flat_map identifier_fields p.ids) (row.Product p) clean
    (ap (λ (t : Fields). option_map row.Product (product_of t)) same ∙ ap (option_map row.Product) is.1)
row-back w o (name ∷ fields) (row.ProductSupply s) h content e =
    let k = row-parts o name fields (row.ProductSupply s) e in
    let is = k.1 in
    supply-back w name fields s k.0 is.1
row-back w o (name ∷ fields) (row.SupplyDetail d) h content e =
    let k = row-parts o name fields (row.SupplyDetail d) e in
    let is = k.1 in
    let same = detail-fields fields d is.1 in
    let clean : list_all is_clean (detail_record d) ≡ true = ap (list_all is_clean) (same-record name (codes "SupplyDetail") fields _ is.0 same) ∙ k.0 in
    row-built (codes "SupplyDetail") (d.supplier.role ∷ (party_fields d.supplier.party ++ (d.supplier.name ∷ d.availability ∷ unwrap_or d.unpriced [] ∷ []))) (row.SupplyDetail d) clean
    (ap (λ (t : Fields). option_map row.SupplyDetail (detail_of t)) same ∙ ap (option_map row.SupplyDetail) is.1)
row-back w o (name ∷ fields) (row.Price p) h content e =
    let k = row-parts o name fields (row.Price p) e in
    let is = k.1 in
    let priced = price-read w o name fields p h k.0 is.1 in
    row-built (codes "Price") (p.price_type ∷ amount_text p.amount ∷ p.currency ∷ (territory_fields p.territory ++ (day_field p.from ∷ day_field p.until ∷ minimum_fields p.minimum))) (row.Price p) (price-clean w p priced)
    (ap (option_map row.Price) (price-built w p priced))
row-back w o (name ∷ fields) (row.EndMessage n) h content e = absurd content

pub end-back : (w : TermLaws) (n : ℕ) → n < 1_000_000_000 → row_of plain (end_record n) ≡ Some (row.EndMessage n)
end-back w n small =
    let reads = w.digits n small in
    row-built (codes "EndMessage") (decimal n ∷ []) (row.EndMessage n) (and_from _ _ (digits-clean (decimal n) n reads) refl) (ap (option_map row.EndMessage) reads)

-- the defaults of a header that was read are codes

optional-code : (term : List ℕ → Option (List ℕ)) (text : List ℕ) (found : Option (List ℕ)) → ((t c : List ℕ) → term t ≡ Some c → term c ≡ Some c) → optional term text ≡ Some found → (t : List ℕ) → found ≡ Some t → term t ≡ Some t
optional-code term [] found again e t f = cc (same_Some None found e, f)
optional-code term (b ∷ bs) found again e t f =
    let (x, reads, same) = mapped-some Some (term (b ∷ bs)) found e in
    again (b ∷ bs) t (reads ∙ ap Some (same_Some x t (same ∙ f)))

from-codes : (version sender_type sender_value to_type to_value number repeat sent price_type currency : List ℕ) (o : Opening)
    → opening_from version sender_type sender_value to_type to_value number repeat sent price_type currency ≡ Some o → HasCodes o.header
unfolding opening_from
from-codes version sender_type sender_value to_type to_value number repeat sent price_type currency o e =
    let (v, _, e1) = bind-some (form_of version) _ o e in
    let (s, _, e2) = bind-some (party_of sender_type sender_value) _ o e1 in
    let (a, _, e3) = bind-some (optional_party to_type to_value) _ o e2 in
    let (n, _, e4) = bind-some (optional number_of number) _ o e3 in
    let (r, _, e5) = bind-some (optional digits_of repeat) _ o e4 in
    let (t, reads_t, e6) = bind-some (optional code2_of price_type) _ o e5 in
    let (c, reads_c, e7) = bind-some (optional currency_of currency) _ o e6 in
    let same = same_Some _ o e7 in
    rw (← same) (record { type_code = optional-code code2_of price_type t code2-again reads_t; currency_code = optional-code currency_of currency c currency-again reads_c })

fields-codes : (fields : Fields) (o : Opening) → opening_fields fields ≡ Some o → HasCodes o.header
unfolding opening_fields
fields-codes [] o e = cc e
fields-codes (a ∷ []) o e = cc e
fields-codes (a ∷ b ∷ []) o e = cc e
fields-codes (a ∷ b ∷ c ∷ []) o e = cc e
fields-codes (a ∷ b ∷ c ∷ d ∷ []) o e = cc e
fields-codes (a ∷ b ∷ c ∷ d ∷ f ∷ []) o e = cc e
fields-codes (a ∷ b ∷ c ∷ d ∷ f ∷ g ∷ []) o e = cc e
fields-codes (a ∷ b ∷ c ∷ d ∷ f ∷ g ∷ h ∷ []) o e = cc e
fields-codes (a ∷ b ∷ c ∷ d ∷ f ∷ g ∷ h ∷ i ∷ []) o e = cc e
fields-codes (a ∷ b ∷ c ∷ d ∷ f ∷ g ∷ h ∷ i ∷ j ∷ []) o e = cc e
fields-codes (a ∷ b ∷ c ∷ d ∷ f ∷ g ∷ h ∷ i ∷ j ∷ k ∷ []) o e = from-codes a b c d f g h i j k o e
fields-codes (a ∷ b ∷ c ∷ d ∷ f ∷ g ∷ h ∷ i ∷ j ∷ k ∷ l ∷ fields) o e = cc e

pub opening-codes : (first : Fields) (o : Opening) → opening_of first ≡ Some o → HasCodes o.header
unfolding opening_of
opening-codes [] o e = cc e
opening-codes (name ∷ fields) o e = by-test (list_all is_clean (name ∷ fields)) (bytes_eq name (codes "Message")) e
  where
    by-test : (t u : Bool) → (if t then (if u then opening_fields fields else None) else None) ≡ Some o → HasCodes o.header
    by-test true true h = fields-codes fields o h
    by-test true false h = cc h
    by-test false u h = cc h
