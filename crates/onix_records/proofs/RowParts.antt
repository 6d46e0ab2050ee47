-- The parts that rows make, and the rows of these parts.
use Rattle.std.proofs.Common.{◌≡◌, ◌≢◌, ◌++◌, ◌∷◌, ◌∙◌, ◌+◌, [], ℕ, List, Bool, true, false, Option, Some, None, refl, sym, ap, arith, length, append_assoc, map}
use Rattle.std.specs.Prelude.{if◌then◌else◌, ◌&&◌, ◌==◌}
use Rattle.std.specs.List.{AllByRecursion, flat_map}
use Rattle.std.proofs.lemmas.Bool.{and_from, and_parts, eq-eqb, eqb-true}
use Rattle.std.proofs.lemmas.List.{append-nil}
use Rattle.std.proofs.lemmas.Option.{cond_some}
use Rattle.onix_records.specs.Grammar.{IsMessage, KeepsOrder, may_follow}
use Rattle.onix_records.specs.Message.{PartLists, ends, front_rows, message_after, message_of, parts_of, with_detail, with_price, with_product, with_supply}
use Rattle.onix_records.specs.PartRows.{HasDetails, SuppliesHaveDetails, content_rows, detail_rows, product_rows, rows_after, supply_rows}
use Rattle.onix_records.specs.Opening.{opening_of}
use Rattle.onix_records.specs.Row.{message_row}
use Rattle.onix_records.specs.declared.parts.Header.{Header}
use Rattle.onix_records.specs.declared.parts.Price.{Price}
use Rattle.onix_records.specs.declared.parts.Product.{Product}
use Rattle.onix_records.specs.declared.parts.ProductSupply.{ProductSupply}
use Rattle.onix_records.specs.declared.parts.SupplyDetail.{SupplyDetail}
use Rattle.onix_records.specs.declared.row.Opening.{Opening}
use Rattle.onix_records.specs.declared.row.Row.{Row}
use Rattle.onix_records.specs.declared.row.Row.TheVariants as row
use Rattle.onix_records.proofs.FrontRows.{bind-some, computed-reads, reads-computed}
use Rattle.onix_records.proofs.Fronts.{is-message, message-reads, reads-length}
use Rattle.onix_records.proofs.Orders.{last-push, last_of}
use Rattle.onix_records.proofs.Bare.{AllBare, all-bare}
use Rattle.onix_terms.specs.Options.{◌>>=◌}

-- The rows of parts make these parts.

-- the same parts, with these prices, details, supplies or products

abbrev set_prices : PartLists → List Price → PartLists
set_prices g ps = record { products = g.products; supplies = g.supplies; details = g.details; prices = ps }

abbrev set_details : PartLists → List SupplyDetail → PartLists
set_details g ds = record { products = g.products; supplies = g.supplies; details = ds; prices = [] }

abbrev set_supplies : PartLists → List ProductSupply → PartLists
set_supplies g ss = record { products = g.products; supplies = ss; details = []; prices = [] }

abbrev set_products : List Product → PartLists
set_products ps = record { products = ps; supplies = []; details = []; prices = [] }

prices-made : (ps : List Price) (rows : List Row) → parts_of (map row.Price ps ++ rows) ≡ set_prices (parts_of rows) (ps ++ (parts_of rows).prices)
unfolding parts_of
prices-made [] rows = refl
prices-made (p ∷ ps) rows = ap (with_price p) (prices-made ps rows)

details-made : (ds : List SupplyDetail) (rows : List Row) → (parts_of rows).prices ≡ []
    → parts_of (flat_map detail_rows ds ++ rows) ≡ set_details (parts_of rows) (ds ++ (parts_of rows).details)
unfolding parts_of
details-made [] rows e = ap (set_prices (parts_of rows)) e
details-made (d ∷ ds) rows e =
    let rest = flat_map detail_rows ds ++ rows in
    let a : (map row.Price d.prices ++ flat_map detail_rows ds) ++ rows ≡ map row.Price d.prices ++ rest = append_assoc (map row.Price d.prices) (flat_map detail_rows ds) rows in
    let own : SupplyDetail = record d { prices = [] } in
    ap (λ (t : List Row). with_detail own (parts_of t)) a
    ∙ ap (with_detail own) (prices-made d.prices rest)
    ∙ ap (λ (g : PartLists). with_detail own (set_prices g (d.prices ++ g.prices))) (details-made ds rows e)
    ∙ ap (λ (ps : List Price). with_detail own (set_prices (set_details (parts_of rows) (ds ++ (parts_of rows).details)) ps)) (append-nil d.prices)

supplies-made : (ss : List ProductSupply) (rows : List Row) → (parts_of rows).prices ≡ [] → (parts_of rows).details ≡ []
    → parts_of (flat_map supply_rows ss ++ rows) ≡ set_supplies (parts_of rows) (ss ++ (parts_of rows).supplies)
unfolding parts_of
supplies-made [] rows e f = ap (set_prices (parts_of rows)) e ∙ ap (set_details (parts_of rows)) f
supplies-made (s ∷ ss) rows e f =
    let rest = flat_map supply_rows ss ++ rows in
    let a : (flat_map detail_rows s.details ++ flat_map supply_rows ss) ++ rows ≡ flat_map detail_rows s.details ++ rest = append_assoc (flat_map detail_rows s.details) (flat_map supply_rows ss) rows in
    let own : ProductSupply = record s { details = [] } in
    let h = supplies-made ss rows e f in
    ap (λ (t : List Row). with_supply own (parts_of t)) a
    ∙ ap (with_supply own) (details-made s.details rest (ap (λ (g : PartLists). g.prices) h))
    ∙ ap (λ (g : PartLists). with_supply own (set_details g (s.details ++ g.details))) h
    ∙ ap (λ (ds : List SupplyDetail). with_supply own (set_details (set_supplies (parts_of rows) (ss ++ (parts_of rows).supplies)) ds)) (append-nil s.details)

products-made : (ps : List Product) (rows : List Row) → (parts_of rows).prices ≡ [] → (parts_of rows).details ≡ [] → (parts_of rows).supplies ≡ []
    → parts_of (flat_map product_rows ps ++ rows) ≡ set_products (ps ++ (parts_of rows).products)
unfolding parts_of
products-made [] rows e f g = ap (set_prices (parts_of rows)) e ∙ ap (set_details (parts_of rows)) f ∙ ap (set_supplies (parts_of rows)) g
products-made (p ∷ ps) rows e f g =
    let rest = flat_map product_rows ps ++ rows in
    let a : (flat_map supply_rows p.supplies ++ flat_map product_rows ps) ++ rows ≡ flat_map supply_rows p.supplies ++ rest = append_assoc (flat_map supply_rows p.supplies) (flat_map product_rows ps) rows in
    let own : Product = record p { supplies = [] } in
    let h = products-made ps rows e f g in
    ap (λ (t : List Row). with_product own (parts_of t)) a
    ∙ ap (with_product own) (supplies-made p.supplies rest (ap (λ (k : PartLists). k.prices) h) (ap (λ (k : PartLists). k.details) h))
    ∙ ap (λ (k : PartLists). with_product own (set_supplies k (p.supplies ++ k.supplies))) h
    ∙ ap (λ (ss : List ProductSupply). with_product own (set_supplies (set_products (ps ++ (parts_of rows).products)) ss)) (append-nil p.supplies)

contents-made : (c : List Product) (n : ℕ) → (parts_of (content_rows c ++ row.EndMessage n ∷ [])).products ≡ c
unfolding parts_of
contents-made c n = ap (λ (g : PartLists). g.products) (products-made c (row.EndMessage n ∷ []) refl refl refl) ∙ append-nil c

ends-cons : (x r : Row) (rows : List Row) → ends x (r ∷ rows) ≡ ends r rows
ends-cons (row.Message h) r rows = refl
ends-cons (row.Product p) r rows = refl
ends-cons (row.ProductSupply s) r rows = refl
ends-cons (row.SupplyDetail d) r rows = refl
ends-cons (row.Price p) r rows = refl
ends-cons (row.EndMessage m) r rows = refl

ends-last : (first : Row) (rows : List Row) (n : ℕ) → last_of first rows ≡ row.EndMessage n → ends first rows ≡ true
ends-last first [] n e = ap (λ (x : Row). ends x []) e
ends-last first (r ∷ rows) n e = ends-cons first r rows ∙ ends-last r rows n e

last-ends : (first : Row) (rows : List Row) → ends first rows ≡ true → (n : ℕ) × (last_of first rows ≡ row.EndMessage n)
last-ends (row.Message h) [] e = cc e
last-ends (row.Product p) [] e = cc e
last-ends (row.ProductSupply s) [] e = cc e
last-ends (row.SupplyDetail d) [] e = cc e
last-ends (row.Price p) [] e = cc e
last-ends (row.EndMessage n) [] e = (n, refl)
last-ends first (r ∷ rows) e = last-ends r rows (sym (ends-cons first r rows) ∙ e)

-- what a message says is what is computed
pub message-computed : (records : List (List (List ℕ))) (h : Header) (c : List Product) → IsMessage records h c → message_of records ≡ Some (h, c)
unfolding message_of message_after
message-computed records h c m =
    let o : Opening = record { form = m.form; header = h } in
    let size : length records ≡ length m.rest + 1 = rw m.split (omega arith) in
    let within = m.within in
    let reads = message-reads o m.rest c (omega (arith, size, within)) m.reads m.details in
    let rows = reads-computed o m.rest (rows_after c) reads in
    let l = reads-length o m.rest (rows_after c) m.reads in
    let last = last-push (message_row o) (content_rows c) (row.EndMessage (1 + length (content_rows c))) in
    let test : ((length (rows_after c) == length m.rest) && ends (message_row o) (rows_after c)) ≡ true = and_from _ _ (eq-eqb (length (rows_after c)) (length m.rest) l) (ends-last (message_row o) (rows_after c) (1 + length (content_rows c)) last) in
    ap message_of m.split
    ∙ ap (λ (t : Option Opening). t >>= (λ (x : Opening). message_after x m.rest)) m.header
    ∙ ap (λ (t : List Row). if (length t == length m.rest) && ends (message_row o) t then Some (h, (parts_of t).products) else None) rows
    ∙ ap (λ (t : Bool). if t then Some (h, (parts_of (rows_after c)).products) else None) test
    ∙ ap (λ (ps : List Product). Some (h, ps)) (contents-made c (1 + length (content_rows c)))

-- Rows that keep the order are those of the parts that they make.

flatten : PartLists → List Row
flatten g = map row.Price g.prices ++ (flat_map detail_rows g.details ++ (flat_map supply_rows g.supplies ++ flat_map product_rows g.products))

-- these rows are those of the parts that they make, with an end, and each supply has a detail
record Rebuilt (rows : List Row) (n : ℕ) : Type 0 where
  same : rows ≡ flatten (parts_of rows) ++ row.EndMessage n ∷ []
  supplies : AllByRecursion HasDetails (parts_of rows).supplies
  products : AllByRecursion SuppliesHaveDetails (parts_of rows).products

no-message : (a : Row) (h : Header) → may_follow a (row.Message h) ≡ false
no-message (row.Message g) h = refl
no-message (row.Product p) h = refl
no-message (row.ProductSupply s) h = refl
no-message (row.SupplyDetail d) h = refl
no-message (row.Price p) h = refl
no-message (row.EndMessage n) h = refl

no-more : (n : ℕ) (y : Row) → may_follow (row.EndMessage n) y ≡ false
no-more n (row.Message g) = refl
no-more n (row.Product p) = refl
no-more n (row.ProductSupply s) = refl
no-more n (row.SupplyDetail d) = refl
no-more n (row.Price p) = refl
no-more n (row.EndMessage m) = refl

more-price : (p : Price) (rows : List Row) (n : ℕ) → Rebuilt rows n → Rebuilt (row.Price p ∷ rows) n
unfolding parts_of flatten
more-price p rows n r = record { same = ap (λ (t : List Row). row.Price p ∷ t) r.same; supplies = r.supplies; products = r.products }

more-detail : (d : SupplyDetail) (rows : List Row) (n : ℕ) → d.prices ≡ [] → Rebuilt rows n → Rebuilt (row.SupplyDetail d ∷ rows) n
unfolding parts_of flatten
more-detail d rows n bare r =
    let g = parts_of rows in
    let own : row.SupplyDetail d ≡ row.SupplyDetail (record d { prices = [] }) = ap (λ (ps : List Price). row.SupplyDetail (record d { prices = ps })) bare in
    let above = flat_map supply_rows g.supplies ++ flat_map product_rows g.products in
    record {
      same =
          ap (λ (t : List Row). row.SupplyDetail d ∷ t) r.same
          ∙ ap (λ (x : Row). x ∷ ((map row.Price g.prices ++ (flat_map detail_rows g.details ++ above)) ++ row.EndMessage n ∷ [])) own
          ∙ ap (λ (t : List Row). row.SupplyDetail (record d { prices = [] }) ∷ (t ++ row.EndMessage n ∷ [])) (sym (append_assoc (map row.Price g.prices) (flat_map detail_rows g.details) above));
      supplies = r.supplies;
      products = r.products;
    }

more-supply : (s : ProductSupply) (rows : List Row) (n : ℕ) → s.details ≡ [] → (parts_of rows).prices ≡ [] → (parts_of rows).details ≢ [] → Rebuilt rows n → Rebuilt (row.ProductSupply s ∷ rows) n
unfolding parts_of flatten
more-supply s rows n bare none some r =
    let g = parts_of rows in
    let own : row.ProductSupply s ≡ row.ProductSupply (record s { details = [] }) = ap (λ (ds : List SupplyDetail). row.ProductSupply (record s { details = ds })) bare in
    let rest = flat_map detail_rows g.details ++ (flat_map supply_rows g.supplies ++ flat_map product_rows g.products) in
    record {
      same =
          ap (λ (t : List Row). row.ProductSupply s ∷ t) r.same
          ∙ ap (λ (ps : List Price). row.ProductSupply s ∷ ((map row.Price ps ++ rest) ++ row.EndMessage n ∷ [])) none
          ∙ ap (λ (x : Row). x ∷ (rest ++ row.EndMessage n ∷ [])) own
          ∙ ap (λ (t : List Row). row.ProductSupply (record s { details = [] }) ∷ (t ++ row.EndMessage n ∷ [])) (sym (append_assoc (flat_map detail_rows g.details) (flat_map supply_rows g.supplies) (flat_map product_rows g.products)));
      supplies = (some, r.supplies);
      products = r.products;
    }

more-product : (p : Product) (rows : List Row) (n : ℕ) → p.supplies ≡ [] → (parts_of rows).prices ≡ [] → (parts_of rows).details ≡ [] → Rebuilt rows n → Rebuilt (row.Product p ∷ rows) n
unfolding parts_of flatten
more-product p rows n bare none nil r =
    let g = parts_of rows in
    let own : row.Product p ≡ row.Product (record p { supplies = [] }) = ap (λ (ss : List ProductSupply). row.Product (record p { supplies = ss })) bare in
    let rest = flat_map supply_rows g.supplies ++ flat_map product_rows g.products in
    record {
      same =
          ap (λ (t : List Row). row.Product p ∷ t) r.same
          ∙ ap (λ (ps : List Price). row.Product p ∷ ((map row.Price ps ++ (flat_map detail_rows g.details ++ rest)) ++ row.EndMessage n ∷ [])) none
          ∙ ap (λ (ds : List SupplyDetail). row.Product p ∷ ((flat_map detail_rows ds ++ rest) ++ row.EndMessage n ∷ [])) nil
          ∙ ap (λ (x : Row). x ∷ (rest ++ row.EndMessage n ∷ [])) own;
      supplies = tt;
      products = (r.supplies, r.products);
    }

-- nothing that may come after a product is a price or a detail
no-detail : (p : Product) (y : Row) (rows : List Row) → may_follow (row.Product p) y ≡ true → ((parts_of (y ∷ rows)).prices ≡ []) × ((parts_of (y ∷ rows)).details ≡ [])
unfolding parts_of
no-detail p (row.Message h) rows m = cc m
no-detail p (row.Product q) rows m = (refl, refl)
no-detail p (row.ProductSupply s) rows m = (refl, refl)
no-detail p (row.SupplyDetail d) rows m = cc m
no-detail p (row.Price q) rows m = cc m
no-detail p (row.EndMessage n) rows m = (refl, refl)

-- what comes after a supply is a detail
some-detail : (s : ProductSupply) (y : Row) (rows : List Row) → may_follow (row.ProductSupply s) y ≡ true → ((parts_of (y ∷ rows)).prices ≡ []) × ((parts_of (y ∷ rows)).details ≢ [])
unfolding parts_of
some-detail s (row.Message h) rows m = cc m
some-detail s (row.Product q) rows m = cc m
some-detail s (row.ProductSupply t) rows m = cc m
some-detail s (row.SupplyDetail d) rows m = (refl, λ e. cc e)
some-detail s (row.Price q) rows m = cc m
some-detail s (row.EndMessage n) rows m = cc m

at-end : (m n : ℕ) → row.EndMessage m ≡ row.EndMessage n → Rebuilt (row.EndMessage m ∷ []) n
unfolding parts_of flatten
at-end m n e = record { same = ap (λ (x : Row). x ∷ []) e; supplies = tt; products = tt }

rebuilds : (a x : Row) (rows : List Row) (n : ℕ) → AllBare (x ∷ rows) → may_follow a x ≡ true → KeepsOrder (x ∷ rows) → last_of x rows ≡ row.EndMessage n → Rebuilt (x ∷ rows) n
rebuilds a (row.Message h) rows n bare m order last = cc (m, no-message a h)
rebuilds a (row.EndMessage k) [] n bare m order last = at-end k n last
rebuilds a (row.EndMessage k) (y ∷ rows) n bare m order last = cc (order.0, no-more k y)
rebuilds a (row.Product p) [] n bare m order last = cc last
rebuilds a (row.Product p) (y ∷ rows) n bare m order last =
    let none = no-detail p y rows order.0 in
    more-product p (y ∷ rows) n bare.0 none.0 none.1 (rebuilds (row.Product p) y rows n bare.1 order.0 order.1 last)
rebuilds a (row.ProductSupply s) [] n bare m order last = cc last
rebuilds a (row.ProductSupply s) (y ∷ rows) n bare m order last =
    let some = some-detail s y rows order.0 in
    more-supply s (y ∷ rows) n bare.0 some.0 some.1 (rebuilds (row.ProductSupply s) y rows n bare.1 order.0 order.1 last)
rebuilds a (row.SupplyDetail d) [] n bare m order last = cc last
rebuilds a (row.SupplyDetail d) (y ∷ rows) n bare m order last =
    more-detail d (y ∷ rows) n bare.0 (rebuilds (row.SupplyDetail d) y rows n bare.1 order.0 order.1 last)
rebuilds a (row.Price p) [] n bare m order last = cc last
rebuilds a (row.Price p) (y ∷ rows) n bare m order last =
    more-price p (y ∷ rows) n (rebuilds (row.Price p) y rows n bare.1 order.0 order.1 last)

-- the parts that the rows after a header make stand in no other but the products
no-parts-left : (h : Header) (x : Row) (rows : List Row) → may_follow (row.Message h) x ≡ true → ((parts_of (x ∷ rows)).prices ≡ []) × ((parts_of (x ∷ rows)).details ≡ []) × ((parts_of (x ∷ rows)).supplies ≡ [])
unfolding parts_of
no-parts-left h (row.Message g) rows m = cc m
no-parts-left h (row.Product p) rows m = (refl, refl, refl)
no-parts-left h (row.ProductSupply s) rows m = cc m
no-parts-left h (row.SupplyDetail d) rows m = cc m
no-parts-left h (row.Price p) rows m = cc m
no-parts-left h (row.EndMessage n) rows m = (refl, refl, refl)

-- the rows after a header that end in an end
pub rows-rebuilt : (h : Header) (rows : List Row) (n : ℕ) → AllBare rows → KeepsOrder (row.Message h ∷ rows) → last_of (row.Message h) rows ≡ row.EndMessage n
    → (rows ≡ flat_map product_rows (parts_of rows).products ++ row.EndMessage n ∷ []) × AllByRecursion SuppliesHaveDetails (parts_of rows).products
unfolding flatten
rows-rebuilt h [] n bare order last = cc last
rows-rebuilt h (x ∷ rows) n bare order last =
    let r = rebuilds (row.Message h) x rows n bare order.0 order.1 last in
    let p = no-parts-left h x rows order.0 in
    let g = parts_of (x ∷ rows) in (
      r.same
          ∙ ap (λ (ps : List Price). (map row.Price ps ++ (flat_map detail_rows g.details ++ (flat_map supply_rows g.supplies ++ flat_map product_rows g.products))) ++ row.EndMessage n ∷ []) p.0
          ∙ ap (λ (ds : List SupplyDetail). (flat_map detail_rows ds ++ (flat_map supply_rows g.supplies ++ flat_map product_rows g.products)) ++ row.EndMessage n ∷ []) p.1
          ∙ ap (λ (ss : List ProductSupply). (flat_map supply_rows ss ++ flat_map product_rows g.products) ++ row.EndMessage n ∷ []) p.2,
      r.products,
    )

pair-parts : (g h : Header) (c d : List Product) → ◌≡◌ {A = Header × List Product} (g, c) (h, d) → (g ≡ h) × (c ≡ d)
pair-parts g h c d e = (ap (λ (p : Header × List Product). p.0) e, ap (λ (p : Header × List Product). p.1) e)

after-meant : (first : List (List ℕ)) (rest : List (List (List ℕ))) (o : Opening) (h : Header) (c : List Product) → opening_of first ≡ Some o → message_after o rest ≡ Some (h, c) → IsMessage (first ∷ rest) h c
unfolding message_after
after-meant first rest o h c opens e =
    let rows = front_rows o (message_row o) 1 rest in
    let (test, same) = cond_some ((length rows == length rest) && ends (message_row o) rows) (o.header, (parts_of rows).products) (h, c) e in
    let p = and_parts _ _ test in
    let reads = computed-reads o rest (eqb-true (length rows) (length rest) p.0) in
    let (n, last) = last-ends (message_row o) rows p.1 in
    let r = rows-rebuilt o.header rows n (all-bare o rest rows reads.reads) reads.order last in
    let both = pair-parts o.header h (parts_of rows).products c same in
    let m = is-message (first ∷ rest) first rest o (parts_of rows).products n refl opens (rw (← r.0) reads) r.1 in
    rw (← both.0, ← both.1) m

-- and what is computed is what a message says
pub message-meant : (records : List (List (List ℕ))) (h : Header) (c : List Product) → message_of records ≡ Some (h, c) → IsMessage records h c
unfolding message_of
message-meant [] h c e = cc e
message-meant (first ∷ rest) h c e =
    let (o, opens, after) = bind-some (opening_of first) (λ (o : Opening). message_after o rest) (h, c) e in
    after-meant first rest o h c opens after
