-- Rows in order, and ends that count.
use Rattle.std.proofs.Common.{◌≡◌, ◌≢◌, ◌++◌, ◌∷◌, ◌+◌, [], ℕ, suc, List, true, refl, sym, arith, length, length-append, append_assoc, add-zero, subst, map}
use Rattle.std.specs.List.{AllByRecursion, flat_map}
use Rattle.std.proofs.lemmas.Bool.{eq-eqb}
use Rattle.onix_records.specs.Grammar.{CountsAfter, KeepsOrder, is_counted, may_follow}
use Rattle.onix_records.specs.PartRows.{HasDetails, SuppliesHaveDetails, detail_rows, product_rows, supply_rows}
use Rattle.onix_records.specs.declared.parts.Header.{Header}
use Rattle.onix_records.specs.declared.parts.Price.{Price}
use Rattle.onix_records.specs.declared.parts.Product.{Product}
use Rattle.onix_records.specs.declared.parts.ProductSupply.{ProductSupply}
use Rattle.onix_records.specs.declared.parts.SupplyDetail.{SupplyDetail}
use Rattle.onix_records.specs.declared.row.Row.{Row}
use Rattle.onix_records.specs.declared.row.Row.TheVariants as row

-- the last of a row and those after it
abbrev pub last_of : Row → List Row → Row
last_of first [] = first
last_of first (r ∷ rows) = last_of r rows

pub last-push : (first : Row) (rows : List Row) (x : Row) → last_of first (rows ++ x ∷ []) ≡ x
last-push first [] x = refl
last-push first (r ∷ rows) x = last-push r rows x

-- the row after those that stand may follow the last of them
pub order-at : (first : Row) (rows : List Row) (x : Row) (rest : List Row) → KeepsOrder (first ∷ (rows ++ x ∷ rest)) → may_follow (last_of first rows) x ≡ true
order-at first [] x rest h = h.0
order-at first (r ∷ rows) x rest h = order-at r rows x rest h.1

pub order-push : (first : Row) (rows : List Row) (x : Row) → KeepsOrder (first ∷ rows) → may_follow (last_of first rows) x ≡ true → KeepsOrder (first ∷ (rows ++ x ∷ []))
order-push first [] x h m = (m, tt)
order-push first (r ∷ rows) x h m = (h.0, order-push r rows x h.1 m)

pub counts-at : (i : ℕ) (rows : List Row) (x : Row) (rest : List Row) → CountsAfter i (rows ++ x ∷ rest) → is_counted x (i + length rows) ≡ true
counts-at i [] x rest h = rw (add-zero i) h.0
counts-at i (r ∷ rows) x rest h = let e : i + suc (length rows) ≡ suc i + length rows = omega arith in rw e (counts-at (suc i) rows x rest h.1)

pub counts-push : (i : ℕ) (rows : List Row) (x : Row) → CountsAfter i rows → is_counted x (i + length rows) ≡ true → CountsAfter i (rows ++ x ∷ [])
counts-push i [] x h c = (rw (add-zero i) at c, tt)
counts-push i (r ∷ rows) x h c =
    let e : i + suc (length rows) ≡ suc i + length rows = omega arith in
    (h.0, counts-push (suc i) rows x h.1 (rw e at c))

-- The rows of parts keep the order.

-- a product or the end may come
Closes : Row → Type 0
Closes a = ((p : Product) → may_follow a (row.Product p) ≡ true) × ((n : ℕ) → may_follow a (row.EndMessage n) ≡ true)

TakesSupply : Row → Type 0
TakesSupply a = (s : ProductSupply) → may_follow a (row.ProductSupply s) ≡ true

-- whatever row closes before them, these rows keep the order after it
GoesOn : List Row → Type 0
GoesOn rest = (a : Row) → Closes a → KeepsOrder (a ∷ rest)

product-closes : (p : Product) → Closes (row.Product p)
unfolding Closes
product-closes p = (λ q. refl, λ n. refl)

message-closes : (h : Header) → Closes (row.Message h)
unfolding Closes
message-closes h = (λ q. refl, λ n. refl)

-- a price, a detail or a supply may come, or what follows a product
record AfterDetail (a : Row) : Type 0 where
  price : (p : Price) → may_follow a (row.Price p) ≡ true
  detail : (d : SupplyDetail) → may_follow a (row.SupplyDetail d) ≡ true
  supply : TakesSupply a
  closes : Closes a

after-detail : (d : SupplyDetail) → AfterDetail (row.SupplyDetail d)
unfolding Closes TakesSupply
after-detail d = record { price = λ p. refl; detail = λ e. refl; supply = λ s. refl; closes = (λ p. refl, λ n. refl) }

after-price : (p : Price) → AfterDetail (row.Price p)
unfolding Closes TakesSupply
after-price p = record { price = λ q. refl; detail = λ e. refl; supply = λ s. refl; closes = (λ q. refl, λ n. refl) }

-- prices, and then what may follow one
prices-order : (a : Row) (ps : List Price) (rest : List Row) → AfterDetail a → ((b : Row) → AfterDetail b → KeepsOrder (b ∷ rest))
    → KeepsOrder (a ∷ (map row.Price ps ++ rest))
prices-order a [] rest h k = k a h
prices-order a (p ∷ ps) rest h k = (h.price p, prices-order (row.Price p) ps rest (after-price p) k)

-- details, and then what may follow one
details-order : (a : Row) (ds : List SupplyDetail) (rest : List Row) → AfterDetail a → ((b : Row) → AfterDetail b → KeepsOrder (b ∷ rest))
    → KeepsOrder (a ∷ (flat_map detail_rows ds ++ rest))
details-order a [] rest h k = k a h
details-order a (d ∷ ds) rest h k =
    let own = row.SupplyDetail (record d { prices = [] }) in
    let e : (map row.Price d.prices ++ flat_map detail_rows ds) ++ rest ≡ map row.Price d.prices ++ (flat_map detail_rows ds ++ rest) = append_assoc (map row.Price d.prices) (flat_map detail_rows ds) rest in
    let order = prices-order own d.prices (flat_map detail_rows ds ++ rest) (after-detail (record d { prices = [] })) (λ b c. details-order b ds rest c k) in
    (h.detail (record d { prices = [] }), subst (λ (rows : List Row). KeepsOrder (own ∷ rows)) (sym e) order)

supply-order : (s : ProductSupply) (ds : List SupplyDetail) (rest : List Row) → ds ≢ [] → ((b : Row) → AfterDetail b → KeepsOrder (b ∷ rest))
    → KeepsOrder (row.ProductSupply s ∷ (flat_map detail_rows ds ++ rest))
supply-order s [] rest some k = absurd (some refl)
supply-order s (d ∷ ds) rest some k =
    let own = row.SupplyDetail (record d { prices = [] }) in
    let e : (map row.Price d.prices ++ flat_map detail_rows ds) ++ rest ≡ map row.Price d.prices ++ (flat_map detail_rows ds ++ rest) = append_assoc (map row.Price d.prices) (flat_map detail_rows ds) rest in
    let order = prices-order own d.prices (flat_map detail_rows ds ++ rest) (after-detail (record d { prices = [] })) (λ b c. details-order b ds rest c k) in
    (refl, subst (λ (rows : List Row). KeepsOrder (own ∷ rows)) (sym e) order)

-- supplies, and then what may follow a detail
supplies-order : (a : Row) (ss : List ProductSupply) (rest : List Row) → Closes a → TakesSupply a → AllByRecursion HasDetails ss → GoesOn rest
    → KeepsOrder (a ∷ (flat_map supply_rows ss ++ rest))
unfolding GoesOn TakesSupply
supplies-order a [] rest c t all go = go a c
supplies-order a (s ∷ ss) rest c t all go =
    let e : (flat_map detail_rows s.details ++ flat_map supply_rows ss) ++ rest ≡ flat_map detail_rows s.details ++ (flat_map supply_rows ss ++ rest) = append_assoc (flat_map detail_rows s.details) (flat_map supply_rows ss) rest in
    let order = supply-order (record s { details = [] }) s.details (flat_map supply_rows ss ++ rest) all.0
    (λ b h. supplies-order b ss rest h.closes h.supply all.1 go) in
    (t (record s { details = [] }), subst (λ (rows : List Row). KeepsOrder (row.ProductSupply (record s { details = [] }) ∷ rows)) (sym e) order)

products-order : (a : Row) (ps : List Product) (rest : List Row) → Closes a → AllByRecursion SuppliesHaveDetails ps → GoesOn rest
    → KeepsOrder (a ∷ (flat_map product_rows ps ++ rest))
unfolding Closes GoesOn TakesSupply
products-order a [] rest c all go = go a c
products-order a (p ∷ ps) rest c all go =
    let e : (flat_map supply_rows p.supplies ++ flat_map product_rows ps) ++ rest ≡ flat_map supply_rows p.supplies ++ (flat_map product_rows ps ++ rest) = append_assoc (flat_map supply_rows p.supplies) (flat_map product_rows ps) rest in
    let order = supplies-order (row.Product (record p { supplies = [] })) p.supplies (flat_map product_rows ps ++ rest) (product-closes p) (λ s. refl) all.0
    (λ b d. products-order b ps rest d all.1 go) in
    (c.0 (record p { supplies = [] }), subst (λ (rows : List Row). KeepsOrder (row.Product (record p { supplies = [] }) ∷ rows)) (sym e) order)

-- the rows of a message keep the order
pub message-order : (h : Header) (ps : List Product) (n : ℕ) → AllByRecursion SuppliesHaveDetails ps → KeepsOrder (row.Message h ∷ (flat_map product_rows ps ++ row.EndMessage n ∷ []))
unfolding Closes GoesOn
message-order h ps n all = products-order (row.Message h) ps (row.EndMessage n ∷ []) (message-closes h) all (λ a c. (c.1 n, tt))

-- The rows of parts count nothing.

prices-count : (i : ℕ) (ps : List Price) (rest : List Row) → ((j : ℕ) → j ≡ i + length (map row.Price ps) → CountsAfter j rest) → CountsAfter i (map row.Price ps ++ rest)
prices-count i [] rest k = k i (omega arith)
prices-count i (p ∷ ps) rest k = (refl, prices-count (suc i) ps rest (λ j e. k j (omega (arith, e))))

details-count : (i : ℕ) (ds : List SupplyDetail) (rest : List Row) → ((j : ℕ) → j ≡ i + length (flat_map detail_rows ds) → CountsAfter j rest) → CountsAfter i (flat_map detail_rows ds ++ rest)
details-count i [] rest k = k i (omega arith)
details-count i (d ∷ ds) rest k =
    let e : (map row.Price d.prices ++ flat_map detail_rows ds) ++ rest ≡ map row.Price d.prices ++ (flat_map detail_rows ds ++ rest) = append_assoc (map row.Price d.prices) (flat_map detail_rows ds) rest in
    let l = length-append (map row.Price d.prices) (flat_map detail_rows ds) in (
      refl,
      subst (λ (rows : List Row). CountsAfter (suc i) rows) (sym e)
          (prices-count (suc i) d.prices (flat_map detail_rows ds ++ rest) (λ j f. details-count j ds rest (λ m g. k m (omega (arith, f, g, l))))),
    )

supplies-count : (i : ℕ) (ss : List ProductSupply) (rest : List Row) → ((j : ℕ) → j ≡ i + length (flat_map supply_rows ss) → CountsAfter j rest) → CountsAfter i (flat_map supply_rows ss ++ rest)
supplies-count i [] rest k = k i (omega arith)
supplies-count i (s ∷ ss) rest k =
    let e : (flat_map detail_rows s.details ++ flat_map supply_rows ss) ++ rest ≡ flat_map detail_rows s.details ++ (flat_map supply_rows ss ++ rest) = append_assoc (flat_map detail_rows s.details) (flat_map supply_rows ss) rest in
    let l = length-append (flat_map detail_rows s.details) (flat_map supply_rows ss) in (
      refl,
      subst (λ (rows : List Row). CountsAfter (suc i) rows) (sym e)
          (details-count (suc i) s.details (flat_map supply_rows ss ++ rest) (λ j f. supplies-count j ss rest (λ m g. k m (omega (arith, f, g, l))))),
    )

products-count : (i : ℕ) (ps : List Product) (rest : List Row) → ((j : ℕ) → j ≡ i + length (flat_map product_rows ps) → CountsAfter j rest) → CountsAfter i (flat_map product_rows ps ++ rest)
products-count i [] rest k = k i (omega arith)
products-count i (p ∷ ps) rest k =
    let e : (flat_map supply_rows p.supplies ++ flat_map product_rows ps) ++ rest ≡ flat_map supply_rows p.supplies ++ (flat_map product_rows ps ++ rest) = append_assoc (flat_map supply_rows p.supplies) (flat_map product_rows ps) rest in
    let l = length-append (flat_map supply_rows p.supplies) (flat_map product_rows ps) in (
      refl,
      subst (λ (rows : List Row). CountsAfter (suc i) rows) (sym e)
          (supplies-count (suc i) p.supplies (flat_map product_rows ps ++ rest) (λ j f. products-count j ps rest (λ m g. k m (omega (arith, f, g, l))))),
    )

-- the end of a message counts right
pub message-counts : (ps : List Product) → CountsAfter 1 (flat_map product_rows ps ++ row.EndMessage (1 + length (flat_map product_rows ps)) ∷ [])
message-counts ps = products-count 1 ps (row.EndMessage (1 + length (flat_map product_rows ps)) ∷ []) (λ j e. (eq-eqb (1 + length (flat_map product_rows ps)) j (sym e), tt))
