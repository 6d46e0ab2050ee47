-- Rows put into a table of the catalogues many at a time.
use Rattle.std.proofs.Common.{◌≡◌, ℕ, zero, suc, ◌+◌, ◌-◌, ◌*◌, ◌/◌, ◌<◌, ◌≤◌, Bool, true, false, List, [], ◌∷◌, ◌++◌, length, map, drop, take, slice_range, Ok, Err, Result, lit<, arith, append-nil, refl, sym, ap, subst, ◌∙◌}
use Rattle.std.specs.List.{flat_map}
use Rattle.std.proofs.Math.Nat.{add_comm, mul-add, mul-le-mul_left, mul-one, mul_assoc, mul_comm, one-mul, suc-mul, zero-mul}
use Rattle.std.proofs.lemmas.Nat.{div-mul-add}
use Rattle.std.proofs.Math.Seq.{drop-append-add, drop-nil, take-add, take-append-add, take-length, take-nil}
use Rattle.std.proofs.lemmas.List.{append_assoc, drop-map, length-append, length-drop, length-map, length-take-le, map-append, take-map}
use Rattle.sqlite_value.specs.Order.{Row}
use Rattle.sqlite_sql.specs.Term.{Term}
use Rattle.sqlite_schema.specs.declared.command.Command.TheVariants.{Insert}
use Rattle.sqlite_schema.specs.declared.command.Source.TheVariants.{Values}
use Rattle.sqlite.specs.Listing.{understood}
use Rattle.sqlite.specs.State.{State, Executes}
use Rattle.sqlite.specs.Values.{bound}
use Rattle.sqlite.proofs.Callers.{IsPlain, command_of}
use Rattle.sqlite_value.specs.declared.value.ValueRef.{ValueRef}
use Rattle.onix_records.specs.declared.faults.StoreFault.{StoreFault}
use Rattle.desk_tables.specs.Transactions.{Adding, RunsIn}
use Rattle.desk_tables.proofs.Calls.{adding_ran}
use Rattle.desk_tables.specs.ManyRows.{RowOf, columns_of, many_of, text_of, width_of, with_rows}
use Rattle.desk_tables.specs.RecordChanges.{with_articles, with_minimum_rows, with_offers, with_price_rows, with_records}
use Rattle.desk_tables.specs.RecordRows.{article_columns, minimum_columns, minimum_row, offer_columns, offer_row, price_columns, price_row, record_columns}
use Rattle.desk_tables.specs.Rows.{DeskRows, Holds, unchanged}
use Rattle.desk_tables.specs.Schema.{desk_schema}
use Rattle.desk_tables.specs.declared.many_rows.CatalogueTable.{CatalogueTable}
use Rattle.desk_tables.specs.declared.many_rows.CatalogueTable.TheVariants.{Record, Article, Offer, Price, PriceMinimum}
use Rattle.desk_tables.specs.Calls.{AddsBetween}
use Rattle.desk_tables.specs.declared.work.Work.{Work}
use Rattle.sqlite_trees.specs.declared.store.Store.{Ghosts}
use Rattle.desk_tables.proofs.Addings.{adds_stopped, adds_then}
use Rattle.desk_tables.proofs.Putting.{Puts}
use Rattle.desk_tables.proofs.TableInserts.{puts_articles, puts_minimums, puts_offers, puts_prices, puts_records}
use Rattle.desk_tables.proofs.RecordStatementTexts.{add_record_is, put_8_records_is, put_article_is, put_8_articles_is, put_offer_is, put_8_offers_is, put_price_is, put_8_prices_is, put_minimum_is, put_8_minimums_is}
use Rattle.desk_tables.specs.declared.articles.TheConstants.{PUT_8_ARTICLES, PUT_ARTICLE}
use Rattle.desk_tables.specs.declared.offers.TheConstants.{PUT_8_OFFERS, PUT_OFFER}
use Rattle.desk_tables.specs.declared.prices.TheConstants.{PUT_8_MINIMUMS, PUT_8_PRICES, PUT_MINIMUM, PUT_PRICE}
use Rattle.desk_tables.specs.declared.records.TheConstants.{PUT_8_RECORDS, PUT_RECORD}

-- ---- lists of one element, and of eight

one_is : {A : Type 0} (P : List A → Type 1) → ((a : A) → P (a ∷ [])) → (xs : List A) → length xs ≡ 1 → P xs
one_is P is (a ∷ []) one = is a
one_is P is [] one = absurd (cc)
one_is P is (a ∷ b ∷ xs) one = absurd (omega (arith, one))

eight_are : {A : Type 0} (P : List A → Type 1) → ((a b c d e f g h : A) → P (a ∷ b ∷ c ∷ d ∷ e ∷ f ∷ g ∷ h ∷ [])) → (xs : List A) → length xs ≡ 8 → P xs
eight_are P are (a ∷ b ∷ c ∷ d ∷ e ∷ f ∷ g ∷ h ∷ []) is = are a b c d e f g h
eight_are P are (a ∷ b ∷ c ∷ d ∷ e ∷ f ∷ g ∷ h ∷ i ∷ xs) is = absurd (omega (arith, is))
eight_are P are [] is = absurd (omega (arith, is))
eight_are P are (a ∷ []) is = absurd (omega (arith, is))
eight_are P are (a ∷ b ∷ []) is = absurd (omega (arith, is))
eight_are P are (a ∷ b ∷ c ∷ []) is = absurd (omega (arith, is))
eight_are P are (a ∷ b ∷ c ∷ d ∷ []) is = absurd (omega (arith, is))
eight_are P are (a ∷ b ∷ c ∷ d ∷ e ∷ []) is = absurd (omega (arith, is))
eight_are P are (a ∷ b ∷ c ∷ d ∷ e ∷ f ∷ []) is = absurd (omega (arith, is))
eight_are P are (a ∷ b ∷ c ∷ d ∷ e ∷ f ∷ g ∷ []) is = absurd (omega (arith, is))

-- ---- lists whose elements stand for as many values each

module _ {A B : Type 0} (f : A → List B) (width : ℕ) (wide : (x : A) → length (f x) ≡ width) where
  one_more : (x : A) (n : ℕ) → suc n * width ≡ length (f x) + n * width
  one_more x n = suc-mul n width ∙ add_comm (n * width) width ∙ ap (λ k. k + n * width) (sym (wide x))

  drop_wide : (n : ℕ) (xs : List A) → drop (n * width) (flat_map f xs) ≡ flat_map f (drop n xs)
  drop_wide zero xs = ap (λ m. drop m (flat_map f xs)) (zero-mul width)
  drop_wide (suc n) [] = drop-nil (suc n * width)
  drop_wide (suc n) (x ∷ xs) = ap (λ m. drop m (f x ++ flat_map f xs)) (one_more x n) ∙ drop-append-add (f x) (flat_map f xs) (n * width) ∙ drop_wide n xs

  take_wide : (n : ℕ) (xs : List A) → take (n * width) (flat_map f xs) ≡ flat_map f (take n xs)
  take_wide zero xs = ap (λ m. take m (flat_map f xs)) (zero-mul width)
  take_wide (suc n) [] = take-nil (suc n * width)
  take_wide (suc n) (x ∷ xs) = ap (λ m. take m (f x ++ flat_map f xs)) (one_more x n) ∙ take-append-add (f x) (flat_map f xs) (n * width) ∙ ap (λ l. f x ++ l) (take_wide n xs)

  length_wide : (xs : List A) → length (flat_map f xs) ≡ length xs * width
  length_wide [] = sym (zero-mul width)
  length_wide (x ∷ xs) = length-append (f x) (flat_map f xs) ∙ ap (λ n. length (f x) + n) (length_wide xs) ∙ sym (one_more x (length xs))

taken : {A : Type 0} (n from : ℕ) (xs : List A) → from + n ≤ length xs → length (take n (drop from xs)) ≡ n
taken n from xs within = length-take-le n (drop from xs) (let left = length-drop from xs in omega (arith, within, left))

-- ---- each table

wide : (t : CatalogueTable) (x : RowOf t) → length (columns_of t x) ≡ width_of t
wide Record x = refl
wide Article x = refl
wide Offer x = refl
wide Price x = refl
wide PriceMinimum x = refl

pub put_none : (t : CatalogueTable) (rows : DeskRows) → with_rows t [] rows ≡ rows
put_none Record rows = λ i. record rows { records = append-nil rows.records i }
put_none Article rows = λ i. record rows { articles = append-nil rows.articles i }
put_none Offer rows = λ i. record rows { offers = append-nil rows.offers i }
put_none Price rows = λ i. record rows { prices = append-nil rows.prices i }
put_none PriceMinimum rows = λ i. record rows { minimums = append-nil rows.minimums i }

pub mapped_behind : {A B : Type 0} (f : A → B) (base : List B) (xs ys : List A) → (base ++ map f xs) ++ map f ys ≡ base ++ map f (xs ++ ys)
mapped_behind f base xs ys = append_assoc base (map f xs) (map f ys) ∙ ap (λ l. base ++ l) (sym (map-append f xs ys))

-- rows after those that were put
put_behind : (t : CatalogueTable) (xs ys : List (RowOf t)) (rows : DeskRows) → with_rows t ys (with_rows t xs rows) ≡ with_rows t (xs ++ ys) rows
put_behind Record xs ys rows = λ i. record rows { records = append_assoc rows.records xs ys i }
put_behind Article xs ys rows = λ i. record rows { articles = append_assoc rows.articles xs ys i }
put_behind Offer xs ys rows = λ i. record rows { offers = mapped_behind offer_row rows.offers xs ys i }
put_behind Price xs ys rows = λ i. record rows { prices = mapped_behind price_row rows.prices xs ys i }
put_behind PriceMinimum xs ys rows = λ i. record rows { minimums = mapped_behind minimum_row rows.minimums xs ys i }

-- the text is an INSERT of rows of values
pub record IsInsert (sql : List ℕ) : Type 0 where
  pub at : ℕ
  pub terms : List Term
  pub width : ℕ
  pub command : command_of (understood desk_schema sql) ≡ Insert at (Values terms width)
  pub plain : IsPlain (understood desk_schema sql)

is_insert : {sql : List ℕ} {at width : ℕ} {terms : List Term} → (command_of (understood desk_schema sql) ≡ Insert at (Values terms width)) × IsPlain (understood desk_schema sql) → IsInsert sql
is_insert {at = at} {width} {terms} is = record { at = at; terms = terms; width = width; command = is.0; plain = is.1 }

pub inserts_text : (t : CatalogueTable) (eight : Bool) → IsInsert (text_of t eight)
inserts_text Record false = is_insert add_record_is
inserts_text Record true = is_insert put_8_records_is
inserts_text Article false = is_insert put_article_is
inserts_text Article true = is_insert put_8_articles_is
inserts_text Offer false = is_insert put_offer_is
inserts_text Offer true = is_insert put_8_offers_is
inserts_text Price false = is_insert put_price_is
inserts_text Price true = is_insert put_8_prices_is
inserts_text PriceMinimum false = is_insert put_minimum_is
inserts_text PriceMinimum true = is_insert put_8_minimums_is

-- what it puts
puts_text : (t : CatalogueTable) (eight : Bool) (ys : List (RowOf t)) → length ys ≡ many_of eight → Puts (text_of t eight) (flat_map (columns_of t) ys) (with_rows t ys)
puts_text Record false = one_is (λ ys. Puts PUT_RECORD.now (flat_map record_columns ys) (with_records ys)) (λ a. puts_records PUT_RECORD.now _ a [] add_record_is refl)
puts_text Record true = eight_are (λ ys. Puts PUT_8_RECORDS.now (flat_map record_columns ys) (with_records ys)) (λ a b c d e f g h. puts_records PUT_8_RECORDS.now _ a (b ∷ c ∷ d ∷ e ∷ f ∷ g ∷ h ∷ []) put_8_records_is refl)
puts_text Article false = one_is (λ ys. Puts PUT_ARTICLE.now (flat_map article_columns ys) (with_articles ys)) (λ a. puts_articles PUT_ARTICLE.now _ a [] put_article_is refl)
puts_text Article true = eight_are (λ ys. Puts PUT_8_ARTICLES.now (flat_map article_columns ys) (with_articles ys)) (λ a b c d e f g h. puts_articles PUT_8_ARTICLES.now _ a (b ∷ c ∷ d ∷ e ∷ f ∷ g ∷ h ∷ []) put_8_articles_is refl)
puts_text Offer false = one_is (λ ys. Puts PUT_OFFER.now (flat_map (λ r. offer_columns (offer_row r)) ys) (with_offers ys)) (λ a. puts_offers PUT_OFFER.now _ (offer_row a) [] put_offer_is refl)
puts_text Offer true =
    eight_are (λ ys. Puts PUT_8_OFFERS.now (flat_map (λ r. offer_columns (offer_row r)) ys) (with_offers ys))
    (λ a b c d e f g h. puts_offers PUT_8_OFFERS.now _ (offer_row a) (map offer_row (b ∷ c ∷ d ∷ e ∷ f ∷ g ∷ h ∷ [])) put_8_offers_is refl)
puts_text Price false = one_is (λ ys. Puts PUT_PRICE.now (flat_map (λ r. price_columns (price_row r)) ys) (with_price_rows ys)) (λ a. puts_prices PUT_PRICE.now _ (price_row a) [] put_price_is refl)
puts_text Price true =
    eight_are (λ ys. Puts PUT_8_PRICES.now (flat_map (λ r. price_columns (price_row r)) ys) (with_price_rows ys))
    (λ a b c d e f g h. puts_prices PUT_8_PRICES.now _ (price_row a) (map price_row (b ∷ c ∷ d ∷ e ∷ f ∷ g ∷ h ∷ [])) put_8_prices_is refl)
puts_text PriceMinimum false = one_is (λ ys. Puts PUT_MINIMUM.now (flat_map (λ r. minimum_columns (minimum_row r)) ys) (with_minimum_rows ys)) (λ a. puts_minimums PUT_MINIMUM.now _ (minimum_row a) [] put_minimum_is refl)
puts_text PriceMinimum true =
    eight_are (λ ys. Puts PUT_8_MINIMUMS.now (flat_map (λ r. minimum_columns (minimum_row r)) ys) (with_minimum_rows ys))
    (λ a b c d e f g h. puts_minimums PUT_8_MINIMUMS.now _ (minimum_row a) (map minimum_row (b ∷ c ∷ d ∷ e ∷ f ∷ g ∷ h ∷ [])) put_8_minimums_is refl)

-- ---- one statement after the other

-- the values of a part
part_bound : (values : List ValueRef) (start n : ℕ) → bound (slice_range values start (start + n)) ≡ take n (drop start (bound values))
part_bound values start n =
    let part : ◌≡◌ {A = ℕ} (start + n - start) n = omega arith in
    ap (λ k. bound (take k (drop start values))) part ∙ sym (take-map _ n (drop start values)) ∙ ap (take n) (sym (drop-map _ start values))

module _ (t : CatalogueTable) (eight : Bool) (xs : List (RowOf t)) (place : ℕ) where
  pub next_rows : many_of eight * (place + 1) ≡ many_of eight * place + many_of eight
  next_rows = mul-add (many_of eight) place 1 ∙ ap (λ n. many_of eight * place + n) (mul-one (many_of eight))

  -- the statement of that place puts its rows
  pub puts_next : (params values : Row) → values ≡ flat_map (columns_of t) xs → params ≡ take (many_of eight * width_of t) (drop (place * (many_of eight * width_of t)) values) → many_of eight * (place + 1) ≤ length xs
      → (old new : State) (count : ℕ) (rows : DeskRows) → Holds old.now (with_rows t (take (many_of eight * place) xs) rows) → Executes (text_of t eight) params old new (Ok count)
      → Holds new.now (with_rows t (take (many_of eight * (place + 1)) xs) rows)
  puts_next params values are is within old new count rows h ran =
      let many = many_of eight in
      let from = many * place in
      let ys : List (RowOf t) = take many (drop from xs) in
      let start : place * (many * width_of t) ≡ from * width_of t = sym (mul_assoc place many (width_of t)) ∙ ap (λ n. n * width_of t) (mul_comm place many) in
      let mine : params ≡ flat_map (columns_of t) ys =
      is ∙ ap (λ l. take (many * width_of t) (drop (place * (many * width_of t)) l)) are ∙ ap (λ n. take (many * width_of t) (drop n (flat_map (columns_of t) xs))) start
      ∙ ap (take (many * width_of t)) (drop_wide (columns_of t) (width_of t) (wide t) from xs) ∙ take_wide (columns_of t) (width_of t) (wide t) many (drop from xs) in
      let enough : from + many ≤ length xs = subst (λ n. n ≤ length xs) next_rows within in
      let long : length ys ≡ many = taken many from xs enough in
      let behind : with_rows t ys (with_rows t (take from xs) rows) ≡ with_rows t (take (many * (place + 1)) xs) rows =
      put_behind t (take from xs) ys rows ∙ ap (λ l. with_rows t l rows) (sym (take-add from many xs)) ∙ ap (λ n. with_rows t (take n xs) rows) (sym next_rows) in
      subst (Holds new.now) behind (puts_text t eight ys long old new count (with_rows t (take from xs) rows) h (subst (λ (p : Row). Executes (text_of t eight) p old new (Ok count)) mine ran))

  -- which adds them
  adds_next : {A : Type 0} (params values : Row) → values ≡ flat_map (columns_of t) xs → params ≡ take (many_of eight * width_of t) (drop (place * (many_of eight * width_of t)) values) → many_of eight * (place + 1) ≤ length xs
      → (sql : List ℕ) → sql ≡ text_of t eight → (old new : State) (r : Result A StoreFault) → RunsIn sql params old new r → Adding (with_rows t (take (many_of eight * place) xs)) (with_rows t (take (many_of eight * (place + 1)) xs)) old new r
  adds_next params values are is within sql text old new r ran =
      let insert = inserts_text t eight in
      adding_ran (text_of t eight) _ insert.command insert.plain refl params old new r (subst (λ (s : List ℕ). RunsIn s params old new r) text ran) (λ count rows h x. puts_next params values are is within old new count rows h x)

  -- the same of the part of the values that it is given
  pub adds_part : {A : Type 0} (values : List ValueRef) (many width to : ℕ) → many ≡ many_of eight → width ≡ width_of t → bound values ≡ flat_map (columns_of t) xs → place < to → many_of eight * to ≤ length xs
      → (sql : List ℕ) → sql ≡ text_of t eight → (old new : State) (r : Result A StoreFault) → RunsIn sql (bound (slice_range values (place * (many * width)) (place * (many * width) + many * width))) old new r
      → Adding (with_rows t (take (many_of eight * place) xs)) (with_rows t (take (many_of eight * (place + 1)) xs)) old new r
  adds_part values many width to many_is width_is are low within sql text old new r ran =
      let n = many * width in
      let long : n ≡ many_of eight * width_of t = ap (λ k. k * width) many_is ∙ ap (λ k. many_of eight * k) width_is in
      let part = part_bound values (place * n) n ∙ ap (λ k. take k (drop (place * k) (bound values))) long in
      let below : place + 1 ≤ to = omega (arith, low) in
      let enough : many_of eight * (place + 1) ≤ length xs = let few = mul-le-mul_left (many_of eight) below in omega (arith, few, within) in
      adds_next (bound (slice_range values (place * n) (place * n + n))) (bound values) are part enough sql text old new r ran

-- ---- all rows

wide_enough : (t : CatalogueTable) → 0 < width_of t
wide_enough Record = lit< tt
wide_enough Article = lit< tt
wide_enough Offer = lit< tt
wide_enough Price = lit< tt
wide_enough PriceMinimum = lit< tt

-- how many rows the values are of
pub count_is : (t : CatalogueTable) (xs : List (RowOf t)) (values : List ValueRef) (width : ℕ) → width ≡ width_of t → bound values ≡ flat_map (columns_of t) xs → length values / width ≡ length xs
count_is t xs values width is are =
    let long : length values ≡ length xs * width_of t = sym (length-map values _) ∙ ap length are ∙ length_wide (columns_of t) (width_of t) (wide t) xs in
    let whole : length xs * width_of t + 0 ≡ length xs * width_of t = omega arith in
    ap (λ n. n / width) long ∙ ap (λ w. length xs * width_of t / w) is ∙ ap (λ n. n / width_of t) (sym whole) ∙ div-mul-add (length xs) (width_of t) 0 (wide_enough t)

first : (t : CatalogueTable) → ◌≡◌ {A = DeskRows → DeskRows} (with_rows t []) unchanged
first t = λ i rows. put_none t rows i

module _ {S A B : Type 0} {store : Ghosts S} (t : CatalogueTable) (xs : List (RowOf t)) where
  -- eight by eight, and then one by one
  pub all_put : {old mid new : Work S} {a : A} {r : Result B StoreFault} (count eights : ℕ) → count ≡ length xs → AddsBetween store (with_rows t (take (many_of true * 0) xs)) (with_rows t (take (many_of true * eights) xs)) old mid (Ok a)
      → AddsBetween store (with_rows t (take (many_of false * (8 * eights)) xs)) (with_rows t (take (many_of false * count) xs)) mid new r → AddsBetween store unchanged (with_rows t xs) old new r
  all_put {old} {mid} {new} {a} {r} count eights all one two =
      let last : take (many_of false * count) xs ≡ xs = ap (λ n. take n xs) (one-mul count ∙ all) ∙ take-length xs in
      adds_then (subst (λ f. AddsBetween store f (with_rows t (take (8 * eights) xs)) old mid (Ok a)) (first t) one)
      (subst (λ (n : ℕ). AddsBetween store (with_rows t (take n xs)) (with_rows t xs) mid new r) (one-mul (8 * eights)) (subst (λ l. AddsBetween store (with_rows t (take (many_of false * (8 * eights)) xs)) (with_rows t l) mid new r) last two))

  -- the first of them fails
  pub none_put : {old new : Work S} {e : StoreFault} {r : Result B StoreFault} (eights : ℕ) → r ≡ Err e → AddsBetween {A = A} store (with_rows t (take (many_of true * 0) xs)) (with_rows t (take (many_of true * eights) xs)) old new (Err e)
      → AddsBetween store unchanged (with_rows t xs) old new r
  none_put {old} {new} {e} eights is one = adds_stopped is (subst (λ f. AddsBetween {A = A} store f (with_rows t (take (8 * eights) xs)) old new (Err e)) (first t) one)
