-- The records of the Prices of a SupplyDetail, with those that terms compute, are rows of Prices.
use Rattle.std.proofs.Common.{◌≡◌, ◌≤◌, ◌<◌, ◌/◌, ◌%◌, ◌^◌, ◌∙◌, ◌⊎◌, inl, inr, ℕ, List, [], ◌∷◌, ◌++◌, Bool, true, false, Option, Some, None, IfSome, length, map, drop, take, slice_get, refl, sym, ap, subst, arith, lit<, length-append, zero, suc}
use Rattle.std.specs.Prelude.{◌==◌, ◌&&◌, ◌||◌, codes, decimal, if◌then◌else◌, nat_lt}
use Rattle.std.specs.Char.{is_ascii, is_ascii_digit}
use Rattle.std.specs.List.{AllByRecursion, flat_map, list_all}
use Rattle.std.specs.Option.{option_map_or, option_or, option_to_list}
use Rattle.std.specs.Str.{is_utf8}
use Rattle.std.proofs.lemmas.Bool.{and_from, and_parts, eqb-true}
use Rattle.std.proofs.lemmas.Bool.Decides.{nat_tests}
use Rattle.std.proofs.lemmas.Fmt.{digits_decimal, length-decimal-le}
use Rattle.std.proofs.lemmas.List.{map-append}
use Rattle.std.proofs.lemmas.List.Folds.{list_all-append}
use Rattle.std.proofs.lemmas.Option.{cond_some, same_Some}
use Rattle.feed_outline.specs.Nodes.{Nodes}
use Rattle.onix_terms.specs.Amount.{amount_of}
use Rattle.onix_terms.specs.Code.{code2_of, currency_of}
use Rattle.onix_terms.specs.Day.{day_of}
use Rattle.onix_terms.specs.Digits.{two_digits}
use Rattle.onix_terms.specs.Quantity.{quantity_of}
use Rattle.onix_terms.specs.Territory.{territory_of}
use Rattle.onix_terms.proofs.DigitTexts.{own, two-digits}
use Rattle.onix_terms.proofs.Ranges.{amount-range, positive-range}
use Rattle.onix_records.specs.Fields.{is_clean, optional, or_default}
use Rattle.onix_records.specs.Price.{day_field, minimum_fields, minimum_of, price_from, price_of, quantity_or_one}
use Rattle.onix_records.specs.declared.parts.Header.{Header}
use Rattle.onix_records.specs.declared.parts.Price.{Price}
use Rattle.onix_records.specs.declared.row.Form.{Form}
use Rattle.onix_records.specs.declared.row.Form.TheVariants as form
use Rattle.onix_records.specs.declared.row.Opening.{Opening}
use Rattle.onix_records.specs.declared.row.Row.TheVariants as row
use Rattle.onix_records.proofs.CleanTexts.{clean-of, plain_byte}
use Rattle.onix_records.proofs.FrontRows.{bind-some}
use Rattle.feed_terms.specs.Amounts.{two_decimals}
use Rattle.feed_terms.specs.Laws.{ComputedReadsBack, HasCodes, IsInRange, IsOfRange, IsWritable, WrittenAreWritable}
use Rattle.feed_terms.specs.Prices.{copies_of, discount_of, is_of_price, percent_said}
use Rattle.feed_terms.specs.WithTerms.{computed_record, price_of_computed, prices_with, with_all, with_computed, written_of}
use Rattle.feed_terms.specs.declared.computed.ComputedPrice.{ComputedPrice}
use Rattle.feed_terms.specs.declared.price.Discount.{Discount}
use Rattle.feed_terms.specs.declared.price.GivenPrice.{GivenPrice}
use Rattle.feed_terms.specs.declared.term.Term.{Term}
use Rattle.feed_mapping.specs.Elements.{Composite, each_at, text_at}
use Rattle.feed_mapping.specs.Notes.{Reason, foreign}
use Rattle.feed_mapping.specs.declared.notes.Foreign.TheVariants.{LongTerritory}
use Rattle.feed_mapping.specs.Outcomes.{Outcome, all_records, nothing, outcome_records}
use Rattle.feed_mapping.specs.PriceTexts.{PriceTexts}
use Rattle.feed_mapping.specs.Prices.{PriceContext, closed_reason, date_reason, early_reasons, free_reason, is_nothing, last_reason, long_reason, minimum_written, narrowed, outcome_of, price_outcome, price_reasons, record_reason, right_days, territory_written, written_fields}
use Rattle.feed_mapping.specs.PriceTerms.{all_given, discount_in, given_by, given_of}
use Rattle.feed_mapping.specs.Records.{first_some, parsed}
use Rattle.feed_mapping.specs.Territories.{area_fields}
use Rattle.feed_mapping.proofs.PriceRows.{Reads, as-rows, cond-then, both, last-none, no-rows, one-first, or-none, price-row, said-read, taken}
use Rattle.feed_mapping.proofs.Utf8Laws.{ascii-field, named-utf8}

-- ---- what the terms see of a Price

-- nothing, where it is not written; else it, by the fields of its record
abbrev pub IsSeen : PriceContext → PriceTexts → Outcome → Type 0
IsSeen context price outcome =
    ((outcome_records outcome ≡ []) × (given_by outcome (parsed (price_of context.opening) (written_fields context price)) (codes "Price" ∷ written_fields context price) price.below ≡ []))
    ⊎ ((p : Price) × (outcome_records outcome ≡ (codes "Price" ∷ written_fields context price) ∷ [])
    × (given_by outcome (parsed (price_of context.opening) (written_fields context price)) (codes "Price" ∷ written_fields context price) price.below ≡ given_of p (codes "Price" ∷ written_fields context price) price.below ∷ [])
    × (parsed (price_of context.opening) (written_fields context price) ≡ Some p))

reason-seen : (context : PriceContext) (price : PriceTexts) (kind : Option Reason) → first_some (price_reasons context price) ≡ kind → IsSeen context price (outcome_of kind context price)
reason-seen context price (Some kind) e = inl (refl, refl)
reason-seen context price None e =
    let last : last_reason context price ≡ None = last-none (early_reasons (date_reason price) (free_reason price) price) (last_reason context price) e in
    let beside : option_or (closed_reason context price) (long_reason context price) ≡ None = or-none (record_reason context price) (option_or (closed_reason context price) (long_reason context price)) last in
    let none : long_reason context price ≡ None = or-none (closed_reason context price) (long_reason context price) beside in
    let (p, read) = taken (parsed (price_of context.opening) (written_fields context price)) (foreign LongTerritory []) none in
    inr (p, refl, ap (λ (q : Option Price). given_by (outcome_of None context price) q (codes "Price" ∷ written_fields context price) price.below) read, read)

pub seen : (context : PriceContext) (price : PriceTexts) → IsSeen context price (price_outcome context price)
seen context price = go (is_nothing context price)
  where
    go : (bare : Bool) → IsSeen context price (if bare then nothing else outcome_of (first_some (price_reasons context price)) context price)
    go true = inl (refl, refl)
    go false = reason-seen context price (first_some (price_reasons context price)) refl

-- ---- records and what the terms see fit each other

abbrev IsLong : List (List ℕ) → Type 0
IsLong r = 9 ≤ length r

-- as many records as the terms see, each of nine fields at least
abbrev Fit : List (List (List ℕ)) → List GivenPrice → Type 0
Fit records given = (length records ≡ length given) × AllByRecursion IsLong records

fit-more : (a b : List (List (List ℕ))) (g h : List GivenPrice) → Fit a g → Fit b h → Fit (a ++ b) (g ++ h)
fit-more a b g h f k = (length-append a b ∙ omega (arith, f.0, k.0, length-append g h), all a f.1)
  where
    all : (a : List (List (List ℕ))) → AllByRecursion IsLong a → AllByRecursion IsLong (a ++ b)
    all [] none = k.1
    all (r ∷ rs) some = (some.0, all rs some.1)

area-three : (x : Option (List ℕ)) (fields : List (List ℕ)) → length fields ≡ 3 → length (option_map_or (λ (excluded : List ℕ). [] ∷ codes "WORLD" ∷ excluded ∷ []) x fields) ≡ 3
area-three None fields e = e
area-three (Some excluded) fields e = refl

-- the record of a Price has the nine fields that each has
pub long-written : (context : PriceContext) (price : PriceTexts) → 9 ≤ length (codes "Price" ∷ written_fields context price)
long-written context price =
    let t = territory_written context price in
    let behind : List (List ℕ) = day_field (right_days price).first ∷ day_field (right_days price).last ∷ [] in
    let three : length t ≡ 3 = area-three (narrowed context price) (area_fields price.area) refl in
    omega (arith, three, length-append t behind, length-append (t ++ behind) (option_to_list (minimum_written context price)))

one-fits : (context : PriceContext) (price : PriceTexts) (outcome : Outcome) → IsSeen context price outcome
    → Fit (outcome_records outcome) (given_by outcome (parsed (price_of context.opening) (written_fields context price)) (codes "Price" ∷ written_fields context price) price.below)
one-fits context price outcome (inl (bare, none)) = rw (bare, none) (refl, tt)
one-fits context price outcome (inr (p, one, given, read)) = rw (one, given) (refl, (long-written context price, tt))

pub all-fit : (context : PriceContext) (cs : List PriceTexts) → Fit (all_records (price_outcome context) cs) (all_given context cs)
all-fit context [] = (refl, tt)
all-fit context (c ∷ cs) = fit-more _ _ _ _ (one-fits context c (price_outcome context c) (seen context c)) (all-fit context cs)

pub long-at : (records : List (List (List ℕ))) (k : ℕ) → AllByRecursion IsLong records → k < length records → IfSome (slice_get records k) IsLong
long-at [] k all l = tt
long-at (r ∷ rs) zero all l = all.0
long-at (r ∷ rs) (suc k) all l = long-at rs k all.1 (omega arith)

-- ---- the fields of a computed record

abbrev is_simple : ℕ → Bool
is_simple b = is_ascii_digit b || (b == 46)

weaker : (p q : ℕ → Bool) → ((b : ℕ) → p b ≡ true → q b ≡ true) → (bs : List ℕ) → list_all p bs ≡ true → list_all q bs ≡ true
weaker p q f [] h = refl
weaker p q f (b ∷ bs) h = let r = and_parts (p b) (list_all p bs) h in and_from (q b) (list_all q bs) (f b r.0) (weaker p q f bs r.1)

simple-plain : (b : ℕ) → is_simple b ≡ true → plain_byte b ≡ true
simple-plain b h = grind (arith, nat_tests, h)

simple-ascii : (b : ℕ) → is_simple b ≡ true → is_ascii b ≡ true
simple-ascii b h = grind (arith, nat_tests, h)

digit-simple : (b : ℕ) → is_ascii_digit b ≡ true → is_simple b ≡ true
digit-simple b h = grind (arith, nat_tests, h)

-- a short text of digits and points
record IsSimple (text : List ℕ) : Type 0 where
  short : length text ≤ 1024
  all : list_all is_simple text ≡ true

simple-clean : (text : List ℕ) → IsSimple text → is_clean text ≡ true
simple-clean text is = clean-of text is.short (weaker is_simple plain_byte simple-plain text is.all)

simple-utf8 : (text : List ℕ) → IsSimple text → is_utf8 text ≡ true
simple-utf8 text is = ascii-field text (weaker is_simple is_ascii simple-ascii text is.all)

code-simple : (code : List ℕ) → code2_of code ≡ Some code → IsSimple code
code-simple code e =
    let t = (cond_some ((length code == 2) && list_all is_ascii_digit code) code code e).0 in
    let p = and_parts (length code == 2) (list_all is_ascii_digit code) t in
    let l = eqb-true (length code) 2 p.0 in
    record { short = omega (arith, l); all = weaker is_ascii_digit is_simple digit-simple code p.1 }

amount-simple : (n : ℕ) → n < 1_000_000_000_000 → IsSimple (two_decimals n)
amount-simple n small =
    let wide : n / 1000 < 2 ^ 64 = omega arith in
    let whole : list_all is_ascii_digit (decimal (n / 1000)) ≡ true = digits_decimal own (n / 1000) wide in
    let few : length (decimal (n / 1000)) ≤ 9 = length-decimal-le 9 (n / 1000) (lit< tt) (omega arith) wide in
    let l = length-append (decimal (n / 1000)) (46 ∷ two_digits (n % 1000 / 10)) in
    let part : list_all is_simple (two_digits (n % 1000 / 10)) ≡ true = weaker is_ascii_digit is_simple digit-simple (two_digits (n % 1000 / 10)) (two-digits (n % 1000 / 10) [] (omega arith)) in
    let point : is_simple 46 ≡ true = refl in record {
      short = omega (arith, few, l);
      all = list_all-append is_simple (decimal (n / 1000)) (46 ∷ two_digits (n % 1000 / 10))
          ∙ and_from _ _ (weaker is_ascii_digit is_simple digit-simple (decimal (n / 1000)) whole) (and_from _ _ point part);
    }

decimal-simple : (m : ℕ) → m < 1_000_000 → IsSimple (decimal m)
decimal-simple m small =
    let wide : m < 2 ^ 64 = omega arith in
    let few : length (decimal m) ≤ 9 = length-decimal-le 9 m (lit< tt) (omega arith) wide in
    record { short = omega (arith, few); all = weaker is_ascii_digit is_simple digit-simple (decimal m) (digits_decimal own m wide) }

module _ (test : List ℕ → Bool) where
  taken-all : (n : ℕ) (xs : List (List ℕ)) → list_all test xs ≡ true → list_all test (take n xs) ≡ true
  taken-all zero xs all = refl
  taken-all (suc n) [] all = refl
  taken-all (suc n) (x ∷ xs) all = let p = and_parts (test x) (list_all test xs) all in and_from (test x) _ p.0 (taken-all n xs p.1)

  dropped-all : (n : ℕ) (xs : List (List ℕ)) → list_all test xs ≡ true → list_all test (drop n xs) ≡ true
  dropped-all zero xs all = all
  dropped-all (suc n) [] all = refl
  dropped-all (suc n) (x ∷ xs) all = dropped-all n xs (and_parts (test x) (list_all test xs) all).1

  minimum-all : (m : ℕ) → test (decimal m) ≡ true → list_all test (minimum_fields m) ≡ true
  minimum-all m is = go (nat_lt 1 m)
    where
      go : (b : Bool) → list_all test (if b then decimal m ∷ [] else []) ≡ true
      go true = and_from (test (decimal m)) true is refl
      go false = refl

  -- of all fields of a computed record but its name
  fields-all : (fields : List (List ℕ)) (c : ComputedPrice) → list_all test fields ≡ true → test c.price_type ≡ true → test (two_decimals c.amount) ≡ true → test (decimal c.minimum) ≡ true
      → list_all test (drop 1 (computed_record (codes "Price" ∷ fields) c)) ≡ true
  fields-all fields c all type amount minimum =
      and_from (test c.price_type) _ type
      (and_from (test (two_decimals c.amount)) _ amount
      (list_all-append test (take 6 (drop 2 fields)) (minimum_fields c.minimum) ∙ and_from _ _ (taken-all 6 (drop 2 fields) (dropped-all 2 fields all)) (minimum-all c.minimum minimum)))

-- ---- rows

-- what the laws of the terms say
pub record TermLaws : Type 0 where
  pub writable : WrittenAreWritable
  pub read : ComputedReadsBack

-- a record that is read as a Price, before others
price-first : (o : Opening) (fields : List (List ℕ)) (p : Price) (records : List (List (List ℕ))) (ps : List Price) → parsed (price_of o) fields ≡ Some p → Reads o records (map row.Price ps)
    → Reads o ((codes "Price" ∷ fields) ∷ records) (map row.Price (p ∷ ps))
price-first o fields p records ps e rest =
    let s = said-read (price_of o) fields p e in
    one-first o (codes "Price" ∷ fields) (row.Price p) records (map row.Price ps) (price-row o fields p s.clean s.is) (named-utf8 (codes "Price") fields refl s.utf8) rest

joined : (o : Opening) (a b : List (List (List ℕ))) (ps qs : List Price) → Reads o a (map row.Price ps) → Reads o b (map row.Price qs) → Reads o (a ++ b) (map row.Price (ps ++ qs))
joined o a b ps qs e f = as-rows o _ (map row.Price ps ++ map row.Price qs) (map row.Price (ps ++ qs)) (sym (map-append row.Price ps qs)) (both o a b (map row.Price ps) (map row.Price qs) e f)

module _ (laws : TermLaws) (o : Opening) (two : o.form ≡ form.Two) (fields : List (List ℕ)) (p : Price) (e : parsed (price_of o) fields ≡ Some p) where
  -- those that are computed of a Price
  computed-rows : (cs : List ComputedPrice) → AllByRecursion IsWritable cs → Reads o (map (computed_record (codes "Price" ∷ fields)) cs) (map row.Price (map (price_of_computed p) cs))
  computed-rows [] all = no-rows o
  computed-rows (c ∷ cs) (is, all) =
      let s = said-read (price_of o) fields p e in
      let behind = drop 1 (computed_record (codes "Price" ∷ fields) c) in
      let code = code-simple c.price_type is.code in
      let amount = amount-simple c.amount is.below in
      let minimum = decimal-simple c.minimum is.small in
      let clean : list_all is_clean behind ≡ true = fields-all is_clean fields c s.clean (simple-clean _ code) (simple-clean _ amount) (simple-clean _ minimum) in
      let utf8 : list_all is_utf8 behind ≡ true = fields-all is_utf8 fields c s.utf8 (simple-utf8 _ code) (simple-utf8 _ amount) (simple-utf8 _ minimum) in
      one-first o (codes "Price" ∷ behind) (row.Price (price_of_computed p c)) _ _ (price-row o behind (price_of_computed p c) clean (laws.read o (codes "Price") fields p c two s.is is))
      (named-utf8 (codes "Price") behind refl utf8) (computed-rows cs all)

-- ---- what a Price says is in range

one-range : (n : ℕ) → Some 1 ≡ Some n → IsOfRange n
one-range n e = let one = same_Some 1 n e in (omega (arith, one), omega (arith, one))

quantity-range : (text : List ℕ) (n : ℕ) → quantity_or_one text ≡ Some n → IsOfRange n
quantity-range [] n e = one-range n e
quantity-range (b ∷ bs) n e = positive-range 6 1_000_000 (b ∷ bs) n e

minimum-range : (f : Form) (more : List (List ℕ)) (m : ℕ) → minimum_of f more ≡ Some m → IsOfRange m
minimum-range f [] m e = one-range m e
minimum-range form.Two (t ∷ []) m e = quantity-range t m e
minimum-range form.One (t ∷ []) m e = cc e
minimum-range form.Two (t ∷ u ∷ more) m e = cc e
minimum-range form.One (t ∷ u ∷ more) m e = cc e

from-range : (h : Header) (m : ℕ) (t a c i r x f u : List ℕ) (p : Price) → price_from h m t a c i r x f u ≡ Some p → (p.minimum ≡ m) × (p.amount < 1_000_000_000_000)
unfolding price_from
from-range h m t a c i r x f u p e =
    let (t', _, e1) = bind-some (or_default code2_of h.default_type t) _ p e in
    let (a', is, e2) = bind-some (amount_of a) _ p e1 in
    let (c', _, e3) = bind-some (or_default currency_of h.default_currency c) _ p e2 in
    let (z', _, e4) = bind-some (territory_of i r x) _ p e3 in
    let (f', _, e5) = bind-some (optional day_of f) _ p e4 in
    let (u', _, e6) = bind-some (optional day_of u) _ p e5 in
    let same = same_Some _ p e6 in
    (ap (λ (q : Price). q.minimum) (sym same), subst (λ n. n < 1_000_000_000_000) (ap (λ (q : Price). q.amount) same) (amount-range a a' is))

price-range : (o : Opening) (fields : List (List ℕ)) (p : Price) → price_of o fields ≡ Some p → (p.amount < 1_000_000_000_000) × IsOfRange p.minimum
unfolding price_of
price-range o (t ∷ a ∷ c ∷ i ∷ r ∷ x ∷ f ∷ u ∷ more) p e =
    let (m, here, from) = bind-some (minimum_of o.form more) _ p e in
    let (same, small) = from-range o.header m t a c i r x f u p from in
    (small, subst IsOfRange (sym same) (minimum-range o.form more m here))
price-range o [] p e = cc e
price-range o (t ∷ []) p e = cc e
price-range o (t ∷ a ∷ []) p e = cc e
price-range o (t ∷ a ∷ c ∷ []) p e = cc e
price-range o (t ∷ a ∷ c ∷ i ∷ []) p e = cc e
price-range o (t ∷ a ∷ c ∷ i ∷ r ∷ []) p e = cc e
price-range o (t ∷ a ∷ c ∷ i ∷ r ∷ x ∷ []) p e = cc e
price-range o (t ∷ a ∷ c ∷ i ∷ r ∷ x ∷ f ∷ []) p e = cc e

copies-range : (text : List ℕ) (n : ℕ) → copies_of text ≡ Some n → IsOfRange n
copies-range text n e = go (list_all (λ b. b == 48) text) e
  where
    go : (b : Bool) → (if b then Some 1 else quantity_of text) ≡ Some n → IsOfRange n
    go true e = one-range n e
    go false e = positive-range 6 1_000_000 text n e

said-range : (kind quantity percent : List ℕ) (d : Discount) → discount_of kind quantity percent ≡ Some d → IsOfRange d.quantity
said-range kind quantity percent d e =
    let (_, is) = cond-then (is_of_price kind) _ d e in
    let (n, copies, more) = bind-some (copies_of quantity) _ d is in
    let (s, _, last) = bind-some (percent_said percent) _ d more in
    subst IsOfRange (ap (λ (x : Discount). x.quantity) (same_Some _ d last)) (copies-range quantity n copies)

discount-range : (c : Composite) (d : Discount) → discount_in c ≡ Some d → IsOfRange d.quantity
discount-range c d e =
    let (_, is) = cond-then _ _ d e in
    said-range (text_at "DiscountType" c.below) (text_at "Quantity" c.below) (text_at "DiscountPercent" c.below) d is

discounts-range : (cs : List Composite) → AllByRecursion (λ (d : Discount). IsOfRange d.quantity) (flat_map (λ c. option_to_list (discount_in c)) cs)
discounts-range [] = tt
discounts-range (c ∷ cs) = go (discounts-range cs) (discount_in c) refl
  where
    go : AllByRecursion (λ (d : Discount). IsOfRange d.quantity) (flat_map (λ c. option_to_list (discount_in c)) cs) → (o : Option Discount) → discount_in c ≡ o → AllByRecursion (λ (d : Discount). IsOfRange d.quantity) (option_to_list o ++ flat_map (λ c. option_to_list (discount_in c)) cs)
    go more None e = more
    go more (Some d) e = (discount-range c d e, more)

given-range : (o : Opening) (fields whole : List (List ℕ)) (p : Price) (nodes : Nodes) → price_of o fields ≡ Some p → IsInRange (given_of p whole nodes)
given-range o fields whole p nodes e =
    let (small, minimum) = price-range o fields p e in
    record { below = small; minimum = minimum; discounts = discounts-range (each_at "Discount" nodes) }

-- ---- of all Prices

module _ (context : PriceContext) where
  plain-one : (price : PriceTexts) (outcome : Outcome) → IsSeen context price outcome → (records : List (List (List ℕ))) (given : List GivenPrice) → Reads context.opening records (map row.Price (map (λ g. g.price) given))
      → Reads context.opening (outcome_records outcome ++ records) (map row.Price (map (λ g. g.price) (given_by outcome (parsed (price_of context.opening) (written_fields context price)) (codes "Price" ∷ written_fields context price) price.below ++ given)))
  plain-one price outcome (inl (bare, none)) records given rest = rw (bare, none) rest
  plain-one price outcome (inr (p, one, own, read)) records given rest =
      rw (one, own) (price-first context.opening (written_fields context price) p records (map (λ g. g.price) given) read rest)

  -- the records of Prices say what the terms see
  pub all-plain : (cs : List PriceTexts) → Reads context.opening (all_records (price_outcome context) cs) (map row.Price (map (λ g. g.price) (all_given context cs)))
  all-plain [] = no-rows context.opening
  all-plain (c ∷ cs) = plain-one c (price_outcome context c) (seen context c) (all_records (price_outcome context) cs) (all_given context cs) (all-plain cs)

module _ (laws : TermLaws) (context : PriceContext) (two : context.opening.form ≡ form.Two) (terms : List Term) (coded : HasCodes terms) (supplier : Option (List ℕ)) (held : GivenPrice → ComputedPrice → Bool) where
  -- one Price, before what is behind it
  one-with : (price : PriceTexts) (outcome : Outcome) → IsSeen context price outcome → (records : List (List (List ℕ))) (given : List GivenPrice)
      → Reads context.opening (with_all terms supplier held records given) (map row.Price (prices_with terms supplier held given))
      → Reads context.opening (with_all terms supplier held (outcome_records outcome ++ records) (given_by outcome (parsed (price_of context.opening) (written_fields context price)) (codes "Price" ∷ written_fields context price) price.below ++ given))
      (map row.Price (prices_with terms supplier held (given_by outcome (parsed (price_of context.opening) (written_fields context price)) (codes "Price" ∷ written_fields context price) price.below ++ given)))
  one-with price outcome (inl (bare, none)) records given rest = rw (bare, none) rest
  one-with price outcome (inr (p, one, own, read)) records given rest =
      let o = context.opening in
      let fields = written_fields context price in
      let g = given_of p (codes "Price" ∷ fields) price.below in
      let s = said-read (price_of o) fields p read in
      let cs = written_of terms supplier held g in
      let behind = computed-rows laws o two fields p read cs (laws.writable terms supplier held g coded (given-range o fields (codes "Price" ∷ fields) p price.below s.is)) in
      rw (one, own)
      (joined o (with_computed terms supplier held (codes "Price" ∷ fields) g) (with_all terms supplier held records given) (p ∷ map (price_of_computed p) cs) (prices_with terms supplier held given)
      (price-first o fields p (map (computed_record (codes "Price" ∷ fields)) cs) (map (price_of_computed p) cs) read behind) rest)

  -- the records with those that the terms compute say the prices with these
  pub all-with : (cs : List PriceTexts)
      → Reads context.opening (with_all terms supplier held (all_records (price_outcome context) cs) (all_given context cs)) (map row.Price (prices_with terms supplier held (all_given context cs)))
  all-with [] = no-rows context.opening
  all-with (c ∷ cs) = one-with c (price_outcome context c) (seen context c) (all_records (price_outcome context) cs) (all_given context cs) (all-with cs)
