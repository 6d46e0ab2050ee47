-- What the terms of the shop see of the Prices of a SupplyDetail, and what comes of them by these.
use Rattle.std.specs.Prelude.{◌≡◌, ℕ, Bool, false, ◌&&◌, ◌||◌, List, [], ◌∷◌, ◌++◌, Option, Some, None, if◌then◌else◌}
use Rattle.std.specs.Prelude.{codes, length, nat_lt, drop, take}
use Rattle.std.specs.List.{flat_map, list_any}
use Rattle.std.specs.Option.{option_to_list}
use Rattle.std.specs.Str.{bytes_eq, is_utf8}
use Rattle.feed_outline.specs.Names.{stranger_apart}
use Rattle.feed_outline.specs.Nodes.{Nodes, no_nodes, node}
use Rattle.onix_records.specs.Price.{price_of}
use Rattle.onix_records.specs.declared.parts.Price.{Price}
use Rattle.onix_records.specs.declared.row.Opening.{Opening}
use Rattle.feed_terms.specs.Percents.{feed_percent_of}
use Rattle.feed_terms.specs.Prices.{code_said, discount_of}
use Rattle.feed_terms.specs.WithTerms.{with_terms}
use Rattle.feed_terms.specs.declared.price.Discount.{Discount}
use Rattle.feed_terms.specs.declared.price.SaidCode.{SaidCode}
use Rattle.feed_terms.specs.declared.price.GivenPrice.{GivenPrice}
use Rattle.feed_terms.specs.declared.price.Kind.{Kind}
use Rattle.feed_terms.specs.declared.term.Term.{Term}
use Rattle.feed_mapping.specs.Again.{comes_again}
use Rattle.feed_mapping.specs.Elements.{Composite, each_at, some_at, text_at}
use Rattle.feed_mapping.specs.Outcomes.{Outcome, all_records, written}
use Rattle.feed_mapping.specs.Parties.{Pair, is_there}
use Rattle.feed_mapping.specs.PriceTexts.{PriceTexts}
use Rattle.feed_mapping.specs.Prices.{PriceContext, is_for_others, kind_in, written_fields}
use Rattle.feed_mapping.specs.Prices.{price_outcome}
use Rattle.feed_mapping.specs.Records.{Fields, Records, parsed, parsed_term}

-- ---- what a Price says to the terms

-- whether an element of a Price is read for the terms alone
abbrev pub is_of_terms : List ℕ → Bool
is_of_terms name =
    list_any (bytes_eq name) (codes "DiscountCoded" ∷ codes "Discount" ∷ codes "Tax" ∷ [])

-- of what stands in such an element, one is a stranger, or comes again
abbrev pub is_mixed : Nodes → Bool
is_mixed no_nodes = false
is_mixed (node n tag text below rest) =
    (bytes_eq n stranger_apart || comes_again n text rest) || is_mixed rest

-- a Price is garbled: one of the elements that the terms read is a stranger, or comes again in one
-- of those
abbrev pub is_garbled : Nodes → Bool
is_garbled no_nodes = false
is_garbled (node n tag text below rest) =
    (bytes_eq n stranger_apart || (is_of_terms n && is_mixed below)) || is_garbled rest

-- the code that a DiscountCoded says
abbrev pub code_in : Composite → Option SaidCode
code_in c =
    if is_utf8 (text_at "DiscountCodeType" c.below)
    && (is_utf8 (text_at "DiscountCodeTypeName" c.below)
    && is_utf8 (text_at "DiscountCode" c.below))
    then code_said (text_at "DiscountCodeType" c.below) (text_at "DiscountCodeTypeName" c.below)
    (text_at "DiscountCode" c.below)
    else None

-- the discount that a Discount says
abbrev pub discount_in : Composite → Option Discount
discount_in c =
    if is_utf8 (text_at "DiscountType" c.below)
    && (is_utf8 (text_at "Quantity" c.below) && is_utf8 (text_at "DiscountPercent" c.below))
    then discount_of (text_at "DiscountType" c.below) (text_at "Quantity" c.below)
    (text_at "DiscountPercent" c.below)
    else None

-- the rate that a Tax says by its percent, or where it has none, the zero rate by its code
abbrev pub rate_by : Option (List ℕ) → Nodes → Option ℕ
rate_by None tax = if bytes_eq (text_at "TaxRateCode" tax) (codes "Z") then Some 0 else None
rate_by (Some percent) tax = parsed_term feed_percent_of percent

-- the rate of a Tax, where there is just one
abbrev pub tax_in : List Composite → Option ℕ
tax_in (tax ∷ []) = rate_by (some_at "TaxRatePercent" tax.below) tax.below
tax_in taxes = None

-- the fields of a territory, each with a comma behind it
abbrev pub area_text : Fields → List ℕ
area_text fields = flat_map (λ f. f ++ 44 ∷ []) fields

-- a Price that says so in the fields of its record, and what it says to the terms besides
abbrev pub given_of : Price → Fields → Nodes → GivenPrice
given_of price fields nodes = record {
  price = price;
  area = area_text (take 3 (drop 4 fields));
  codes = flat_map (λ c. option_to_list (code_in c)) (each_at "DiscountCoded" nodes);
  discounts = flat_map (λ c. option_to_list (discount_in c)) (each_at "Discount" nodes);
  tax = tax_in (each_at "Tax" nodes);
  garbled = is_garbled nodes;
}

-- what the terms see of what a Price comes to: it, where it is written
abbrev pub given_by : Outcome → Option Price → Fields → Nodes → List GivenPrice
given_by (written records notes) (Some price) fields nodes = given_of price fields nodes ∷ []
given_by outcome price fields nodes = []

-- the type and the currency of a Price, or those of the header, unless it is for others
abbrev pub kinds_closed : Opening → PriceTexts → List Kind
kinds_closed o price = if is_for_others price then [] else kind_in o price ∷ []

module _ (context : PriceContext) where
  -- what they see of a Price
  abbrev pub given_in : PriceTexts → List GivenPrice
  given_in price =
      given_by (price_outcome context price)
      (parsed (price_of context.opening) (written_fields context price))
      (codes "Price" ∷ written_fields context price) price.below

  -- of some Prices
  abbrev pub all_given : List PriceTexts → List GivenPrice
  all_given prices = flat_map given_in prices

  -- the type and the currency of a Price that gives no record, unless it is for others
  abbrev pub closed_by : PriceTexts → List Kind
  closed_by price =
      if nat_lt 0 (length (given_in price)) then [] else kinds_closed context.opening price

  -- those of some Prices
  abbrev pub closed_kinds : List PriceTexts → List Kind
  closed_kinds prices = flat_map closed_by prices

-- what the terms see of the Prices of a SupplyDetail fits these records
pub record AreWritten (context : PriceContext) (prices : List PriceTexts) (kept : Records)
    (seen : List GivenPrice) (kinds : List Kind) : Type 0 where
  pub records : kept ≡ all_records (price_outcome context) prices
  pub given : seen ≡ all_given context prices
  pub closed : kinds ≡ closed_kinds context prices

-- a supplier as a term has it, by an identifier that is there and UTF-8
abbrev pub supplier_of : Pair → Option (List ℕ)
supplier_of i =
    if is_there i && (is_utf8 i.id_type && is_utf8 i.id_value)
    then Some (i.id_type ++ 44 ∷ i.id_value) else None

-- ---- what comes of them

module _ (terms : List Term) (supplier : Option (List ℕ)) (context : PriceContext)
    (prices : List PriceTexts) where
  -- the records of the Prices of a SupplyDetail, with those that the terms compute
  abbrev pub records_with : Records
  records_with =
      with_terms terms supplier (closed_kinds context prices) (all_given context prices)
      (all_records (price_outcome context) prices)

-- the same, where there are terms
abbrev pub priced_by : Option (List Term) → Pair → PriceContext → List PriceTexts → Records
priced_by None supplier context prices = all_records (price_outcome context) prices
priced_by (Some terms) supplier context prices =
    records_with terms (supplier_of supplier) context prices
