-- A Price: the record that is written of it, or why it is left out.
use Rattle.std.specs.Prelude.{◌≡◌, ℕ, Bool, false, ◌&&◌, ◌||◌, nat_lt}
use Rattle.std.specs.Prelude.{List, [], ◌∷◌, ◌++◌, Option, Some, None, if◌then◌else◌, codes}
use Rattle.std.specs.Prelude.{fold, not, option_map, is_none, is_some}
use Rattle.std.specs.List.{flat_map, list_any}
use Rattle.std.specs.Option.{option_eq, option_map_or, option_or, option_to_list, unwrap_or}
use Rattle.std.specs.Result.{result_err, result_unwrap_or}
use Rattle.std.specs.Str.{bytes_eq}
use Rattle.feed_xml.specs.Grammar.{is_filled}
use Rattle.onix_records.specs.Fields.{optional, or_default}
use Rattle.onix_records.specs.Price.{day_field, price_of}
use Rattle.onix_records.specs.declared.row.Opening.{Opening}
use Rattle.onix_terms.specs.Code.{code2_of, currency_of}
use Rattle.onix_terms.specs.Quantity.{quantity_of}
use Rattle.feed_mapping.specs.Amounts.{amount_written, is_zero, rounded_text, written_amount}
use Rattle.feed_mapping.specs.Dates.{days}
use Rattle.feed_mapping.specs.declared.dates.Days.{Days}
use Rattle.feed_mapping.specs.Narrower.{all_excluded, countries_without, excluded_then}
use Rattle.feed_mapping.specs.Notes.{Reason, Reasons, foreign, is_wrong, wrong}
use Rattle.feed_mapping.specs.Outcomes.{Outcome, nothing, notes_below, outcome_records, written_unless}
use Rattle.feed_mapping.specs.Records.{Fields, Records, desk_reason, first_some, option_filter, parsed}
use Rattle.feed_mapping.specs.Records.{parsed_term}
use Rattle.feed_mapping.specs.Records.{invalid}
use Rattle.feed_mapping.specs.Regions.{countries_written, names_world}
use Rattle.feed_mapping.specs.PriceTexts.{PriceTexts}
use Rattle.feed_mapping.specs.Territories.{Area, area_fields, area_reason, form_reasons}
use Rattle.feed_mapping.specs.Territories.{territory_notes, unsupported}
use Rattle.feed_mapping.specs.declared.narrower.Alike.{Alike}
use Rattle.feed_mapping.specs.declared.narrower.First.{First}
use Rattle.feed_mapping.specs.declared.notes.Foreign.TheVariants.{BesideDates, CurrencyZone}
use Rattle.feed_mapping.specs.declared.notes.Foreign.TheVariants.{EpubLicense, EpubLicenseWithDate}
use Rattle.feed_mapping.specs.declared.notes.Foreign.TheVariants.{LongTerritory, NoCharge}
use Rattle.feed_mapping.specs.declared.notes.Foreign.TheVariants.{PriceCoded, PriceCondition}
use Rattle.feed_mapping.specs.declared.notes.Foreign.TheVariants.{PriceConstraint, PricePer}
use Rattle.feed_mapping.specs.declared.notes.Foreign.TheVariants.{PriceQualifier}
use Rattle.feed_mapping.specs.declared.notes.Wrong.TheVariants as bad
use Rattle.feed_terms.specs.declared.price.Kind.{Kind}
use Rattle.feed_mapping.specs.declared.prices.Owned.{Owned}
use Rattle.feed_mapping.specs.declared.prices.PriceContext.{PriceContext as Lent}

-- The context of a Price: what its message begins with, whether the record of its SupplyDetail has
-- an UnpricedItemType, the quantity that stands for a minimum that is not greater, the types and
-- currencies of which a Price beside it is left out for its PriceDates alone, and the Prices beside
-- it that go before one of the world.
pub record PriceContext : Type 0 where
  pub opening : Opening
  pub is_unpriced : Bool
  pub minimum : Option (List ℕ)
  pub closed : List Kind
  pub firsts : List First

-- ---- the record

-- the days of a Price whose PriceDates are right
abbrev pub right_days : PriceTexts → Days
right_days price = result_unwrap_or price.dated (days None None)

-- the number of copies from which a Price holds with this minimum
abbrev pub copies_of : Option (List ℕ) → ℕ
copies_of minimum = option_map_or (λ text. unwrap_or (parsed_term quantity_of text) 1) minimum 1

-- whether a quantity is greater than another, where both are quantities
abbrev pub is_greater : Option ℕ → Option ℕ → Bool
is_greater (Some n) (Some m) = nat_lt m n
is_greater n m = false

-- a minimum that is written where another stands for it that is greater
abbrev pub greater_of : Option (List ℕ) → Option (List ℕ) → Option (List ℕ)
greater_of None other = other
greater_of (Some own) None = Some own
greater_of (Some own) (Some other) =
    if is_greater (parsed_term quantity_of other) (parsed_term quantity_of own) then Some other
    else Some own

-- The fields that each Price has behind its name, empty where it has none: type, amount, currency,
-- territory, the first and the last day.
abbrev pub eight_fields : Fields → PriceTexts → Fields
eight_fields territory price =
    price.price_type ∷ amount_written price.amount ∷ price.currency
    ∷ (territory
    ++ (day_field (right_days price).first ∷ day_field (right_days price).last ∷ []))

module _ (context : PriceContext) (price : PriceTexts) where
  -- a minimum, where a Price or its SupplyDetail has one
  abbrev pub minimum_written : Option (List ℕ)
  minimum_written = greater_of price.minimum context.minimum

  -- the fields of a Price in this territory
  abbrev pub fields_in : Fields → Fields
  fields_in territory =
      eight_fields territory price ++ option_to_list minimum_written

  -- the fields of a Price as it stands
  abbrev pub price_fields : Fields
  price_fields = fields_in (area_fields price.area)

-- ---- why a Price is left out

module _ (dated free : Option Reason) (price : PriceTexts) where
  -- Why a Price with these dates is another than the desk knows, each where it holds: what it is
  -- for, where, for how much and between which days it holds; behind those what is wrong: the
  -- elements of ONIX 2.1, a territory that does not say where, and its dates.
  abbrev pub early_reasons : Reasons
  early_reasons =
      option_map (foreign PriceQualifier) price.qualifier
      ∷ option_map (foreign PricePer) price.per
      ∷ option_map (foreign PriceCondition) price.condition
      ∷ option_map (foreign PriceConstraint) price.constraint
      ∷ option_map (foreign PriceCoded) price.coded
      ∷ option_map (foreign CurrencyZone) price.zone
      ∷ option_map (foreign EpubLicense) price.license
      ∷ option_map (foreign EpubLicenseWithDate) price.dated_license
      ∷ unsupported price.area
      ∷ free
      ∷ option_filter (λ r. not (is_wrong r.kind)) dated
      ∷ option_map (wrong bad.OldElement) price.old
      ∷ first_some (form_reasons price.area)
      ∷ option_filter (λ r. is_wrong r.kind) dated
      ∷ []

module _ (price : PriceTexts) where
  -- why the PriceDates of a Price leave it out, where they do
  abbrev pub date_reason : Option Reason
  date_reason = result_err price.dated

  -- that the amount of a Price is 0
  abbrev pub free_reason : Option Reason
  free_reason = option_map (foreign NoCharge) (option_filter is_zero (Some price.amount))

  -- whether a Price is for others than the shop, for another unit than a copy, for those who have a
  -- licence, or of 0
  abbrev pub is_for_others : Bool
  is_for_others =
      is_some price.qualifier || is_some price.per || is_some price.condition
      || is_some price.constraint || is_some price.license || is_some price.dated_license
      || is_zero price.amount

-- Which fields of a Price the desk does not take, each where it does not: it is outside its
-- grammar, or it is empty and has no default in the header.
abbrev pub field_reasons : Opening → PriceTexts → Reasons
field_reasons o price =
    invalid written_amount bad.Amount price.amount
    ∷ invalid (or_default (parsed_term code2_of) o.header.default_type) bad.PriceType
    price.price_type
    ∷ invalid (or_default (parsed_term currency_of) o.header.default_currency) bad.Currency
    price.currency
    ∷ area_reason price.area
    ∷ invalid (optional (parsed_term quantity_of)) bad.Quantity (unwrap_or price.minimum [])
    ∷ []

-- whether a territory is countries without the world
abbrev pub is_of_countries : Area → Bool
is_of_countries a = is_filled a.included && not (names_world a.regions_included)

-- the price type and the currency of a Price, or those of the header
abbrev pub kind_in : Opening → PriceTexts → Kind
kind_in o price = record {
  price_type = or_default (parsed_term code2_of) o.header.default_type price.price_type;
  currency =
      or_default (parsed_term currency_of) o.header.default_currency price.currency;
}

-- whether two kinds have a type and a currency that are the same
abbrev pub is_kind : Kind → Kind → Bool
is_kind a b =
    (is_some a.price_type && option_eq bytes_eq a.price_type b.price_type)
    && (is_some a.currency && option_eq bytes_eq a.currency b.currency)

module _ (context : PriceContext) (price : PriceTexts) where
  -- whether the desk takes the record of a Price
  abbrev pub is_taken : Bool
  is_taken = is_some (parsed (price_of context.opening) (price_fields context price))

  -- a Price of which the desk would not take the record, for the first field that it does not take,
  -- if it is one of those
  abbrev pub record_reason : Option Reason
  record_reason = desk_reason is_taken (field_reasons context.opening price) bad.Price

  -- that a Price beside this one, of its type and currency, is left out for its PriceDates alone:
  -- it might stand in the place of this one
  abbrev pub closed_reason : Option Reason
  closed_reason =
      if list_any (is_kind (kind_in context.opening price)) context.closed
      then Some (foreign BesideDates []) else None

  -- in what it is alike others
  abbrev pub alike_in : Alike
  alike_in = record {
    kind = kind_in context.opening price;
    copies = copies_of (minimum_written context price);
    days = right_days price;
  }

  -- CountriesExcluded, where the Price holds in the world, and others go before it
  abbrev pub narrowed : Option (List ℕ)
  narrowed =
      if is_of_countries price.area then None
      else excluded_then context.firsts alike_in (countries_written price.area.excluded)

  -- the fields of its territory as they are written: as they stand, or the world without some
  -- countries
  abbrev pub territory_written : Fields
  territory_written =
      option_map_or (λ excluded. [] ∷ codes "WORLD" ∷ excluded ∷ []) narrowed
      (area_fields price.area)

  -- its fields as they are written
  abbrev pub written_fields : Fields
  written_fields = fields_in context price territory_written

  -- that the desk would not take it so: its CountriesExcluded are longer than a field
  abbrev pub long_reason : Option Reason
  long_reason =
      if is_some (parsed (price_of context.opening) written_fields) then None
      else Some (foreign LongTerritory [])

  -- why a Price is left out that is none other than the desk knows
  abbrev pub last_reason : Option Reason
  last_reason = option_or record_reason (option_or closed_reason long_reason)

  -- why a Price is left out, each where it holds: what is both foreign and wrong is foreign
  abbrev pub price_reasons : Reasons
  price_reasons = early_reasons (date_reason price) (free_reason price) price ++ last_reason ∷ []

-- ---- what a Price comes to

abbrev pub outcome_of : Option Reason → PriceContext → PriceTexts → Outcome
outcome_of reason context price =
    written_unless reason ((codes "Price" ∷ written_fields context price) ∷ [])
    (territory_notes price.area)

-- a call left a Price out for this reason, or added its record and the notes on what is below it
abbrev pub AddsUnless : Option Reason → PriceContext → PriceTexts → Option Reason → Records → Records
    → List Reason → List Reason → Type 0
AddsUnless reason context price given records_before records notes_before notes =
    (given ≡ reason)
    × ((records ≡ records_before ++ outcome_records (outcome_of reason context price))
    × (notes ≡ notes_before ++ notes_below (outcome_of reason context price)))

module _ (context : PriceContext) (price : PriceTexts) where
  -- A Price without an amount and without PriceCoded is nothing, whatever else stands in it, where
  -- the record of its SupplyDetail has an UnpricedItemType: its own is there too, where it has one.
  abbrev pub is_nothing : Bool
  is_nothing =
      context.is_unpriced && (not price.has_amount && is_none price.coded)

  -- what a Price comes to
  abbrev pub price_outcome : Outcome
  price_outcome =
      if is_nothing then nothing
      else outcome_of (first_some (price_reasons context price)) context price

-- the type and currency of a Price that would be written but for its PriceDates
abbrev pub closing_kind : PriceContext → PriceTexts → Option Kind
closing_kind context price =
    if is_nothing context price || is_none (date_reason price) then None
    else if is_none (first_some (early_reasons None (free_reason price) price))
    && is_taken context price
    then Some (kind_in context.opening price)
    else None

-- those of some Prices
abbrev pub closing_kinds : PriceContext → List PriceTexts → List Kind
closing_kinds context prices = flat_map (λ p. option_to_list (closing_kind context p)) prices

-- ---- Prices that go before others

-- whether a type or a currency is one, or lacks in a Price without an amount
abbrev pub may_lack : Bool → List ℕ → PriceTexts → Bool
may_lack is_one text price =
    is_one || (not (is_filled text) && not price.has_amount)

module _ (context : PriceContext) (price : PriceTexts) where
  -- whether its type, currency and minimum are such that it may be alike another
  abbrev pub is_like : Bool
  is_like =
      may_lack (is_some (kind_in context.opening price).price_type)
      price.price_type price
      && (may_lack (is_some (kind_in context.opening price).currency)
      price.currency price
      && is_some (optional (parsed_term quantity_of) (unwrap_or price.minimum [])))

  -- whether a Price for countries is written, or would be but for its amount
  abbrev pub is_first : Bool
  is_first =
      is_none (first_some (early_reasons (date_reason price) None price))
      && (is_none (area_reason price.area) && is_like)

  -- a Price that goes before others, behind these: what countries it has that they have not
  abbrev pub first_in : List First → First
  first_in firsts = record {
    alike = alike_in context price;
    countries =
        countries_without (all_excluded firsts (alike_in context price)
        (countries_written price.area.excluded))
        (countries_written price.area.included);
  }

  -- these Prices, and behind them it, where it goes before others
  abbrev pub with_first : List First → List First
  with_first firsts =
      if is_of_countries price.area && is_first then firsts ++ first_in firsts ∷ [] else firsts

-- the Prices of a SupplyDetail that go before those of the world, where it has such
abbrev pub firsts_in : PriceContext → List PriceTexts → List First
firsts_in context prices =
    if list_any (λ p. not (is_of_countries p.area)) prices
    then fold (λ firsts p. with_first context p firsts) [] prices else []

-- the texts of a Price that do not stand in it as they are written
abbrev pub AreOwned : Owned → PriceTexts → Type 0
AreOwned o price =
    (o.amount ≡ rounded_text price.amount)
    × ((o.first ≡ day_field (right_days price).first) × (o.last ≡ day_field (right_days price).last))

-- ---- without where it lies in memory

abbrev pub context_view : Lent → PriceContext
context_view a = record {
  opening = a.opening.now;
  is_unpriced = a.is_unpriced;
  minimum = option_map (λ t. t.now) a.minimum;
  closed = a.closed.now;
  firsts = a.firsts.now;
}
