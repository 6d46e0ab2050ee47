-- A Price as it is read: each of its texts once, where it holds, and between which days.
use Prim.Native.String.{String}
use Rattle.std.specs.Prelude.{ℕ, Bool, ◌||◌, List, [], ◌∷◌, Option, codes, find, is_some, map, not}
use Rattle.std.specs.Prelude.{option_map, Result}
use Rattle.std.specs.Str.{bytes_eq}
use Rattle.feed_outline.specs.Composites.{text_in}
use Rattle.feed_outline.specs.Nodes.{Nodes}
use Rattle.feed_mapping.specs.Amounts.{amount_said, are_zeros}
use Rattle.feed_mapping.specs.DateViews.{days_read}
use Rattle.feed_mapping.specs.Dates.{days_in}
use Rattle.feed_mapping.specs.Elements.{each_at, first, some_at, text_at}
use Rattle.feed_mapping.specs.Notes.{Reason}
use Rattle.feed_mapping.specs.PriceViews.{text_view}
use Rattle.feed_mapping.specs.Records.{option_filter}
use Rattle.feed_mapping.specs.Territories.{Area, area_in, area_view}
use Rattle.feed_mapping.specs.declared.dates.Days.{Days}
use Rattle.feed_mapping.specs.declared.price_texts.PriceTexts.{PriceTexts as Lent}

abbrev pub is_other : List ℕ → Bool
is_other code = not (bytes_eq code (codes "00"))

-- a PriceQualifier that is not that of the ordinary price, as 00 and 05 are, the consumer's
abbrev pub is_other_qualifier : List ℕ → Bool
is_other_qualifier code = not (bytes_eq code (codes "00") || bytes_eq code (codes "05"))

module _ (nodes : Nodes) where
  -- the MinimumOrderQuantity of a Price: one of zeros alone is as absent
  abbrev pub own_minimum : Option (List ℕ)
  own_minimum = option_filter (λ text. not (are_zeros text)) (some_at "MinimumOrderQuantity" nodes)

  -- the first type other than 00 of composites of this name, the empty text of one without
  abbrev pub other_type : String → String → Option (List ℕ)
  other_type name type_name =
      find is_other (map (λ c. text_at type_name c.below) (each_at name nodes))

  -- whether there is such a composite, of which the text does not count
  abbrev pub mark_in : String → Option (List ℕ)
  mark_in name = option_map (λ c. []) (first (each_at name nodes))

  -- the first of these names by which an element has a text
  abbrev pub first_with_text : List (List ℕ) → Option (List ℕ)
  first_with_text names = find (λ name. is_some (text_in name nodes)) names

-- What a Price says: a text that is nothing but 00 (or 05, as a qualifier) says nothing.
pub record PriceTexts : Type 0 where
  pub below : Nodes
  pub price_type : List ℕ
  pub currency : List ℕ
  pub has_amount : Bool
  -- the amount as it stands, without the zeros behind its third decimal
  pub amount : List ℕ
  pub minimum : Option (List ℕ)
  pub qualifier : Option (List ℕ)
  pub per : Option (List ℕ)
  pub condition : Option (List ℕ)
  pub constraint : Option (List ℕ)
  pub coded : Option (List ℕ)
  pub zone : Option (List ℕ)
  pub license : Option (List ℕ)
  pub dated_license : Option (List ℕ)
  -- the name of the first of the elements of ONIX 2.1 that say what a Price is
  pub old : Option (List ℕ)
  pub area : Area
  pub dated : Result Days Reason

abbrev pub texts_of : Nodes → PriceTexts
texts_of nodes = record {
  below = nodes;
  price_type = text_at "PriceType" nodes;
  currency = text_at "CurrencyCode" nodes;
  has_amount = is_some (some_at "PriceAmount" nodes);
  amount = amount_said nodes;
  minimum = own_minimum nodes;
  qualifier = option_filter is_other_qualifier (some_at "PriceQualifier" nodes);
  per = option_filter is_other (some_at "PricePer" nodes);
  condition = other_type nodes "PriceCondition" "PriceConditionType";
  constraint = other_type nodes "PriceConstraint" "PriceConstraintType";
  coded = mark_in nodes "PriceCoded";
  zone = some_at "CurrencyZone" nodes;
  license = mark_in nodes "EpubLicense";
  dated_license = mark_in nodes "EpubLicenseWithDate";
  old = first_with_text nodes (codes "PriceTypeCode" ∷ codes "ClassOfTrade"
      ∷ codes "PriceEffectiveFrom" ∷ codes "PriceEffectiveUntil" ∷ codes "CountryCode"
      ∷ codes "CountryExcluded" ∷ codes "TerritoryExcluded" ∷ codes "(j303)" ∷ []);
  area = area_in nodes;
  dated = days_in nodes;
}

-- the Prices among these elements, in order
abbrev pub prices_in : Nodes → List PriceTexts
prices_in nodes = map (λ c. texts_of c.below) (each_at "Price" nodes)

-- ---- without where it lies in memory

abbrev pub price_view : Lent → PriceTexts
price_view p = record {
  below = p.below;
  price_type = p.price_type.now;
  currency = p.currency.now;
  has_amount = p.has_amount;
  amount = p.amount.now;
  minimum = text_view p.minimum;
  qualifier = text_view p.qualifier;
  per = text_view p.per;
  condition = text_view p.condition;
  constraint = text_view p.constraint;
  coded = text_view p.coded;
  zone = text_view p.zone;
  license = text_view p.license;
  dated_license = text_view p.dated_license;
  old = text_view p.old;
  area = area_view p.area;
  dated = days_read p.dated;
}
