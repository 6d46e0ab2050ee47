-- Where a Market or a Price holds: what its Territory says, and what of that the desk supports.
use Rattle.std.specs.Prelude.{ℕ, Bool, not, ◌||◌, ◌&&◌, List, [], ◌∷◌, ◌++◌, Option, Some, None, if◌then◌else◌}
use Rattle.std.specs.Prelude.{filter, is_some, map, option_map}
use Rattle.std.specs.Option.{option_or}
use Rattle.feed_xml.specs.Grammar.{is_filled}
use Rattle.feed_outline.specs.Nodes.{Nodes}
use Rattle.onix_records.specs.Supply.{supply_of}
use Rattle.onix_records.specs.declared.parts.ProductSupply.{ProductSupply}
use Rattle.onix_terms.specs.Territory.{countries_of, words_of, world_text}
use Rattle.feed_mapping.specs.Again.{again_in}
use Rattle.feed_mapping.specs.Elements.{Element, below_at, each_at, element_view, first}
use Rattle.feed_mapping.specs.Elements.{text_at}
use Rattle.feed_mapping.specs.Notes.{Reason, Reasons, foreign, wrong}
use Rattle.feed_mapping.specs.PriceViews.{text_view}
use Rattle.feed_mapping.specs.Records.{Fields, desk_reason, parsed, parsed_term, invalid}
use Rattle.feed_mapping.specs.Regions.{IsRenamed, countries_written, first_region, is_two_letters}
use Rattle.feed_mapping.specs.Regions.{names_world, region_of_no_country, two_letters_in}
use Rattle.feed_mapping.specs.declared.notes.Foreign.TheVariants.{RegionAlone, RegionOfNoCountry}
use Rattle.feed_mapping.specs.declared.notes.Wrong.TheVariants.{ComesAgain, CountriesExcluded}
use Rattle.feed_mapping.specs.declared.notes.Wrong.TheVariants.{CountryAsRegion, EmptyTerritory}
use Rattle.feed_mapping.specs.declared.notes.Wrong.TheVariants.{CountriesIncluded, Territory}
use Rattle.feed_mapping.specs.declared.territories.Area.{Area as Lent}
use Rattle.feed_mapping.specs.declared.territories.Renamed.{Renamed}

-- the Territory of a Market or a Price, where it has one, and the four texts in it, each empty
-- where it has none
pub record Area : Type 0 where
  pub territory : Option Element
  pub included : List ℕ
  pub regions_included : List ℕ
  pub excluded : List ℕ
  pub regions_excluded : List ℕ
  -- an element that comes again in the Market or the Price, though it does not repeat
  pub again : Option (List ℕ)

-- where a Market or a Price with these elements holds: its first Territory says it
abbrev pub area_in : Nodes → Area
area_in nodes =
    let below = below_at "Territory" nodes in
    record {
      territory = option_map (λ c. c.element) (first (each_at "Territory" nodes));
      included = text_at "CountriesIncluded" below;
      regions_included = text_at "RegionsIncluded" below;
      excluded = text_at "CountriesExcluded" below;
      regions_excluded = text_at "RegionsExcluded" below;
      again = again_in nodes;
    }

-- ---- what the desk does not support

-- that each of these regions which is two letters is a country
abbrev pub region_notes : List ℕ → List Reason
region_notes regions = map (wrong CountryAsRegion) (filter is_two_letters (words_of regions))

-- the countries that a text names
abbrev pub parsed_countries : List ℕ → Option (List (List ℕ))
parsed_countries text = parsed_term countries_of (countries_written text)

module _ (a : Area) where
  -- whether a country or the world is included: a region beside it makes the territory no smaller
  abbrev pub has_country : Bool
  has_country = is_filled a.included || names_world a.regions_included

  -- two letters among the regions, without which the territory would hold where it must not: where
  -- neither a country nor the world is included, or among those that are excluded
  abbrev pub country_as_region : Option (List ℕ)
  country_as_region =
      option_or (if has_country then None else two_letters_in a.regions_included)
      (two_letters_in a.regions_excluded)

  -- whether it has no text
  abbrev pub is_silent : Bool
  is_silent =
      not (is_filled a.included || (is_filled a.regions_included
      || (is_filled a.excluded || is_filled a.regions_excluded)))

  -- why it does not say where, or says it in a form that does not count, each where it holds
  abbrev pub form_reasons : Reasons
  form_reasons =
      option_map (wrong ComesAgain) a.again
      ∷ (if is_some a.territory && is_silent then Some (wrong EmptyTerritory []) else None)
      ∷ option_map (wrong CountryAsRegion) country_as_region ∷ []

  -- Why the desk does not support a territory, whatever is left out of it: it would be another one,
  -- and not only a smaller one or one without whole countries. A region but two letters is included
  -- where neither a country nor the world is, and without it the territory would be the world; or
  -- one is excluded that is no part of a country.
  abbrev pub unsupported : Option Reason
  unsupported =
      option_or
      (if has_country then None
      else option_map (foreign RegionAlone) (first_region a.regions_included))
      (option_map (foreign RegionOfNoCountry) (region_of_no_country a.regions_excluded))

  -- ---- what is written, and what is left out of it

  -- CountriesIncluded, RegionsIncluded and CountriesExcluded, as the desk reads them: countries by
  -- their codes, and of the regions WORLD alone
  abbrev pub area_fields : Fields
  area_fields =
      countries_written a.included ∷ world_text (names_world a.regions_included)
      ∷ countries_written a.excluded ∷ []

  -- what is wrong of a territory that the desk supports
  abbrev pub territory_notes : List Reason
  territory_notes =
      if is_some a.territory
      then region_notes a.regions_included ++ region_notes a.regions_excluded else []

  -- the market of a territory, as the desk reads it
  abbrev pub market_of : Option ProductSupply
  market_of = parsed supply_of area_fields

  -- why the desk does not take a territory, each where it does not
  abbrev pub area_reasons : Reasons
  area_reasons =
      invalid parsed_countries CountriesIncluded a.included
      ∷ invalid parsed_countries CountriesExcluded a.excluded ∷ []

  -- why the desk does not take a territory, where it does not
  abbrev pub area_reason : Option Reason
  area_reason = desk_reason (is_some market_of) area_reasons Territory

-- ---- without where it lies in memory

-- a Territory, as its line and its four texts
abbrev pub area_view : Lent → Area
area_view a = record {
  territory = option_map (λ l. element_view l.now) a.line;
  included = a.included.now;
  regions_included = a.regions_included.now;
  excluded = a.excluded.now;
  regions_excluded = a.regions_excluded.now;
  again = text_view a.again;
}

-- what is renamed of the countries of a territory
abbrev pub AreRenamed : Renamed → Area → Type 0
AreRenamed r a =
    IsRenamed (option_map (λ v. v.items) r.included) a.included
    × IsRenamed (option_map (λ v. v.items) r.excluded) a.excluded
