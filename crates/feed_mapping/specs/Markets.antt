-- The Markets of a ProductSupply, as one.
use Rattle.std.specs.Prelude.{◌≡◌, Bool, true, false, ◌==◌, List, [], ◌∷◌, length, Option, Some, if◌then◌else◌}
use Rattle.std.specs.Prelude.{None, is_none, is_some, codes, map, not, option_map}
use Rattle.std.specs.Prelude.{option_and_then, option_to_list, Result, Ok, Err}
use Rattle.std.specs.List.{flat_map, list_any}
use Rattle.std.specs.Option.{option_map_or, option_or}
use Rattle.onix_records.specs.Fields.{territory_fields}
use Rattle.onix_records.specs.Supply.{supply_of}
use Rattle.onix_terms.specs.declared.territory.Territory.{Territory}
use Rattle.feed_mapping.specs.Elements.{Composite, first}
use Rattle.feed_mapping.specs.Notes.{Reason, Reasons, foreign, is_wrong, reason_view, wrong}
use Rattle.feed_mapping.specs.Outcomes.{Outcome, left_out, written}
use Rattle.feed_mapping.specs.Records.{Fields, clean, first_some, unless}
use Rattle.feed_mapping.specs.Territories.{Area, area_fields, area_in, area_reason, market_of}
use Rattle.feed_mapping.specs.Territories.{form_reasons, territory_notes, unsupported}
use Rattle.feed_mapping.specs.Unions.{union}
use Rattle.feed_mapping.specs.declared.notes.Foreign.TheVariants as other
use Rattle.feed_mapping.specs.declared.notes.Reason.{Reason as LentReason}
use Rattle.feed_mapping.specs.declared.notes.Wrong.TheVariants as bad

-- ---- one Market

-- that a Market has no Territory: it does not say where, and that is not the world
abbrev pub no_territory : Area → Option Reason
no_territory area = unless (is_some area.territory) bad.NoTerritory []

-- why a Market is left out, whatever countries it names, each where it holds
abbrev pub early_market_reasons : Area → Reasons
early_market_reasons area =
    unsupported area ∷ first_some (form_reasons area) ∷ no_territory area ∷ []

-- why a Market is left out, where it is: the desk does not support it, or would not take it
abbrev pub market_reason : Area → Option Reason
market_reason area = option_or (first_some (early_market_reasons area)) (area_reason area)

module _ (m : Composite) where
  -- what its Territory says, unless it is left out
  abbrev pub kept_area : Option Area
  kept_area = if is_none (market_reason (area_in m.below)) then Some (area_in m.below) else None

  -- where it holds, unless it is left out
  abbrev pub territory_of : Option Territory
  territory_of = option_and_then (λ a. option_map (λ s. s.market) (market_of a)) kept_area

  -- why it is left out, or what is wrong of its territory
  abbrev pub market_notes : List Reason
  market_notes =
      option_map_or (λ reason. reason ∷ []) (market_reason (area_in m.below))
      (territory_notes (area_in m.below))

  -- whether it is left out as foreign
  abbrev pub is_foreign_market : Bool
  is_foreign_market =
      option_map_or (λ reason. not (is_wrong reason.kind)) (market_reason (area_in m.below)) false

-- ---- all Markets

module _ (markets : List Composite) where
  -- where those Markets hold that are not left out
  abbrev pub territories_of : List Territory
  territories_of = flat_map (λ m. option_to_list (territory_of m)) markets

  -- the first of them, as it stands
  abbrev pub first_kept : Option Area
  first_kept = first_some (map kept_area markets)

-- ---- the record of a ProductSupply

abbrev pub supply_record : Fields → Fields
supply_record fields = codes "ProductSupply" ∷ fields

-- the fields of a union, written out; nothing, where one is too long
abbrev pub union_fields : Territory → Option Fields
union_fields t = option_map (λ s. territory_fields t) (clean supply_of (territory_fields t))

-- Of one Market as it stands, of several as one: as their union, or where no country lies in them
-- as the first of them stands.
abbrev pub kept_fields : Area → List Territory → Option Fields
kept_fields first territories =
    if length territories == 1 then Some (area_fields first)
    else option_map_or union_fields (union territories) (Some (area_fields first))

-- of what is found of Markets: the first that is left, where they hold that are left, whether
-- another is left out as foreign, and the notes on them
abbrev pub kept_outcome : Option Area → List Territory → Bool → List Reason → Outcome
kept_outcome None territories some_foreign notes =
    left_out
    (if some_foreign then foreign other.NoMarketLeft [] else wrong bad.NoMarketLeft [])
kept_outcome (Some first) territories some_foreign notes =
    option_map_or (λ fields. written (supply_record fields ∷ []) notes)
    (kept_fields first territories) (left_out (foreign other.LongMarkets []))

abbrev pub some_outcome : List Composite → Outcome
some_outcome markets =
    kept_outcome (first_kept markets) (territories_of markets)
    (list_any is_foreign_market markets) (flat_map market_notes markets)

-- What the Markets of a ProductSupply come to: its record, of all of them together. Without a
-- Market it is that of the world.
abbrev pub markets_outcome : List Composite → Outcome
markets_outcome [] = written (supply_record ([] ∷ [] ∷ [] ∷ []) ∷ []) []
markets_outcome (m ∷ markets) = some_outcome (m ∷ markets)

-- ---- what a call gives

-- where a Market holds, or why it is left out
abbrev pub IsKept : Result Territory LentReason → Area → Type 0
IsKept (Ok territory) area =
    (market_reason area ≡ None)
    × (option_map (λ s. s.market) (market_of area) ≡ Some territory)
IsKept (Err reason) area = market_reason area ≡ Some (reason_view reason)

-- a call put the record of these fields into the buffer; false, where there are none
abbrev pub IsFilled : Bool → Fields → Option Fields → Type 0
IsFilled true filled fields = option_map supply_record fields ≡ Some filled
IsFilled false filled fields = fields ≡ None
