-- The supplies of a Product: what comes of them.
use Rattle.std.specs.Prelude.{Bool, true, false, List, [], ◌∷◌, ◌++◌, Option, Some, map}
use Rattle.std.specs.Prelude.{if◌then◌else◌, is_some, option_map}
use Rattle.feed_outline.specs.Nodes.{Nodes}
use Rattle.onix_records.specs.declared.row.Opening.{Opening}
use Rattle.feed_mapping.specs.Details.{detail_outcome}
use Rattle.feed_mapping.specs.Elements.{Composite, each_at, first}
use Rattle.feed_mapping.specs.Markets.{markets_outcome}
use Rattle.feed_mapping.specs.Notes.{Reason, Reasons, foreign, is_wrong, wrong}
use Rattle.feed_mapping.specs.OtherSuppliers.{own_details}
use Rattle.feed_mapping.specs.Outcomes.{Outcome, all_notes, all_records, left_out, notes_below}
use Rattle.feed_mapping.specs.Outcomes.{nothing, outcome_reason, outcome_records, written_unless}
use Rattle.feed_mapping.specs.Records.{first_some, if_empty, option_filter}
use Rattle.feed_mapping.specs.SupplyChoices.{SupplyChoices}
use Rattle.feed_mapping.specs.declared.notes.Foreign.TheVariants as other
use Rattle.feed_mapping.specs.declared.notes.ReasonKind.{ReasonKind}
use Rattle.feed_mapping.specs.declared.notes.ReasonKind.TheVariants.{Foreign}
use Rattle.feed_mapping.specs.declared.notes.Wrong.TheVariants as bad

-- the SupplyDetails of a ProductSupply that count
abbrev pub details_in : SupplyChoices → Nodes → List Composite
details_in choices nodes = own_details choices.supplier nodes

-- what its Markets come to
abbrev pub supply_markets : Nodes → Outcome
supply_markets nodes = markets_outcome (each_at "Market" nodes)

-- whether what is left out for this reason was there: without a SupplyDetail it is as absent
abbrev pub is_lost : ReasonKind → Bool
is_lost (Foreign other.NoSupplyDetail) = false
is_lost kind = true

-- that no supply is left, of which this is the first
abbrev pub none_left : Reason → Reason
none_left first =
    if is_wrong first.kind then wrong bad.NoSupplyLeft [] else foreign other.NoSupplyLeft []

module _ (o : Opening) (choices : SupplyChoices) where
  -- what a SupplyDetail comes to
  abbrev pub detail_in : Composite → Outcome
  detail_in detail = detail_outcome o choices detail.below

  -- why a ProductSupply that has a SupplyDetail is left out: for its Markets, or since all its
  -- SupplyDetails are
  abbrev pub supply_reasons : Nodes → Reasons
  supply_reasons nodes =
      outcome_reason (supply_markets nodes)
      ∷ if_empty (all_records detail_in (details_in choices nodes))
      (Some (wrong bad.NoDetailLeft [])) ∷ []

  -- what it comes to: the record of its Markets and those of its SupplyDetails
  abbrev pub detailed_outcome : Nodes → Outcome
  detailed_outcome nodes =
      written_unless (first_some (supply_reasons nodes))
      (outcome_records (supply_markets nodes) ++ all_records detail_in (details_in choices nodes))
      (notes_below (supply_markets nodes) ++ all_notes detail_in (details_in choices nodes))

  -- what a ProductSupply comes to: one without a SupplyDetail is as absent; so is one all of whose
  -- SupplyDetails are of others, without a note
  abbrev pub supply_outcome : Nodes → Outcome
  supply_outcome nodes =
      if is_some (first (details_in choices nodes)) then detailed_outcome nodes
      else if is_some (first (each_at "SupplyDetail" nodes)) then nothing
      else left_out (foreign other.NoSupplyDetail [])

  -- what a ProductSupply comes to
  abbrev pub supply_in : Composite → Outcome
  supply_in supply = supply_outcome supply.below

  -- the reason for which the first is left out of the supplies that have a SupplyDetail
  abbrev pub first_lost : List Composite → Option Reason
  first_lost supplies =
      first_some (map (λ s. option_filter (λ r. is_lost r.kind) (outcome_reason (supply_in s)))
      supplies)

  -- that none is left of supplies of which some have a SupplyDetail
  abbrev pub supplies_reason : List Composite → Option Reason
  supplies_reason supplies =
      if_empty (all_records supply_in supplies) (option_map none_left (first_lost supplies))
