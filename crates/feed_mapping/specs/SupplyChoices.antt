-- What the caller chooses for the supplies of a Product.
use Rattle.std.specs.Prelude.{ℕ, List, Option, option_map}
use Rattle.feed_terms.specs.declared.term.Term.{Term}
use Rattle.feed_mapping.specs.Parties.{Pair}
use Rattle.feed_mapping.specs.PartyViews.{pair_view}
use Rattle.feed_mapping.specs.declared.supply_choices.SupplyChoices.{SupplyChoices as Lent}

-- The supplier whose SupplyDetails alone count, if one is named; the type of identifier of a
-- supplier that is preferred, and the terms of the shop, if it has any.
pub record SupplyChoices : Type 0 where
  pub supplier : Option Pair
  pub preferred : List ℕ
  pub terms : Option (List Term)

-- without where it lies in memory
abbrev pub supply_choices_view : Lent → SupplyChoices
supply_choices_view c = record {
  supplier = option_map pair_view c.supplier;
  preferred = c.id_type.now;
  terms = option_map (λ t. t.now) c.terms;
}
