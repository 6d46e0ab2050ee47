-- What becomes of each Price of a SupplyDetail that is written.
use Rattle.std.proofs.Common.{◌≡◌, ℕ, Bool, true, false, List, [], ◌∷◌, Option, Some, None, refl}
use Rattle.std.specs.Prelude.{codes, if◌then◌else◌, is_some}
use Rattle.std.specs.List.{AllByRecursion}
use Rattle.feed_outline.specs.Nodes.{Nodes}
use Rattle.onix_records.specs.declared.row.Opening.{Opening}
use Rattle.feed_mapping.specs.PriceTexts.{PriceTexts, prices_in}
use Rattle.feed_mapping.specs.Details.{context_in, detail_fields, detail_outcome, detail_reason}
use Rattle.feed_mapping.specs.Elements.{Composite, each_at, first}
use Rattle.feed_mapping.specs.Notes.{Reason}
use Rattle.feed_mapping.specs.Outcomes.{all_records, notes_below, nothing, outcome_reason, outcome_records}
use Rattle.feed_mapping.specs.PriceFates.{HasDetails, HasPrices, HasSupplies, IsPrice}
use Rattle.feed_mapping.specs.Prices.{PriceContext, is_nothing, outcome_of, written_fields, price_outcome, price_reasons}
use Rattle.feed_mapping.specs.ProductRecords.{fate_of, notification_written, supplies_in, written_notes}
use Rattle.feed_mapping.specs.Products.{identifier_notes, own_reason, product_record, reference_in, right_pairs}
use Rattle.feed_mapping.specs.Records.{first_some, is_field}
use Rattle.feed_mapping.specs.declared.product_records.Fate.TheVariants as fate
use Rattle.feed_mapping.specs.SupplyChoices.{SupplyChoices}
use Rattle.feed_mapping.specs.Supplies.{detail_in, details_in, supplies_reason, supply_markets, supply_outcome}

reason-is : (context : PriceContext) (price : PriceTexts) (kind : Option Reason) → IsPrice context price (outcome_of kind context price)
reason-is context price None = (written_fields context price, refl)
reason-is context price (Some kind) = tt

price-is : (context : PriceContext) (price : PriceTexts) → IsPrice context price (price_outcome context price)
price-is context price = go (is_nothing context price) refl
  where
    go : (n : Bool) → is_nothing context price ≡ n → IsPrice context price (if n then nothing else outcome_of (first_some (price_reasons context price)) context price)
    go true e = e
    go false e = reason-is context price (first_some (price_reasons context price))

prices-are : (context : PriceContext) (cs : List PriceTexts) → AllByRecursion (λ p. IsPrice context p (price_outcome context p)) cs
prices-are context [] = tt
prices-are context (c ∷ cs) = (price-is context c, prices-are context cs)

pub detail-has : (o : Opening) (choices : SupplyChoices) (nodes : Nodes) → outcome_reason (detail_outcome o choices nodes) ≡ None → HasPrices o choices nodes
detail-has o choices nodes e = go (detail_reason choices.preferred nodes) refl
  where
    go : (kind : Option Reason) → detail_reason choices.preferred nodes ≡ kind → HasPrices o choices nodes
    go (Some kind) is = let no' = rw is at e in absurd cc
    go None is = record { own = codes "SupplyDetail" ∷ detail_fields choices.preferred nodes; records = rw is refl; notes = rw is refl; each = prices-are (context_in o nodes) (prices_in nodes) }

pub supply-has : (o : Opening) (choices : SupplyChoices) (nodes : Nodes) → outcome_reason (supply_outcome o choices nodes) ≡ None → HasDetails o choices nodes
supply-has o choices nodes e = go (details_in choices nodes) refl (outcome_reason (supply_markets nodes)) refl (all_records (detail_in o choices) (details_in choices nodes)) refl
  where
    none : (some : Bool) → is_some (first (each_at "SupplyDetail" nodes)) ≡ some → details_in choices nodes ≡ [] → HasDetails o choices nodes
    none false a d = let no' = rw (d, a) at e in absurd cc
    none true a d = record { own = []; markets = []; records = rw (d, a) refl; notes = rw (d, a) refl }

    go : (ds : List Composite) → details_in choices nodes ≡ ds → (kind : Option Reason) → outcome_reason (supply_markets nodes) ≡ kind → (rs : List (List (List ℕ))) → all_records (detail_in o choices) ds ≡ rs
        → HasDetails o choices nodes
    go [] d kind m rs r = none (is_some (first (each_at "SupplyDetail" nodes))) refl d
    go (x ∷ ds) d (Some reason) m rs r = let no' = rw (d, m) at e in absurd cc
    go (x ∷ ds) d None m [] r = let no' = rw (d, m, r) at e in absurd cc
    go (x ∷ ds) d None m (y ∷ rs) r = record {
      own = outcome_records (supply_markets nodes);
      markets = notes_below (supply_markets nodes);
      records = rw (d, m, r) refl;
      notes = rw (d, m, r) refl;
    }

pub product-has : (o : Opening) (choices : SupplyChoices) (nodes : Nodes) → fate_of o choices nodes ≡ fate.Written → HasSupplies o choices nodes
product-has o choices nodes e = go (is_field (reference_in nodes)) refl (own_reason choices.supplier nodes) refl (supplies_reason o choices (supplies_in nodes)) refl
  where
    go : (stands : Bool) → is_field (reference_in nodes) ≡ stands → (own : Option Reason) → own_reason choices.supplier nodes ≡ own → (below : Option Reason) → supplies_reason o choices (supplies_in nodes) ≡ below → HasSupplies o choices nodes
    go false f own w below b = let no' = rw f at e in absurd cc
    go true f (Some own) w below b = let no' = rw (f, w) at e in absurd cc
    go true f None w (Some below) b = let no' = rw (f, w, b) at e in absurd cc
    go true f None w None b = record {
      own = product_record (notification_written choices.supplier nodes) (right_pairs nodes) nodes;
      before = identifier_notes nodes;
      behind = written_notes choices.supplier nodes;
      records = rw (f, w, b) refl;
      notes = rw (f, w, b) refl;
    }
