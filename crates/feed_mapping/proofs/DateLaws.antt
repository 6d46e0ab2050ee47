-- The days of several PriceDates, one after the other.
use Rattle.std.proofs.Common.{◌≡◌, ◌∙◌, List, ◌∷◌, ap, sym}
use Rattle.std.specs.Prelude.{codes}
use Rattle.feed_outline.specs.Nodes.{Nodes}
use Rattle.feed_mapping.specs.Dates.{Dated, and_days, days_behind, days_of}
use Rattle.feed_mapping.specs.Elements.{Composite, composites}

-- one more PriceDate was read
pub one_more : (held read new all : Dated) (left others : Nodes) (c : Composite)
    → composites (codes "PriceDate") left ≡ c ∷ composites (codes "PriceDate") others → read ≡ days_of c.below → new ≡ and_days held read
    → days_behind held (composites (codes "PriceDate") left) ≡ all → days_behind new (composites (codes "PriceDate") others) ≡ all
one_more held read new all left others c split is made before =
    ap (λ (d : Dated). days_behind d (composites (codes "PriceDate") others)) (made ∙ ap (λ (d : Dated). and_days held d) is)
    ∙ ap (λ (cs : List Composite). days_behind held cs) (sym split)
    ∙ before
