use Rattle.std.proofs.Common.{◌≡◌, ℕ, List, IfSome}
use Rattle.std.specs.FinMap as map
use Rattle.catalogue_rules.specs.Records.{EachHas, HasFewDetails}
use Rattle.catalogue_rules.specs.Plans.{IsReady, entry_now}
use Rattle.catalogue_rules.proofs.catalogue.Catalogue.apply_draft.Given as goal

abbrev pub invariant-loop-reference : goal.invariant-loop-reference
invariant-loop-reference l =
    ((q : List ℕ) → IsReady (map.get l.self q) (map.get l.rest q))
    × ((q : List ℕ) → entry_now (map.get l.self q) (map.get l.rest q) ≡ entry_now (map.get l.fn.self q) (map.get l.fn.draft q))
    × EachHas (λ w. IfSome w HasFewDetails) l.rest

abbrev pub decreases-loop-reference : goal.decreases-loop-reference
decreases-loop-reference l = map.len l.rest
