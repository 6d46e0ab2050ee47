use Rattle.std.proofs.Common.{sym, subst}
use Rattle.catalogue_rules.specs.Records.{EachHas, HasFewDetails, map_of}
use Rattle.catalogue_rules.proofs.Bounds.{each-of_none}
use Rattle.catalogue_rules.proofs.catalogue.Catalogue.new.Goals as goal

pub invariant_of-result : goal.invariant_of-result
invariant_of-result c = subst (λ es. EachHas HasFewDetails (map_of es)) (sym c.new.ensures.empty) (each-of_none HasFewDetails)
