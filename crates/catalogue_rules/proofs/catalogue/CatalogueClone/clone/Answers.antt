use Rattle.std.proofs.Common.{sym, subst, ◌∙◌}
use Rattle.catalogue_rules.specs.Records.{EachHas, HasFewDetails}
use Rattle.catalogue_rules.proofs.Lookups.{map_of-clone}
use Rattle.catalogue_rules.proofs.catalogue.CatalogueClone.clone.Goals as goal

pub invariant_of-result : goal.invariant_of-result
invariant_of-result c = subst (EachHas HasFewDetails) (sym (map_of-clone c.self.inside.records.entries c.in_ok-clone.field-0.entries c.in_ok-clone.ensures.cases)) c.self.invariant

pub returns : goal.returns
returns c = record { cases = map_of-clone c.self.inside.records.entries c.in_ok-clone.field-0.entries c.in_ok-clone.ensures.cases ∙ c.self.view_is }
