use Rattle.std.proofs.Common.{IfSome, sym, ap, subst, ◌∙◌}
use Rattle.std.specs.FinMap as map
use Rattle.std.specs.String.{string_bytes}
use Rattle.catalogue_rules.specs.Records.{HasFewDetails}
use Rattle.catalogue_rules.proofs.Lookups.{get-map_by}
use Rattle.catalogue_rules.proofs.catalogue.Catalogue.get.Goals as goal

pub returns-clause-entry : goal.returns-clause-entry
returns-clause-entry c =
    c.get.ensures.value ∙ sym (get-map_by string_bytes c.self.inside.records.entries c.args.reference.now) ∙ ap (λ m. map.get m c.args.reference.now) c.self.view_is

pub returns-clause-few : goal.returns-clause-few
returns-clause-few c =
    let found = c.get.ensures.value ∙ sym (get-map_by string_bytes c.self.inside.records.entries c.args.reference.now) in
    subst (λ o. IfSome o HasFewDetails) (sym found) (c.self.invariant c.args.reference.now)
