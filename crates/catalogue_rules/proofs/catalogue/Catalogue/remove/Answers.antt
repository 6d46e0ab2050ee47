use Rattle.std.proofs.Common.{ap, subst, sym, ◌∙◌}
use Rattle.std.specs.FinMap as map
use Rattle.std.specs.String.{string_bytes}
use Rattle.catalogue_rules.specs.Records.{EachHas, HasFewDetails, map_of}
use Rattle.catalogue_rules.proofs.Bounds.{each-removed}
use Rattle.catalogue_rules.proofs.Lookups.{remove-map_by}
use Rattle.catalogue_rules.proofs.catalogue.Catalogue.remove.Goals as goal

pub returns : goal.returns
returns c =
    remove-map_by string_bytes c.args.reference.now c.self.inside.records c.remove.new.self c.remove.ensures.updates
    ∙ ap (λ m. map.remove m c.args.reference.now) c.self.view_is

pub invariant_of-self : goal.invariant_of-self
invariant_of-self c =
    subst (EachHas HasFewDetails) (sym (remove-map_by string_bytes c.args.reference.now c.self.inside.records c.remove.new.self c.remove.ensures.updates))
    (each-removed HasFewDetails (map_of c.self.inside.records.entries) c.args.reference.now c.self.invariant)
