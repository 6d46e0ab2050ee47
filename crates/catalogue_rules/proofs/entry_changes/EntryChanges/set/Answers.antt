use Rattle.std.proofs.Common.{ap, ◌∙◌}
use Rattle.std.specs.FinMap as map
use Rattle.catalogue_rules.specs.Plans.{str_bytes}
use Rattle.catalogue_rules.proofs.Lookups.{insert-map_by}
use Rattle.catalogue_rules.proofs.entry_changes.EntryChanges.set.Goals as goal

pub returns : goal.returns
returns c =
    insert-map_by str_bytes c.args.reference.now c.self.inside.changes c.insert.new.self c.args.change c.in_ok-insert.ensures.updates
    ∙ ap (λ m. map.insert m c.args.reference.now c.args.change) c.self.view_is
