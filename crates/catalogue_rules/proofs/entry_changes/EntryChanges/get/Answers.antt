use Rattle.std.proofs.Common.{sym, ap, ◌∙◌}
use Rattle.std.specs.FinMap as map
use Rattle.catalogue_rules.specs.Plans.{str_bytes}
use Rattle.catalogue_rules.proofs.Lookups.{get-map_by}
use Rattle.catalogue_rules.proofs.entry_changes.EntryChanges.get.Goals as goal

pub returns : goal.returns
returns c =
    c.get.ensures.value ∙ sym (get-map_by str_bytes c.self.inside.changes.entries c.args.reference.now) ∙ ap (λ m. map.get m c.args.reference.now) c.self.view_is
