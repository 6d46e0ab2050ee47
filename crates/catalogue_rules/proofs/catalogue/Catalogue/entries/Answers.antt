use Rattle.std.proofs.Common.{sym, ap, subst, ◌∙◌}
use Rattle.std.specs.List.{All}
use Rattle.catalogue_rules.specs.Records.{ByReference, HasFewDetails, by_bytes, records_of}
use Rattle.catalogue_rules.proofs.Bounds.{all-records}
use Rattle.catalogue_rules.proofs.Order.{entries-map_of}
use Rattle.catalogue_rules.proofs.catalogue.Catalogue.entries.Goals as goal

pub returns-clause-records : goal.returns-clause-records
returns-clause-records c = ap by_bytes c.iter.ensures.rest ∙ sym (entries-map_of c.self.inside.records c.iter.ensures.ordered) ∙ ap records_of c.self.view_is

pub returns-clause-few : goal.returns-clause-few
returns-clause-few c =
    subst (λ (m : ByReference). All (λ r. HasFewDetails r.1) (records_of m)) c.self.view_is
    (all-records HasFewDetails c.self.inside.records c.iter.ensures.ordered c.self.invariant)
