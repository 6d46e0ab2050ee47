use Rattle.std.proofs.Common.{sym, ap, ◌∙◌}
use Rattle.std.specs.FinMap as map
use Rattle.catalogue_rules.proofs.Order.{len-map_of}
use Rattle.catalogue_rules.proofs.catalogue.Catalogue.len.Goals as goal

pub returns : goal.returns
returns c = c.len.ensures.len ∙ sym (len-map_of c.self.inside.records c.len.ensures.ordered) ∙ ap map.len c.self.view_is
