use Rattle.catalogue_rules.specs.Plans.{all_bytes}
use Rattle.catalogue_rules.proofs.Changes.{undone}
use Rattle.catalogue_rules.proofs.catalogue.Catalogue.make_room.Goals as goal

pub returns-in-Err-clause-err : goal.returns-in-Err-clause-err
returns-in-Err-clause-err c =
    undone c.args.self.now c.put_all.new.self c.remove_all.new.self (all_bytes c.args.new_references.now) c.requires c.put_all.ensures.others c.remove_all.ensures.others c.remove_all.ensures.gone
