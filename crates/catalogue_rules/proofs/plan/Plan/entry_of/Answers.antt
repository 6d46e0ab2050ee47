use Rattle.std.proofs.Common.{◌≡◌, Option, Some, ap, sym, ◌∙◌}
use Rattle.std.specs.FinMap as map
use Rattle.catalogue_rules.specs.Plans.{entry_now}
use Rattle.catalogue_rules.specs.declared.entry.Entry.{Entry}
use Rattle.catalogue_rules.proofs.plan.Plan.entry_of.Goals as goal

changed_to : (was now : Option Entry) (change : Option (Option Entry)) → Some now ≡ change → now ≡ entry_now was change
changed_to was now change e = ap (entry_now was) e

pub returns-in-Some-Some : goal.returns-in-Some-Some
returns-in-Some-Some c = sym c.in-Some-Some.field-0-is ∙ changed_to (map.get c.args.catalogue.now c.args.reference.now) c.in-Some-Some.field-0.now _ c.in-Some-Some.ensures

pub returns-in-Some-None : goal.returns-in-Some-None
returns-in-Some-None c = sym c.in-Some-None.field-0-is ∙ changed_to (map.get c.args.catalogue.now c.args.reference.now) c.in-Some-None.field-0.now _ c.in-Some-None.ensures

pub returns-in-None : goal.returns-in-None
returns-in-None c = c.get-in-None.ensures.entry ∙ ap (entry_now (map.get c.args.catalogue.now c.args.reference.now)) c.in-None.ensures
