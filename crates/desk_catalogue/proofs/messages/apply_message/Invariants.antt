use Rattle.std.proofs.Common.{◌≡◌, ◌≤◌, ◌-◌, Ok, length, take}
use Rattle.catalogue_rules.specs.Effects.{no_effect}
use Rattle.catalogue_rules.specs.Plans.{total}
use Rattle.catalogue_rules.specs.Records.{ByReference}
use Rattle.desk_catalogue.specs.Holding.{HoldsCatalogue}
use Rattle.desk_catalogue.specs.Achieves.{Does}
use Rattle.desk_catalogue.specs.AppliedProducts.{IsCatalogueReadAs}
use Rattle.desk_catalogue.specs.Runs.{AreApplied}
use Rattle.desk_catalogue.proofs.messages.apply_message.Given as goal

abbrev pub invariant-loop-done : goal.invariant-loop-done
invariant-loop-done g l = record {
  within : l.done ≤ length l.products;
  counted : total l.effect ≡ l.done;
  so_far : Does g.S.Store
      (λ rows (_ : Unit {0}) after. (m : ByReference) → HoldsCatalogue l.series m rows → IsCatalogueReadAs l.with_minimums m × AreApplied l.series m (take l.done l.products) no_effect rows l.effect after)
      l.fn.work l.work (Ok tt);
}

abbrev pub decreases-loop-done : goal.decreases-loop-done
decreases-loop-done g l = length l.products - l.done
