use Rattle.std.proofs.Common.{◌≡◌, take}
use Rattle.catalogue_rules.specs.Effects.{after, effect_of}
use Rattle.catalogue_rules.specs.Plans.{IsPlan, all_bytes}
use Rattle.catalogue_rules.proofs.plan.Plan.of.Given as goal

abbrev pub invariant-loop-product : goal.invariant-loop-product
invariant-loop-product l = record {
  plan : IsPlan l.catalogue l.plan.draft (all_bytes l.plan.new_references.items) (after l.catalogue (take l.product-index l.products));
  effect : l.plan.effect ≡ effect_of l.catalogue (take l.product-index l.products);
}
