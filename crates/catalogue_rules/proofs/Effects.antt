-- Products one after the other.
use Rattle.std.proofs.Common.{◌≡◌, ◌+◌, List, [], ◌∷◌, ◌++◌, Option, Some, None, length, refl, arith}
use Rattle.std.specs.FinMap as map
use Rattle.onix_records.specs.declared.parts.Product.{Product}
use Rattle.catalogue_rules.specs.Records.{ByReference}
use Rattle.catalogue_rules.specs.Effects.{after, after_product, change_of, counted, effect_from}
use Rattle.catalogue_rules.specs.Plans.{total}
use Rattle.catalogue_rules.specs.declared.change.Change.{Change}
use Rattle.catalogue_rules.specs.declared.change.Change.TheVariants.{Replace, Update, Delete, Ignore}
use Rattle.onix_records.specs.declared.effects.Effect.{Effect}
use Rattle.catalogue_rules.specs.declared.entry.Entry.{Entry}

-- one more product at the end
pub after-push : (m : ByReference) (ps : List Product) (p : Product) → after m (ps ++ p ∷ []) ≡ after_product (after m ps) p
after-push m [] p = refl
after-push m (x ∷ ps) p = after-push (after_product m x) ps p

-- and its count
pub effect_from-push : (n : Effect) (m : ByReference) (ps : List Product) (p : Product)
    → effect_from n m (ps ++ p ∷ []) ≡ counted (change_of p.notification) (map.get (after m ps) p.reference) (effect_from n m ps)
effect_from-push n m [] p = refl
effect_from-push n m (x ∷ ps) p = effect_from-push (counted (change_of x.notification) (map.get m x.reference) n) (after_product m x) ps p

total-counted : (change : Change) (was : Option Entry) (n : Effect) → total (counted change was n) ≡ total n + 1
total-counted Replace was n = omega arith
total-counted Update None n = omega arith
total-counted Update (Some e) n = omega arith
total-counted Delete None n = omega arith
total-counted Delete (Some e) n = omega arith
total-counted Ignore was n = omega arith

-- each product is counted once
pub total-effect_from : (n : Effect) (m : ByReference) (ps : List Product) → total (effect_from n m ps) ≡ total n + length ps
total-effect_from n m [] = omega arith
total-effect_from n m (p ∷ ps) =
    let more = total-effect_from (counted (change_of p.notification) (map.get m p.reference) n) (after_product m p) ps in
    let one = total-counted (change_of p.notification) (map.get m p.reference) n in
    omega arith
