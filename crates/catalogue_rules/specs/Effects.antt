-- The effect of a message on a catalogue.
use Rattle.std.specs.Prelude.{ℕ, ◌+◌, ◌||◌, List, [], ◌∷◌, Option, Some, None, codes, if◌then◌else◌}
use Rattle.std.specs.Str.{bytes_eq}
use Rattle.std.specs.FinMap as map
use Rattle.onix_records.specs.declared.parts.Product.{Product}
use Rattle.onix_records.specs.declared.parts.ProductSupply.{ProductSupply}
use Rattle.catalogue_rules.specs.Records.{ByReference}
use Rattle.catalogue_rules.specs.declared.change.Change.{Change}
use Rattle.catalogue_rules.specs.declared.change.Change.TheVariants.{Replace, Update, Delete, Ignore}
use Rattle.onix_records.specs.declared.effects.Effect.{Effect}
use Rattle.catalogue_rules.specs.declared.entry.Entry.{Entry}

-- what a NotificationType asks for
abbrev pub change_of : List ℕ → Change
change_of code =
    if bytes_eq code (codes "01") || bytes_eq code (codes "02") || bytes_eq code (codes "03")
    then Replace
    else if bytes_eq code (codes "04") then Update
    else if bytes_eq code (codes "05") then Delete
    else Ignore

-- a record after an update with these supplies: with none it stays as it is
abbrev pub updated : Entry → List ProductSupply → Entry
updated e [] = e
updated e (s ∷ more) = record e { supplies = s ∷ more }

-- what the reference of a product has after it, by what it had
abbrev pub entry_after : Change → Product → Option Entry → Option Entry
entry_after Replace p was = Some (record { ids = p.ids; supplies = p.supplies })
entry_after Update p None = None
entry_after Update p (Some e) = Some (updated e p.supplies)
entry_after Delete p was = None
entry_after Ignore p was = was

-- the counts with one more product, by what its reference had
abbrev pub counted : Change → Option Entry → Effect → Effect
counted Replace was n = record n { replaced = n.replaced + 1 }
counted Update None n = record n { unknown = n.unknown + 1 }
counted Update (Some e) n = record n { updated = n.updated + 1 }
counted Delete None n = record n { unknown = n.unknown + 1 }
counted Delete (Some e) n = record n { deleted = n.deleted + 1 }
counted Ignore was n = record n { ignored = n.ignored + 1 }

-- the catalogue in which that reference has that entry, or none
abbrev pub with_entry : ByReference → List ℕ → Option Entry → ByReference
with_entry m reference None = map.remove m reference
with_entry m reference (Some e) = map.insert m reference e

-- the catalogue after one product
abbrev pub after_product : ByReference → Product → ByReference
after_product m p = with_entry m p.reference
    (entry_after (change_of p.notification) p (map.get m p.reference))

-- the catalogue after the products of a message, in order: notifications 01, 02 and 03 bring the
-- whole record, 04 replaces its supplies, where the product has some, and leaves its identifiers,
-- 05 deletes it, any other changes nothing; a record that is not there is neither updated nor
-- deleted
abbrev pub after : ByReference → List Product → ByReference
after m [] = m
after m (p ∷ rest) = after (after_product m p) rest

-- the counts of no product
abbrev pub no_effect : Effect
no_effect = record { replaced = 0; updated = 0; deleted = 0; unknown = 0; ignored = 0 }

-- these counts and those of the products of a message, in order
abbrev pub effect_from : Effect → ByReference → List Product → Effect
effect_from n m [] = n
effect_from n m (p ∷ rest) = effect_from
    (counted (change_of p.notification) (map.get m p.reference) n) (after_product m p) rest

-- the counts of a message: each product is counted once, as replaced, updated, deleted, unknown or
-- ignored
abbrev pub effect_of : ByReference → List Product → Effect
effect_of m products = effect_from no_effect m products
