-- Each record of a catalogue has few SupplyDetails, since each product of a message has.
use Rattle.std.proofs.Common.{◌≡◌, ◌≤◌, ℕ, List, [], ◌∷◌, Option, Some, None, Bool, cond, true, false, Global, String, IfSome, refl, sym, subst, arith, ◌∙◌}
use Rattle.std.specs.BTreeMap as tree
use Rattle.std.specs.BTreeMap.{BTreeMap, IsOrdered}
use Rattle.std.specs.FinMap as fin
use Rattle.std.specs.FinMap.{FinMap, get-insert, get-remove}
use Rattle.std.specs.Ordering.{nat_cmp, eq_by_cmp}
use Rattle.std.specs.Cmp.Lexicographic.{slice_cmp}
use Rattle.std.specs.List.{All}
use Rattle.std.specs.String.{string_bytes, string_cmp, string_cmp_total}
use Rattle.std.proofs.lemmas.Cmp.{nat_list_cmp_total}
use Rattle.std.proofs.lemmas.List.Elements.{All-head, All-map, All-tail, All-weaker}
use Rattle.std.proofs.lemmas.Map.Views.{All-found}
use Rattle.onix_records.specs.DetailCount.{detail_count}
use Rattle.onix_records.specs.declared.parts.Product.{Product}
use Rattle.onix_records.specs.declared.parts.ProductSupply.{ProductSupply}
use Rattle.catalogue_rules.specs.Records.{ByReference, EachHas, HasFewDetails, map_of}
use Rattle.catalogue_rules.specs.Effects.{after, after_product, change_of, entry_after, updated}
use Rattle.catalogue_rules.specs.Plans.{Changes, IsPlan, entry_now}
use Rattle.catalogue_rules.specs.declared.change.Change.{Change}
use Rattle.catalogue_rules.specs.declared.change.Change.TheVariants.{Replace, Update, Delete, Ignore}
use Rattle.catalogue_rules.specs.declared.entry.Entry.{Entry}
use Rattle.catalogue_rules.proofs.Lookups.{ChangesAt, get-map_by, none_from_empty}
use Rattle.catalogue_rules.proofs.Order.{entries-map_of}
use Rattle.catalogue_rules.proofs.Plans.{changes_at-with_entry}

-- ---- what holds of each value of a map

if_either : {X : Type 0} (P : X → Type 0) (b : Bool) (w was : Option X) → IfSome w P → IfSome was P → IfSome (cond b w was) P
if_either P true w was h g = h
if_either P false w was h g = g

-- holds of each after a change to such a value
pub each-changed : {X : Type 0} (P : X → Type 0) (was now : FinMap (slice_cmp nat_cmp) X) (k : List ℕ) (w : Option X)
    → ChangesAt was now k w → IfSome w P → EachHas P was → EachHas P now
each-changed P was now k w u h each q =
    subst (λ o. IfSome o P) (sym (u q)) (if_either P (eq_by_cmp (slice_cmp nat_cmp) q k) w (fin.get was q) h (each q))

pub each-inserted : {X : Type 0} (P : X → Type 0) (m : FinMap (slice_cmp nat_cmp) X) (k : List ℕ) (v : X) → P v → EachHas P m → EachHas P (fin.insert m k v)
each-inserted P m k v h each = each-changed P m (fin.insert m k v) k (Some v) (λ q. get-insert nat_list_cmp_total m k v q) h each

pub each-removed : {X : Type 0} (P : X → Type 0) (m : FinMap (slice_cmp nat_cmp) X) (k : List ℕ) → EachHas P m → EachHas P (fin.remove m k)
each-removed P m k each = each-changed P m (fin.remove m k) k None (λ q. get-remove nat_list_cmp_total m k q) tt each

pub each-of_none : {X : Type 0} (P : X → Type 0) → EachHas P (map_of [])
each-of_none P q = subst (λ o. IfSome o P) (sym (none_from_empty (string_bytes {Z = Global}) [] q refl)) tt

-- and of each record of the map that a tree makes
pub all-records : {X : Type 0} (P : X → Type 0) (m : BTreeMap (String Global) X) → IsOrdered string_cmp m → EachHas P (map_of m.entries) → All (λ r. P r.1) (fin.entries (map_of m.entries))
all-records {X} P m ordered each =
    subst (All (λ (r : List ℕ × X). P r.1)) (sym (entries-map_of m ordered))
    (All-map (λ (r : List ℕ × X). P r.1) (λ (e : String Global × X). (string_bytes e.0, e.1)) m.entries
    (All-weaker (λ (e : String Global × X). tree.get string_cmp m e.0 ≡ Some e.1) (λ (e : String Global × X). P e.1)
    (λ e h. subst (λ o. IfSome o P) (get-map_by string_bytes m.entries (string_bytes e.0) ∙ h) (each (string_bytes e.0)))
    m.entries (All-found string_cmp_total m ordered)))

-- ---- the products of a message

few-updated : (e : Entry) (supplies : List ProductSupply) → detail_count supplies ≤ 20000 → HasFewDetails e → HasFewDetails (updated e supplies)
few-updated e [] h g = g
few-updated e (s ∷ more) h g = h

few-entry : (change : Change) (p : Product) (was : Option Entry) → detail_count p.supplies ≤ 20000 → IfSome was HasFewDetails → IfSome (entry_after change p was) HasFewDetails
few-entry Replace p was h g = h
few-entry Update p None h g = tt
few-entry Update p (Some e) h g = few-updated e p.supplies h g
few-entry Delete p was h g = tt
few-entry Ignore p was h g = g

-- a message leaves each record with few
pub few-after : (m : ByReference) (ps : List Product) → All (λ p. detail_count p.supplies ≤ 19998) ps → EachHas HasFewDetails m → EachHas HasFewDetails (after m ps)
few-after m [] all each = each
few-after m (p ∷ ps) all each =
    let now = entry_after (change_of p.notification) p (fin.get m p.reference) in
    let own : detail_count p.supplies ≤ 19998 = All-head (λ (x : Product). detail_count x.supplies ≤ 19998) p ps all in
    few-after (after_product m p) ps (All-tail (λ (x : Product). detail_count x.supplies ≤ 19998) p ps all)
    (each-changed HasFewDetails m (after_product m p) p.reference now (changes_at-with_entry m p.reference now)
    (few-entry (change_of p.notification) p (fin.get m p.reference) (omega (arith, own)) (each p.reference)) each)

few-change : (was : Option Entry) (o : Option (Option Entry)) → IfSome (entry_now was o) HasFewDetails → IfSome o (λ w. IfSome w HasFewDetails)
few-change was None h = tt
few-change was (Some now) h = h

-- and so do the changes that make it
pub few-changes : (base : ByReference) (draft : Changes) (new_references : List (List ℕ)) (m : ByReference) → IsPlan base draft new_references m
    → EachHas HasFewDetails m → EachHas (λ w. IfSome w HasFewDetails) draft
few-changes base draft new_references m plan each q =
    few-change (fin.get base q) (fin.get draft q) (subst (λ o. IfSome o HasFewDetails) (sym (plan.gives q)) (each q))
