-- The entries of a tree whose keys are texts, in order, are those of the map that they make.
use Rattle.std.proofs.Common.{◌≡◌, List, [], ◌∷◌, Global, String, Bool, true, false, length, sym, ap, ◌∙◌, subst}
use Rattle.std.specs.Prelude.{T, ◌&&◌}
use Rattle.std.specs.BTreeMap.{BTreeMap, IsOrdered}
use Rattle.std.specs.FinMap as fin
use Rattle.std.specs.FinMap.{entries-from_sorted, from_sorted, get-from_entries, get-from_sorted, is_sorted, len-entries}
use Rattle.std.specs.FinMap.Entries.{below_all}
use Rattle.std.specs.List.{AllByRecursion}
use Rattle.std.specs.List.Sorted.{IsStrictlySortedBy}
use Rattle.std.specs.Map.{keys_of}
use Rattle.std.specs.Ordering.{nat_cmp, is_lt}
use Rattle.std.specs.declared.cmp.Ordering.{Ordering}
use Rattle.std.specs.declared.cmp.Ordering.TheVariants.{Less}
use Rattle.std.specs.Cmp.Lexicographic.{slice_cmp}
use Rattle.std.specs.String.{string_bytes, string_cmp}
use Rattle.std.proofs.lemmas.Cmp.{nat_list_cmp_total}
use Rattle.std.proofs.lemmas.List.{length-map}
use Rattle.std.proofs.lemmas.Map.Keys.{sorted_head, sorted_tail}
use Rattle.catalogue_rules.specs.Records.{by_bytes, map_of}
use Rattle.catalogue_rules.proofs.Lookups.{equal_maps}

both : (a b : Bool) → T a → T b → T (a && b)
both true b p q = q
both false b p q = absurd p

less : (r : Ordering) → r ≡ Less → T (is_lt r)
less r e = subst (λ o. T (is_lt o)) (sym e) tt

below : {X : Type 0} (k : String Global) (es : List (String Global × X)) → AllByRecursion (λ y. string_cmp k y ≡ Less) (keys_of es) → T (below_all (slice_cmp nat_cmp) (string_bytes k) (by_bytes es))
below k [] h = tt
below k (e ∷ es) h = both _ _ (less _ h.0) (below k es h.1)

rising : {X : Type 0} (es : List (String Global × X)) → IsStrictlySortedBy string_cmp (keys_of es) → T (is_sorted (slice_cmp nat_cmp) (by_bytes es))
rising [] h = tt
rising (e ∷ es) h = both _ _ (below e.0 es (sorted_head string_cmp e.0 (keys_of es) h)) (rising es (sorted_tail string_cmp e.0 (keys_of es) h))

-- the map's entries are these
pub entries-map_of : {X : Type 0} (m : BTreeMap (String Global) X) → IsOrdered string_cmp m → fin.entries (map_of m.entries) ≡ by_bytes m.entries
entries-map_of m h =
    let sorted = rising m.entries h in
    ap fin.entries (equal_maps (map_of m.entries) (from_sorted (by_bytes m.entries))
    (λ q. get-from_entries nat_list_cmp_total (by_bytes m.entries) q ∙ sym (get-from_sorted (slice_cmp nat_cmp) (by_bytes m.entries) q sorted)))
    ∙ entries-from_sorted (slice_cmp nat_cmp) (by_bytes m.entries) sorted

-- and as many
pub len-map_of : {X : Type 0} (m : BTreeMap (String Global) X) → IsOrdered string_cmp m → fin.len (map_of m.entries) ≡ length m.entries
len-map_of m h = len-entries (map_of m.entries) ∙ ap length (entries-map_of m h) ∙ length-map m.entries (λ e. (string_bytes e.0, e.1))
