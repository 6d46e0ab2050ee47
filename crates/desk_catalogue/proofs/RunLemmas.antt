-- Runs of new records, and products applied some at a time.
use Rattle.std.proofs.Common.{◌≡◌, ℕ, suc, ◌+◌, ◌||◌, ◌&&◌, not, Bool, true, false, List, [], ◌∷◌, ◌++◌, length, map, filter, Option, Some, None, arith, append-nil, refl, sym, ap, subst, ◌∙◌}
use Rattle.std.specs.FinMap as fin
use Rattle.std.specs.List.{All, list_any}
use Rattle.std.specs.Option.{is_some}
use Rattle.std.specs.Str.{bytes_eq}
use Rattle.std.proofs.lemmas.List.{append_assoc}
use Rattle.std.proofs.lemmas.List.Elements.{filter-append}
use Rattle.std.proofs.lemmas.Slice.Eq.{bytes_eq-Decides}
use Rattle.onix_records.specs.declared.parts.Product.{Product}
use Rattle.catalogue_rules.specs.Effects.{after as after_all, after_product, change_of, counted, effect_from, entry_after, no_effect, with_entry}
use Rattle.catalogue_rules.specs.Records.{ByReference}
use Rattle.catalogue_rules.specs.declared.change.Change.{Change}
use Rattle.catalogue_rules.specs.declared.change.Change.TheVariants.{Delete, Ignore, Replace, Update}
use Rattle.catalogue_rules.specs.declared.entry.Entry.{Entry}
use Rattle.catalogue_rules.proofs.Lookups.{changed_there}
use Rattle.catalogue_rules.proofs.Plans.{changes_at-with_entry}
use Rattle.onix_records.specs.declared.effects.Effect.{Effect}
use Rattle.desk_tables.specs.RecordRows.{minimum_row, offer_row, price_row}
use Rattle.desk_tables.specs.Rows.{DeskRows}
use Rattle.desk_tables.specs.declared.records.RecordRow.{RecordRow}
use Rattle.desk_tables.proofs.ManyRows.{mapped_behind}
use Rattle.desk_catalogue.specs.AppliedProducts.{IsCatalogueReadAs, IsProductApplied}
use Rattle.desk_catalogue.specs.Calls.{FindsAs}
use Rattle.desk_catalogue.specs.EntryRows.{article_rows, has_minimum, offer_rows_of, price_rows_of, record_row}
use Rattle.desk_catalogue.specs.Holding.{Became, HoldsCatalogue, HoldsEntry, other_catalogues}
use Rattle.desk_catalogue.specs.ReadRows.{Finds, IsFound, is_there}
use Rattle.desk_catalogue.specs.Runs.{brings_new, is_replace, is_replaced, AreApplied, AreNew, IsFoundOf, IsNew}
use Rattle.desk_catalogue.specs.declared.record_rows.FoundRecord.{FoundRecord}
use Rattle.desk_catalogue.specs.Storable.{IsStorableProduct}
use Rattle.desk_catalogue.specs.WrittenRows.{articles_of, offers_of, prices_of, records_of, with_identified, with_products, with_supplies}
use Rattle.desk_catalogue.proofs.BecameLemmas.{record_written}
use Rattle.desk_catalogue.proofs.HoldingLemmas.{catalogue_became, catalogues_kept}
use Rattle.desk_catalogue.proofs.MinimumLemmas.{record_read_as}

-- ---- the rows of products

written_none : (s : List ℕ) (rows : DeskRows) → with_products s [] rows ≡ rows
written_none s rows = λ i. record rows {
  records = append-nil rows.records i;
  articles = append-nil rows.articles i;
  offers = append-nil rows.offers i;
  prices = append-nil rows.prices i;
  minimums = append-nil rows.minimums i;
}

-- table by table is as record by record
written_first : (s : List ℕ) (p : Product) (ps : List Product) (rows : DeskRows) → with_products s (p ∷ ps) rows ≡ with_products s ps (with_supplies s p.reference p.supplies (with_identified (record_row s p.reference) p.ids rows))
written_first s p ps rows =
    let prices = price_rows_of s p.reference p.supplies in
    let minimums = ap (λ l. rows.minimums ++ map minimum_row l) (filter-append has_minimum prices (prices_of s ps)) ∙ sym (mapped_behind minimum_row rows.minimums (filter has_minimum prices) (filter has_minimum (prices_of s ps))) in
    λ i. record rows {
      records = sym (append_assoc rows.records (record_row s p.reference ∷ []) (records_of s ps)) i;
      articles = sym (append_assoc rows.articles (article_rows s p.reference p.ids) (articles_of s ps)) i;
      offers = sym (mapped_behind offer_row rows.offers (offer_rows_of s p.reference p.supplies) (offers_of s ps)) i;
      prices = sym (mapped_behind price_row rows.prices prices (prices_of s ps)) i;
      minimums = minimums i;
    }

-- ---- new records

replace_is : (change : Change) → is_replace change ≡ true → change ≡ Replace
replace_is Replace is = refl
replace_is Update is = absurd (cc)
replace_is Delete is = absurd (cc)
replace_is Ignore is = absurd (cc)

-- another reference has what it had
others_had : (m : ByReference) (p : Product) (r : List ℕ) → bytes_eq p.reference r ≡ false → fin.get (after_product m p) r ≡ fin.get m r
others_had m p r other =
    let o = entry_after (change_of p.notification) p (fin.get m p.reference) in
    changed_there m (after_product m p) p.reference r o (changes_at-with_entry m p.reference o) (λ e. let yes : bytes_eq p.reference r ≡ true = (bytes_eq-Decides p.reference r).1 (sym e) in let no : true ≡ false = sym yes ∙ other in cc)

neither : (a b : Bool) → (a || b) ≡ false → (a ≡ false) × (b ≡ false)
neither true b e = absurd (cc)
neither false b e = (refl, e)

absent_is : {A : Type 0} (o : Option A) → is_some o ≡ false → o ≡ None
absent_is None is = refl
absent_is (Some x) is = absurd (cc)

both_are : (a b : Bool) → (a && not b) ≡ true → (a ≡ true) × (b ≡ false)
both_are true false e = (refl, refl)
both_are true true e = absurd (cc)
both_are false b e = absurd (cc)

-- the products leave what another reference has
pub others_stay : (m : ByReference) (ps : List Product) (r : List ℕ) → list_any (λ p. bytes_eq p.reference r) ps ≡ false → fin.get (after_all m ps) r ≡ fin.get m r
others_stay m [] r none = refl
others_stay m (p ∷ ps) r none =
    let apart = neither (bytes_eq p.reference r) (list_any (λ x. bytes_eq x.reference r) ps) none in
    others_stay (after_product m p) ps r apart.1 ∙ others_had m p r apart.0

-- it was found to be one
pub found_new : (s : List ℕ) (m : ByReference) (p : Product) (found : FoundRecord) → IsFoundOf s m p found → brings_new p (is_there found) ≡ true → IsNew m p
found_new s m p found is new =
    let parts = both_are (is_replaced p) (is_there found) new in
    record { replaces = parts.0; absent = absent_is (fin.get m p.reference) (is.there ∙ parts.1) }

-- what was found of it is so behind products of other references
pub found_behind : (with_minimums : Bool) (s : List ℕ) (m : ByReference) (ps : List Product) (p : Product) (row : RecordRow) (found : FoundRecord) (rows : DeskRows) → row ≡ record_row s p.reference → FindsAs with_minimums row p rows found → HoldsCatalogue s m rows
    → IsCatalogueReadAs with_minimums m → list_any (λ q. bytes_eq q.reference p.reference) ps ≡ false → IsFoundOf s (after_all m ps) p found
found_behind with_minimums s m ps p row found rows is finds held reads none =
    let own = subst (λ (x : RecordRow). Finds x p rows found) is (finds (record_read_as with_minimums s p.reference m row rows is held reads)) in
    subst (λ (o : Option Entry). IsFound (record_row s p.reference) p o found) (sym (others_stay m ps p.reference none)) (own (fin.get m p.reference) (held p.reference))

-- one more after them
pub new_behind : (m : ByReference) (ps : List Product) (p : Product) → AreNew m ps → IsNew (after_all m ps) p → AreNew m (ps ++ p ∷ [])
new_behind m [] p new one = (one, tt)
new_behind m (q ∷ ps) p new one = (new.0, new_behind (after_product m q) ps p new.1 one)

-- the rest of the products
rest_all : {A : Type 0} (P : A → Type 0) (x : A) (xs : List A) → All P (x ∷ xs) → All P xs
rest_all P x xs all = λ i d low. all (suc i) d (omega (arith, low))

first_of : {A : Type 0} (P : A → Type 0) (x : A) (xs : List A) → All P (x ∷ xs) → P x
first_of P x xs all = all 0 x (omega arith)

-- new records that are written are applied
pub run_applied : (s : List ℕ) (m : ByReference) (ps : List Product) (before : Effect) (rows : DeskRows) → HoldsCatalogue s m rows → AreNew m ps → All IsStorableProduct ps
    → AreApplied s m ps before rows (effect_from before m ps) (with_products s ps rows)
run_applied s m [] before rows held new all = record {
  catalogue = subst (HoldsCatalogue s m) (sym (written_none s rows)) held;
  counts = refl;
  others = ap (other_catalogues s) (written_none s rows);
}
run_applied s m (p ∷ ps) before rows held new all =
    let r = p.reference in
    let e : Entry = record { ids = p.ids; supplies = p.supplies } in
    let storable = first_of IsStorableProduct p ps all in
    let between = with_supplies s r p.supplies (with_identified (record_row s r) p.ids rows) in
    let became : Became s r (Some e) rows between = record_written s r p.ids p.supplies rows (subst (λ (o : Option Entry). HoldsEntry s r o rows) new.0.absent (held r)) storable.0 storable.1 in
    let is : after_product m p ≡ with_entry m r (Some e) = ap (λ c. with_entry m r (entry_after c p (fin.get m r))) (replace_is (change_of p.notification) new.0.replaces) in
    let then : HoldsCatalogue s (after_product m p) between = subst (λ n. HoldsCatalogue s n between) (sym is) (catalogue_became s m r (Some e) rows between held became) in
    let rest = run_applied s (after_product m p) ps (counted (change_of p.notification) (fin.get m r) before) between then new.1 (rest_all IsStorableProduct p ps all) in
    let same = written_first s p ps rows in
    record {
      catalogue = subst (HoldsCatalogue s (after_all (after_product m p) ps)) (sym same) rest.catalogue;
      counts = refl;
      others = ap (other_catalogues s) same ∙ rest.others ∙ catalogues_kept s r (Some e) rows between became;
    }

one_counted : (change : Change) (was : Option Entry) (n : Effect) → is_replace change ≡ true → counted change was n ≡ record n { replaced = n.replaced + 1 }
one_counted Replace was n is = refl
one_counted Update was n is = absurd (cc)
one_counted Delete was n is = absurd (cc)
one_counted Ignore was n is = absurd (cc)

-- and counted
pub run_counted : (m : ByReference) (ps : List Product) (before : Effect) → AreNew m ps → effect_from before m ps ≡ record before { replaced = before.replaced + length ps }
run_counted m [] before new = let same : before.replaced ≡ before.replaced + 0 = omega arith in λ i. record before { replaced = same i }
run_counted m (p ∷ ps) before new =
    let same : before.replaced + 1 + length ps ≡ before.replaced + suc (length ps) = omega arith in
    ap (λ n. effect_from n (after_product m p) ps) (one_counted (change_of p.notification) (fin.get m p.reference) before new.0.replaces)
    ∙ run_counted (after_product m p) ps (record before { replaced = before.replaced + 1 }) new.1
    ∙ (λ i. record before { replaced = same i })

-- ---- one product

pub one_applied : (s : List ℕ) (m : ByReference) (p : Product) (before effect : Effect) (rows after : DeskRows) → IsProductApplied s m p before rows effect after → AreApplied s m (p ∷ []) before rows effect after
one_applied s m p before effect rows after one = record { catalogue = one.catalogue; counts = one.counts; others = one.others }

-- ---- some of the products, and then more

pub none_applied : (s : List ℕ) (m : ByReference) (rows : DeskRows) → HoldsCatalogue s m rows → AreApplied s m [] no_effect rows no_effect rows
none_applied s m rows held = record { catalogue = held; counts = refl; others = refl }

after-append : (m : ByReference) (xs ys : List Product) → after_all m (xs ++ ys) ≡ after_all (after_all m xs) ys
after-append m [] ys = refl
after-append m (x ∷ xs) ys = after-append (after_product m x) xs ys

effect_from-append : (n : Effect) (m : ByReference) (xs ys : List Product) → effect_from n m (xs ++ ys) ≡ effect_from (effect_from n m xs) (after_all m xs) ys
effect_from-append n m [] ys = refl
effect_from-append n m (x ∷ xs) ys = effect_from-append (counted (change_of x.notification) (fin.get m x.reference) n) (after_product m x) xs ys

pub applied_then : (s : List ℕ) (m : ByReference) (xs ys : List Product) (before mid effect : Effect) (rows between after : DeskRows) → AreApplied s m xs before rows mid between → AreApplied s (after_all m xs) ys mid between effect after
    → AreApplied s m (xs ++ ys) before rows effect after
applied_then s m xs ys before mid effect rows between after one two = record {
  catalogue = subst (λ n. HoldsCatalogue s n after) (sym (after-append m xs ys)) two.catalogue;
  counts = two.counts ∙ ap (λ n. effect_from n (after_all m xs) ys) one.counts ∙ sym (effect_from-append before m xs ys);
  others = two.others ∙ one.others;
}
