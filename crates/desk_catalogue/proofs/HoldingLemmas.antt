-- What is held of a record and of a catalogue after a change of one record.
use Rattle.std.proofs.Common.{◌≡◌, ◌≢◌, ℕ, Bool, true, not, ◌&&◌, List, [], ◌∷◌, length, map, filter, Option, Some, None, IsPermutation, inl, inr, ⊎_elim, refl, sym, ap, subst, ◌∙◌, arith}
use Rattle.std.specs.FinMap as fin
use Rattle.std.specs.List.{list_any}
use Rattle.std.specs.Option.{is_some}
use Rattle.std.specs.Str.{bytes_eq}
use Rattle.std.proofs.lemmas.Bool.{cases_Bool}
use Rattle.std.proofs.lemmas.List.Sorted.{length_permutation}
use Rattle.sqlite_trees.proofs.ListLemmas.{filter-filter}
use Rattle.onix_records.specs.declared.parts.ProductIdentifier.{ProductIdentifier}
use Rattle.onix_records.specs.declared.parts.ProductSupply.{ProductSupply}
use Rattle.catalogue_rules.specs.Effects.{with_entry}
use Rattle.catalogue_rules.specs.Records.{ByReference}
use Rattle.catalogue_rules.specs.declared.entry.Entry.{Entry}
use Rattle.catalogue_rules.proofs.Lookups.{changed_here, changed_there, same_or_not}
use Rattle.catalogue_rules.proofs.Plans.{changes_at-with_entry}
use Rattle.desk_tables.specs.RecordAnswers.{is_record_in, is_article_in, is_offer_in, is_price_in, is_minimum_in}
use Rattle.desk_tables.specs.RecordChanges.{is_record, is_article_of, is_offer_of, is_price_of, is_minimum_of, has_record}
use Rattle.desk_tables.specs.RecordRows.{offer_row, price_row, minimum_row}
use Rattle.desk_tables.specs.Rows.{DeskRows}
use Rattle.desk_tables.specs.declared.prices.PriceRow as typed_price
use Rattle.desk_tables.specs.declared.records.RecordRow.{RecordRow}
use Rattle.desk_catalogue.specs.EntryRows.{article_rows, has_minimum}
use Rattle.desk_catalogue.specs.Holding.{Became, HoldsCatalogue, HoldsEntry, other_catalogues}
use Rattle.desk_catalogue.specs.Storable.{AreStorable}
use Rattle.desk_catalogue.specs.ReadRows.{HasSupplyRows}
use Rattle.desk_catalogue.proofs.OwnRows.{none_left, any_none, spared, apart_keys}

-- ---- whether the record is there

any_one : {A : Type 0} (t : A → Bool) (xs : List A) → length (filter t xs) ≡ 1 → list_any t xs ≡ true
any_one t [] e = absurd (omega (arith, e))
any_one t (x ∷ xs) e = elim (cases_Bool (t x)) [
  | inl here ↦ rw here refl
  | inr misses ↦ rw misses (any_one t xs (rw misses at e))
]

pub known_is : (s r : List ℕ) (o : Option Entry) (rows : DeskRows) → HoldsEntry s r o rows → has_record s r rows ≡ is_some o
known_is s r None rows h = any_none (is_record s r) rows.records (none_left _ h.records)
known_is s r (Some e) rows h = any_one (is_record s r) rows.records (sym (length_permutation _ _ h.records))

-- ---- the record stays as it is

pub became_itself : (s r : List ℕ) (o : Option Entry) (rows : DeskRows) → HoldsEntry s r o rows → Became s r o rows rows
became_itself s r o rows h = record { entry_held = h; others = refl }

pub became_then : (s r : List ℕ) (o w : Option Entry) (rows between after : DeskRows) → Became s r o rows between → Became s r w between after → Became s r w rows after
became_then s r o w rows between after one two = record { entry_held = two.entry_held; others = two.others ∙ one.others }

-- the rows of the supplies are those of others, which have the same rows
pub supplies_stay : (row : RecordRow) (e : Entry) (supplies : List ProductSupply) (rows : DeskRows) → HoldsEntry row.series row.reference (Some e) rows → AreStorable supplies → HasSupplyRows row supplies e.supplies
    → HoldsEntry row.series row.reference (Some (record e { supplies = supplies })) rows
supplies_stay row e supplies rows h storable same = record {
  storable = (h.storable.0, storable);
  records = h.records;
  articles = h.articles;
  offers = subst (λ l. IsPermutation (filter (is_offer_of row.series row.reference) rows.offers) (map offer_row l)) same.offers h.offers;
  prices = subst (λ l. IsPermutation (filter (is_price_of row.series row.reference) rows.prices) (map price_row l)) same.prices h.prices;
  minimums = subst (λ (l : List typed_price.PriceRow). IsPermutation (filter (is_minimum_of row.series row.reference) rows.minimums) (map minimum_row (filter has_minimum l))) same.prices h.minimums;
}

pub record_stays : (row : RecordRow) (e : Entry) (ids : List ProductIdentifier) (supplies : List ProductSupply) (rows : DeskRows) → HoldsEntry row.series row.reference (Some e) rows → ids ≢ [] → AreStorable supplies
    → article_rows row.series row.reference e.ids ≡ article_rows row.series row.reference ids → HasSupplyRows row supplies e.supplies → HoldsEntry row.series row.reference (Some (record { ids = ids; supplies = supplies })) rows
record_stays row e ids supplies rows h some storable same_ids same =
    let other = supplies_stay row e supplies rows h storable same in
    record {
      storable = (some, storable);
      records = h.records;
      articles = subst (λ l. IsPermutation (filter (is_article_of row.series row.reference) rows.articles) l) same_ids h.articles;
      offers = other.offers;
      prices = other.prices;
      minimums = other.minimums;
    }

-- ---- every other record

from_same : {A : Type 0} (xs ys zs : List A) → ys ≡ xs → IsPermutation xs zs → IsPermutation ys zs
from_same xs ys zs same p = subst (λ l. IsPermutation l zs) (sym same) p

pub entry_kept : (s r s′ r′ : List ℕ) (o w : Option Entry) (rows after : DeskRows) → ((s′ ≡ s) × (r′ ≡ r) → ⊥) → Became s r o rows after → HoldsEntry s′ r′ w rows → HoldsEntry s′ r′ w after
entry_kept s r s′ r′ o w rows after apart became h = record {
  storable = h.storable;
  records = from_same _ _ _ (spared (is_record s r) (is_record s′ r′) (λ x e. apart_keys s r s′ r′ x.series x.reference apart e) rows.records after.records (ap (λ (d : DeskRows). d.records) became.others)) h.records;
  articles = from_same _ _ _ (spared (is_article_of s r) (is_article_of s′ r′) (λ x e. apart_keys s r s′ r′ x.series x.reference apart e) rows.articles after.articles (ap (λ (d : DeskRows). d.articles) became.others)) h.articles;
  offers = from_same _ _ _ (spared (is_offer_of s r) (is_offer_of s′ r′) (λ x e. apart_keys s r s′ r′ x.series x.reference apart e) rows.offers after.offers (ap (λ (d : DeskRows). d.offers) became.others)) h.offers;
  prices = from_same _ _ _ (spared (is_price_of s r) (is_price_of s′ r′) (λ x e. apart_keys s r s′ r′ x.series x.reference apart e) rows.prices after.prices (ap (λ (d : DeskRows). d.prices) became.others)) h.prices;
  minimums = from_same _ _ _ (spared (is_minimum_of s r) (is_minimum_of s′ r′) (λ x e. apart_keys s r s′ r′ x.series x.reference apart e) rows.minimums after.minimums (ap (λ (d : DeskRows). d.minimums) became.others)) h.minimums;
}

-- ---- the catalogue

pub catalogue_became : (s : List ℕ) (m : ByReference) (r : List ℕ) (o : Option Entry) (rows after : DeskRows) → HoldsCatalogue s m rows → Became s r o rows after → HoldsCatalogue s (with_entry m r o) after
catalogue_became s m r o rows after held became = λ q.
    let now = with_entry m r o in
    let changes = changes_at-with_entry m r o in
    ⊎_elim
    (λ e. subst (λ k. HoldsEntry s k (fin.get now k) after) e (subst (λ w. HoldsEntry s r w after) (sym (changed_here m now r o changes)) became.entry_held))
    (λ f. subst (λ w. HoldsEntry s q w after) (sym (changed_there m now r q o changes (λ e. f (sym e)))) (entry_kept s r s q o (fin.get m q) rows after (λ e. f (sym e.1)) became (held q)))
    (same_or_not r q)

outside : (a b s r : List ℕ) → not (bytes_eq a s) ≡ true → not (bytes_eq a s && bytes_eq b r) ≡ true
outside a b s r e = elim (cases_Bool (bytes_eq a s)) [
  | inl here ↦ absurd (let f = rw here at e in cc)
  | inr misses ↦ rw misses refl
]

module _ {A : Type 0} (of within : A → Bool) (out : (x : A) → not (within x) ≡ true → not (of x) ≡ true) where
  outer : (xs ys : List A) → filter (λ x. not (of x)) ys ≡ filter (λ x. not (of x)) xs → filter (λ x. not (within x)) ys ≡ filter (λ x. not (within x)) xs
  outer xs ys same = sym (filter-filter (λ x. not (within x)) (λ x. not (of x)) out ys) ∙ ap (filter (λ x. not (within x))) same ∙ filter-filter (λ x. not (within x)) (λ x. not (of x)) out xs

pub catalogues_kept : (s r : List ℕ) (o : Option Entry) (rows after : DeskRows) → Became s r o rows after → other_catalogues s after ≡ other_catalogues s rows
catalogues_kept s r o rows after became =
    let records = outer (is_record s r) (is_record_in s) (λ x e. outside x.series x.reference s r e) rows.records after.records (ap (λ (d : DeskRows). d.records) became.others) in
    let articles = outer (is_article_of s r) (is_article_in s) (λ x e. outside x.series x.reference s r e) rows.articles after.articles (ap (λ (d : DeskRows). d.articles) became.others) in
    let offers = outer (is_offer_of s r) (is_offer_in s) (λ x e. outside x.series x.reference s r e) rows.offers after.offers (ap (λ (d : DeskRows). d.offers) became.others) in
    let prices = outer (is_price_of s r) (is_price_in s) (λ x e. outside x.series x.reference s r e) rows.prices after.prices (ap (λ (d : DeskRows). d.prices) became.others) in
    let minimums = outer (is_minimum_of s r) (is_minimum_in s) (λ x e. outside x.series x.reference s r e) rows.minimums after.minimums (ap (λ (d : DeskRows). d.minimums) became.others) in
    λ i. record {
      meta = (became.others i).meta;
      series = (became.others i).series;
      held = (became.others i).held;
      applied = (became.others i).applied;
      records = records i;
      articles = articles i;
      offers = offers i;
      prices = prices i;
      minimums = minimums i;
    }
