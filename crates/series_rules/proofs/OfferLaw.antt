-- The proof that the offers of an article are what they are in words.
use Rattle.std.proofs.Common.{◌≡◌, ◌<◌, ℕ, Bool, true, false, List, [], ◌∷◌, Some, inl, inr, refl, sym, ap, ◌∙◌, subst, arith, cond}
use Rattle.std.specs.Prelude.{T, ◌&&◌, ◌||◌, Any, bytes_eq, codes}
use Rattle.std.specs.Bool.{Decides}
use Rattle.std.specs.Cmp.{tied_itself}
use Rattle.std.specs.Cmp.Lexicographic.{slice_cmp}
use Rattle.std.specs.FinMap as fin
use Rattle.std.specs.FinMap.{FinMap, entries, entries_sorted, find, get-entries, is_sorted}
use Rattle.std.specs.FinMap.Entries.{below_all}
use Rattle.std.specs.List.{enumerate_from}
use Rattle.std.specs.Ordering.{eq_by_cmp, is_eq, is_lt, nat_cmp, ordering_reverse}
use Rattle.std.specs.declared.cmp.Ordering.{Ordering}
use Rattle.std.specs.declared.cmp.Ordering.TheVariants.{Less, Equal, Greater}
use Rattle.std.proofs.lemmas.Bool.Decides.{Decides-and, Decides-or}
use Rattle.std.proofs.lemmas.Cmp.{nat_list_cmp_total}
use Rattle.std.proofs.lemmas.List.Folds.{Any-from_list_any, list_any-from_Any}
use Rattle.std.proofs.lemmas.Slice.Eq.{bytes_eq-Decides}
use Rattle.catalogue_rules.specs.Offers.{entry_details, entry_offers, has_article, is_article, offer_of, record_offers}
use Rattle.catalogue_rules.specs.declared.entry.Entry.{Entry}
use Rattle.onix_records.specs.declared.agreements.Agreement.{Agreement}
use Rattle.onix_records.specs.declared.parts.ProductIdentifier.{ProductIdentifier}
use Rattle.onix_records.specs.declared.parts.SupplyDetail.{SupplyDetail}
use Rattle.onix_terms.specs.declared.territory.Territory.{Territory}
use Rattle.price_rules.specs.declared.offer.Offer.{Offer}
use Rattle.series_rules.specs.Agreements.{agreements_of, named}
use Rattle.series_rules.specs.OfferLaws.{AreInOrder, ComesBefore, IsArticle, IsOffer, OffersAreTrue}
use Rattle.series_rules.proofs.OfferLemmas.{get-by_name, same_test}
use Rattle.series_rules.specs.Offers.{by_name, offers_after, series_offers}
use Rattle.series_rules.specs.Series.{catalogue_of}
use Rattle.series_rules.specs.declared.requests.Request.{Request}
use Rattle.series_rules.proofs.Elements.{In, Ordered, contains_in, enumerate_in, flat_map_in, in_contained, in_enumerate, in_flat_map, in_map, map_in, ordered_enumerate, ordered_flat_map, ordered_map, pairs_ordered}

-- ---- the entries of a map from bytes

first : (a b : Bool) → T (a && b) → T a
first true b p = tt
first false b p = absurd p

second : (a b : Bool) → T (a && b) → T b
second true b p = p
second false b p = absurd p

less : (r : Ordering) → T (is_lt r) → r ≡ Less
less Less p = refl
less Equal p = absurd p
less Greater p = absurd p

some_same : {X : Type 0} (a b : X) → Some a ≡ Some b → a ≡ b
some_same a b e = cc

module _ {X : Type 0} where
  below_in : (k : List ℕ) (es : List (List ℕ × X)) → T (below_all (slice_cmp nat_cmp) k es) → (e : List ℕ × X) → In e es → AreInOrder k e.0
  below_in k [] h e m = absurd m
  below_in k (d ∷ es) h e (inl is) = subst (λ (x : List ℕ × X). AreInOrder k x.0) is (less _ (first _ _ h))
  below_in k (d ∷ es) h e (inr m) = below_in k es (second _ _ h) e m

  ordered_entries : (es : List (List ℕ × X)) → T (is_sorted (slice_cmp nat_cmp) es) → Ordered (λ (d e : List ℕ × X). AreInOrder d.0 e.0) es
  ordered_entries [] h = tt
  ordered_entries (d ∷ es) h = (below_in d.0 es (first _ _ h), ordered_entries es (second _ _ h))

  found_in : (es : List (List ℕ × X)) (k : List ℕ) (x : X) → find (slice_cmp nat_cmp) k es ≡ Some x → In (k, x) es
  found_in [] k x is = absurd cc
  found_in (e ∷ es) k x is = by (found_in es k x) (eq_by_cmp (slice_cmp nat_cmp) k e.0) refl is
    where
      by : (find (slice_cmp nat_cmp) k es ≡ Some x → In (k, x) es) → (b : Bool) → eq_by_cmp (slice_cmp nat_cmp) k e.0 ≡ b → cond b (Some e.1) (find (slice_cmp nat_cmp) k es) ≡ Some x → In (k, x) (e ∷ es)
      by rest true tied here =
          let key = (bytes_eq-Decides e.0 k).0 (sym (same_test e.0 k) ∙ tied) in
          let value = some_same e.1 x here in
          inl (λ i. (key i, value i))
      by rest false apart further = inr (rest further)

  in_found : (es : List (List ℕ × X)) → T (is_sorted (slice_cmp nat_cmp) es) → (k : List ℕ) (x : X) → In (k, x) es → find (slice_cmp nat_cmp) k es ≡ Some x
  in_found [] h k x m = absurd m
  in_found (e ∷ es) h k x (inl is) =
      let Finds : List ℕ × X → Type 0 = λ d. find (slice_cmp nat_cmp) d.0 (e ∷ es) ≡ Some d.1 in
      subst Finds is (ap (λ r. cond (is_eq r) (Some e.1) (find (slice_cmp nat_cmp) e.0 es)) (tied_itself nat_list_cmp_total e.0))
  in_found (e ∷ es) h k x (inr m) =
      let apart : eq_by_cmp (slice_cmp nat_cmp) k e.0 ≡ false = ap is_eq (nat_list_cmp_total.antisymm k e.0 ∙ ap ordering_reverse (below_in e.0 es (first _ _ h) (k, x) m)) in
      ap (λ b. cond b (Some e.1) (find (slice_cmp nat_cmp) k es)) apart ∙ in_found es (second _ _ h) k x m

  get_in : (m : FinMap (slice_cmp nat_cmp) X) (k : List ℕ) (x : X) → In (k, x) (entries m) → fin.get m k ≡ Some x
  get_in m k x there = get-entries m k ∙ in_found (entries m) (entries_sorted m) k x there

  in_get : (m : FinMap (slice_cmp nat_cmp) X) (k : List ℕ) (x : X) → fin.get m k ≡ Some x → In (k, x) (entries m)
  in_get m k x is = found_in (entries m) k x (sym (get-entries m k) ∙ is)

-- ---- the identifiers of a record

article_decides : (isbn : List ℕ) (id : ProductIdentifier) → Decides (is_article isbn id) (IsArticle isbn id)
article_decides isbn id =
    Decides-and (bytes_eq id.id_type (codes "03") || bytes_eq id.id_type (codes "15")) (bytes_eq id.id_value isbn)
    (Decides-or (bytes_eq id.id_type (codes "03")) (bytes_eq id.id_type (codes "15")) (bytes_eq-Decides id.id_type (codes "03")) (bytes_eq-Decides id.id_type (codes "15")))
    (bytes_eq-Decides id.id_value isbn)

any_as : {X : Type 0} (P Q : X → Type 0) (xs : List X) → ((x : X) → P x → Q x) → Any P xs → Any Q xs
any_as P Q xs f any = (any.0, any.1, any.2, any.3, f any.1 any.4)

has_words : (isbn : List ℕ) (e : Entry) → has_article isbn e ≡ true → Any (IsArticle isbn) e.ids
has_words isbn e has = any_as _ _ e.ids (λ id is. (article_decides isbn id).0 is) (Any-from_list_any (is_article isbn) e.ids has)

words_have : (isbn : List ℕ) (e : Entry) → Any (IsArticle isbn) e.ids → has_article isbn e ≡ true
words_have isbn e any = list_any-from_Any (is_article isbn) e.ids (any_as _ _ e.ids (λ id is. (article_decides isbn id).1 is) any)

-- ---- the offers of a record

abbrev Numbered : Type 0
Numbered = ℕ × (Territory × SupplyDetail)

module _ (L : List Request) (isbn series : List ℕ) (a : Agreement) (agreed : named (agreements_of L) series ≡ Some a) (r : List ℕ × Entry) (kept : fin.get (catalogue_of L a) r.0 ≡ Some r.1) where
  record_is : (has : has_article isbn r.1 ≡ true) (o : Offer) → In o (entry_offers series r.0 r.1) → IsOffer L isbn o
  record_is has o m =
      let there = in_map (offer_of series r.0) (enumerate_from 1 (entry_details r.1.supplies)) o m in
      let p : Numbered = there.0 in
      let numbered = in_enumerate 1 (entry_details r.1.supplies) p there.1 in
      subst (IsOffer L isbn) there.2 (record {
        agreement = a;
        agreed = agreed;
        entry = r.1;
        kept = kept;
        has_article = has_words isbn r.1 has;
        detail = p.1.1;
        counted = omega (arith, numbered.0);
        at_place = numbered.1;
        supplier = refl;
        availability = refl;
        prices = refl;
      })

  pub record_offer : (o : Offer) → In o (record_offers series isbn r) → IsOffer L isbn o
  record_offer o = by (has_article isbn r.1) refl
    where
      by : (b : Bool) → has_article isbn r.1 ≡ b → In o (cond b (entry_offers series r.0 r.1) []) → IsOffer L isbn o
      by true has m = record_is has o m
      by false lacks m = absurd m

-- each offer is one in words
offer_is : (L : List Request) (isbn : List ℕ) (o : Offer) → In o (offers_after L isbn) → IsOffer L isbn o
offer_is L isbn o m =
    let agreements = by_name (agreements_of L) in
    let one = in_flat_map (series_offers L isbn) (entries agreements) o m in
    let s = one.0 in
    let two = in_flat_map (record_offers s.0 isbn) (entries (catalogue_of L s.1)) o one.2 in
    let r = two.0 in
    record_offer L isbn s.0 s.1 (sym (get-by_name (agreements_of L) s.0) ∙ get_in agreements s.0 s.1 one.1) r (get_in (catalogue_of L s.1) r.0 r.1 two.1) o two.2

-- and what is one in words is among them
is_offer : (L : List Request) (isbn : List ℕ) (o : Offer) → IsOffer L isbn o → In o (offers_after L isbn)
is_offer L isbn o is =
    let agreements = by_name (agreements_of L) in
    let p : Numbered = (o.place, (o.market, is.detail)) in
    let same : offer_of o.series o.reference p ≡ o = λ i. record {
      series = o.series;
      reference = o.reference;
      place = o.place;
      supplier = sym is.supplier i;
      availability = sym is.availability i;
      market = o.market;
      prices = sym is.prices i;
    } in
    let numbered = enumerate_in 1 (entry_details is.entry.supplies) o.place (o.market, is.detail) (omega (arith, is.counted)) is.at_place in
    let made : In o (entry_offers o.series o.reference is.entry) =
    subst (λ x. In x (entry_offers o.series o.reference is.entry)) same (map_in (offer_of o.series o.reference) (enumerate_from 1 (entry_details is.entry.supplies)) p numbered) in
    let listed : In o (record_offers o.series isbn (o.reference, is.entry)) =
    subst (λ b. In o (cond b (entry_offers o.series o.reference is.entry) [])) (sym (words_have isbn is.entry is.has_article)) made in
    flat_map_in (series_offers L isbn) (entries agreements) (o.series, is.agreement) o
    (in_get agreements o.series is.agreement (get-by_name (agreements_of L) o.series ∙ is.agreed))
    (flat_map_in (record_offers o.series isbn) (entries (catalogue_of L is.agreement)) (o.reference, is.entry) o (in_get (catalogue_of L is.agreement) o.reference is.entry is.kept) listed)

-- ---- their order

from_record : (series isbn : List ℕ) (r : List ℕ × Entry) (o : Offer) → In o (record_offers series isbn r) → (o.series ≡ series) × (o.reference ≡ r.0)
from_record series isbn r o = by (has_article isbn r.1)
  where
    by : (b : Bool) → In o (cond b (entry_offers series r.0 r.1) []) → (o.series ≡ series) × (o.reference ≡ r.0)
    by true m =
        let there = in_map (offer_of series r.0) (enumerate_from 1 (entry_details r.1.supplies)) o m in
        (ap (λ (x : Offer). x.series) (sym there.2), ap (λ (x : Offer). x.reference) (sym there.2))
    by false m = absurd m

from_series : (L : List Request) (isbn : List ℕ) (s : List ℕ × Agreement) (o : Offer) → In o (series_offers L isbn s) → o.series ≡ s.0
from_series L isbn s o m =
    let there = in_flat_map (record_offers s.0 isbn) (entries (catalogue_of L s.1)) o m in
    (from_record s.0 isbn there.0 o there.2).0

ordered_record : (series isbn : List ℕ) (r : List ℕ × Entry) → Ordered ComesBefore (record_offers series isbn r)
ordered_record series isbn r = by (has_article isbn r.1)
  where
    by : (b : Bool) → Ordered ComesBefore (cond b (entry_offers series r.0 r.1) [])
    by true =
        ordered_map (offer_of series r.0) (λ (p q : Numbered). p.0 < q.0) ComesBefore (enumerate_from 1 (entry_details r.1.supplies)) (ordered_enumerate 1 (entry_details r.1.supplies))
        (λ p q lt. inr (refl, inr (refl, lt)))
    by false = tt

ordered_series : (L : List Request) (isbn : List ℕ) (s : List ℕ × Agreement) → Ordered ComesBefore (series_offers L isbn s)
ordered_series L isbn s =
    let m = catalogue_of L s.1 in
    ordered_flat_map (record_offers s.0 isbn) (λ (q r : List ℕ × Entry). AreInOrder q.0 r.0) ComesBefore (entries m) (ordered_entries (entries m) (entries_sorted m)) (ordered_record s.0 isbn)
    (λ q r lt o p here there.
    let one = from_record s.0 isbn q o here in
    let two = from_record s.0 isbn r p there in
    inr (one.0 ∙ sym two.0, inl (rw (one.1, two.1) lt)))

ordered_offers : (L : List Request) (isbn : List ℕ) → Ordered ComesBefore (offers_after L isbn)
ordered_offers L isbn =
    let m = by_name (agreements_of L) in
    ordered_flat_map (series_offers L isbn) (λ (s t : List ℕ × Agreement). AreInOrder s.0 t.0) ComesBefore (entries m) (ordered_entries (entries m) (entries_sorted m)) (ordered_series L isbn)
    (λ s t lt o p here there. inl (rw (from_series L isbn s o here, from_series L isbn t p there) lt))

pub offers_are_true : OffersAreTrue
offers_are_true = record {
  each = λ L isbn o. (λ has. offer_is L isbn o (in_contained (offers_after L isbn) o has), λ is. contains_in (offers_after L isbn) o (is_offer L isbn o is));
  in_order = λ L isbn. pairs_ordered ComesBefore (offers_after L isbn) (ordered_offers L isbn);
}
