-- What an index of articles lists, step by step.
use Rattle.std.proofs.Common.{◌≡◌, ℕ, List, [], ◌∷◌, ◌++◌, Option, Some, None, Bool, true, false, cond, fold, ◌&&◌, ◌||◌, ◌⊎◌, inl, inr, ⊎_elim, refl, sym, ap, subst, ◌∙◌}
use Rattle.std.specs.BTreeSet.{BTreeSet}
use Rattle.std.specs.Cmp.Lexicographic.{slice_cmp}
use Rattle.std.specs.FinMap as map
use Rattle.std.specs.FinMap.{entries_sorted, get-empty, get-entries, nat_cmp-IsAntisymmetric, slice_cmp-IsAntisymmetric}
use Rattle.std.specs.List.{All, flat_map, list_any}
use Rattle.std.specs.List.Sorted.{IsStrictlySortedBy}
use Rattle.std.specs.Ordering.{nat_cmp, eq_by_cmp}
use Rattle.std.specs.Prelude.{filter}
use Rattle.std.specs.Str.{bytes_eq}
use Rattle.std.proofs.lemmas.Cmp.{nat_list_cmp_total}
use Rattle.std.proofs.lemmas.List.Elements.{All-head, All-tail}
use Rattle.std.proofs.lemmas.Slice.Eq.{bytes_eq-Decides}
use Rattle.onix_records.specs.Product.{is_article_type}
use Rattle.onix_records.specs.declared.parts.Product.{Product}
use Rattle.onix_records.specs.declared.parts.ProductIdentifier.{ProductIdentifier}
use Rattle.onix_records.specs.declared.parts.ProductSupply.{ProductSupply}
use Rattle.price_rules.specs.declared.offer.Offer.{Offer}
use Rattle.catalogue_rules.specs.ArticleIndex.{ListsAll, ListsArticles, ListsAsBefore, is_listed, is_of_article, offers_there}
use Rattle.catalogue_rules.specs.Effects.{after, after_product, change_of, entry_after, updated}
use Rattle.catalogue_rules.specs.Listings.{listing_cmp}
use Rattle.catalogue_rules.specs.Offers.{entry_offers, has_article, is_article, offers_in}
use Rattle.catalogue_rules.specs.Records.{ByReference, records_of}
use Rattle.catalogue_rules.specs.declared.change.Change.{Change}
use Rattle.catalogue_rules.specs.declared.change.Change.TheVariants.{Replace, Update, Delete, Ignore}
use Rattle.catalogue_rules.specs.declared.entry.Entry.{Entry}
use Rattle.catalogue_rules.specs.declared.listing.Listing.{Listing}
use Rattle.catalogue_rules.proofs.Listed.{walk_is_all}
use Rattle.catalogue_rules.proofs.Listings.{among, at_first, from_first, in_order, is_from, is_of}
use Rattle.catalogue_rules.proofs.Lookups.{same_key}
use Rattle.catalogue_rules.proofs.Plans.{changes_at-with_entry}

-- ---- the catalogue after a message

-- of no records all are listed
pub lists_nothing : (listings : BTreeSet Listing) → ListsAll listings map.empty
lists_nothing listings isbn reference h = let none = ap (is_of_article isbn) (get-empty (slice_cmp nat_cmp) reference) in absurd cc

pub lists_more : (was now : BTreeSet Listing) (m : ByReference) → ListsAsBefore was now → ListsAll was m → ListsAll now m
lists_more was now m as_before lists_all isbn reference h = as_before isbn reference (lists_all isbn reference h)

-- a record of the article after a product was one before, or the product is
of_article_after : (isbn : List ℕ) (change : Change) (p : Product) (was : Option Entry) → is_of_article isbn (entry_after change p was) ≡ true
    → (list_any (is_article isbn) p.ids ≡ true) ⊎ (is_of_article isbn was ≡ true)
of_article_after isbn Replace p was h = inl h
of_article_after isbn Update p None h = inr h
of_article_after isbn Update p (Some e) h = inr (same_ids p.supplies h)
  where
    same_ids : (supplies : List ProductSupply) → is_of_article isbn (Some (updated e supplies)) ≡ true → has_article isbn e ≡ true
    same_ids [] h = h
    same_ids (s ∷ more) h = h
of_article_after isbn Delete p was h = absurd cc
of_article_after isbn Ignore p was h = inr h

module _ (listings : BTreeSet Listing) (m : ByReference) (p : Product) (lists_all : ListsAll listings m) (listed : ListsArticles listings p.reference p.ids) where
  there : (isbn q : List ℕ) (b : Bool) → eq_by_cmp (slice_cmp nat_cmp) q p.reference ≡ b
      → is_of_article isbn (cond b (entry_after (change_of p.notification) p (map.get m p.reference)) (map.get m q)) ≡ true → is_listed listings isbn q ≡ true
  there isbn q true t h =
      subst (λ r. is_listed listings isbn r ≡ true) (sym (same_key q p.reference t))
      (⊎_elim (listed isbn) (lists_all isbn p.reference) (of_article_after isbn (change_of p.notification) p (map.get m p.reference) h))
  there isbn q false t h = lists_all isbn q h

  pub lists_product : ListsAll listings (after_product m p)
  lists_product isbn q h =
      there isbn q (eq_by_cmp (slice_cmp nat_cmp) q p.reference) refl
      (ap (is_of_article isbn) (sym (changes_at-with_entry m p.reference (entry_after (change_of p.notification) p (map.get m p.reference)) q)) ∙ h)

-- if each product of a message is listed, all records of the catalogue after it are
pub lists_message : (listings : BTreeSet Listing) (m : ByReference) (ps : List Product) → ListsAll listings m → All (λ p. ListsArticles listings p.reference p.ids) ps → ListsAll listings (after m ps)
lists_message listings m [] lists_all listed = lists_all
lists_message listings m (p ∷ ps) lists_all listed =
    lists_message listings (after_product m p) ps
    (lists_product listings m p lists_all (All-head (λ (q : Product). ListsArticles listings q.reference q.ids) p ps listed))
    (All-tail (λ (q : Product). ListsArticles listings q.reference q.ids) p ps listed)

-- ---- one more identifier

either_any : {X : Type 0} (test : X → Bool) (xs : List X) (x : X) → list_any test (xs ++ x ∷ []) ≡ true → (list_any test xs ≡ true) ⊎ (test x ≡ true)
either_any test [] x h = elim (test x) as (λ b. (b || false) ≡ true → (false ≡ true) ⊎ (b ≡ true)) [ true ↦ λ _. inr refl | false ↦ λ e. inl e ] h
either_any test (y ∷ xs) x h =
    elim (test y) as (λ b. (b || list_any test (xs ++ x ∷ [])) ≡ true → ((b || list_any test xs) ≡ true) ⊎ (test x ≡ true)) [ true ↦ λ _. inl refl | false ↦ λ e. either_any test xs x e ] h

of_type_and_value : (isbn : List ℕ) (id : ProductIdentifier) → is_article isbn id ≡ true → (is_article_type id.id_type ≡ true) × (id.id_value ≡ isbn)
of_type_and_value isbn id h =
    elim (is_article_type id.id_type) as (λ b. (b && bytes_eq id.id_value isbn) ≡ true → (b ≡ true) × (id.id_value ≡ isbn)) [
      | true ↦ λ e. (refl, (bytes_eq-Decides id.id_value isbn).0 e)
      | false ↦ λ e. absurd cc
    ] h

pub articles_more : (was now : BTreeSet Listing) (reference : List ℕ) (ids : List ProductIdentifier) (id : ProductIdentifier) → ListsAsBefore was now → ListsArticles was reference ids
    → (is_article_type id.id_type ≡ true → is_listed now id.id_value reference ≡ true) → ListsArticles now reference (ids ++ id ∷ [])
articles_more was now reference ids id as_before listed here isbn h =
    ⊎_elim
    (λ before. as_before isbn reference (listed isbn before))
    (λ last. let is = of_type_and_value isbn id last in subst (λ v. is_listed now v reference ≡ true) is.1 (here is.0))
    (either_any (is_article isbn) ids id h)

-- ---- the offers of what is listed

-- the offers of a listing
abbrev pub offers_at : List ℕ → List ℕ → ByReference → Listing → List Offer
offers_at series isbn m l = offers_there series isbn l.reference (map.get m l.reference)

module _ (series isbn : List ℕ) (listings : BTreeSet Listing) (m : ByReference) (lists_all : ListsAll listings m) where
  -- a record that is not listed has no offers of the article
  unlisted : (listed : Bool) (k : List ℕ) (e : Entry) → (is_of_article isbn (map.get m k) ≡ true → listed ≡ true) → map.get m k ≡ Some e → (offers_there series isbn k (Some e) ≡ []) ⊎ (listed ≡ true)
  unlisted listed k e h found =
      elim (has_article isbn e) as (λ b. has_article isbn e ≡ b → (offers_there series isbn k (Some e) ≡ []) ⊎ (listed ≡ true)) [
        | true ↦ λ t. inr (h (ap (is_of_article isbn) found ∙ t))
        | false ↦ λ t. inl (ap (λ b. cond b (entry_offers series k e) []) t)
      ] refl

  -- the listings of the article have all its offers
  pub offers_listed : IsStrictlySortedBy listing_cmp listings.keys → flat_map (offers_at series isbn m) (at_first isbn (filter (is_from isbn) listings.keys)) ≡ offers_in series m isbn
  offers_listed sorted =
      ap (flat_map (offers_at series isbn m)) (from_first isbn listings.keys sorted)
      ∙ ap (λ (found : List ℕ → Option Entry). flat_map (λ (l : Listing). offers_there series isbn l.reference (found l.reference)) (filter (is_of isbn) listings.keys)) (λ i k. get-entries m k i)
      ∙ walk_is_all nat_list_cmp_total (slice_cmp-IsAntisymmetric nat_cmp-IsAntisymmetric) (λ l. l.reference) (offers_there series isbn) (λ k. refl) (records_of m) (filter (is_of isbn) listings.keys) (entries_sorted m) (in_order isbn listings.keys sorted)
      (λ k e found. unlisted _ k e (λ h. among isbn listings k (lists_all isbn k h)) (get-entries m k ∙ found))

  -- where the listings of the article, from the first that may be one on, were gone through, what was collected is all its offers
  pub listed_collected : {S : Type 0} (collected : S → Offer → S) (was now : S) (first left : List Listing) → IsStrictlySortedBy listing_cmp listings.keys → first ≡ filter (is_from isbn) listings.keys
      → fold collected now (flat_map (offers_at series isbn m) (at_first isbn left)) ≡ fold collected was (flat_map (offers_at series isbn m) (at_first isbn first)) → at_first isbn left ≡ []
      → now ≡ fold collected was (offers_in series m isbn)
  listed_collected collected was now first left sorted begins so_far ended =
      ap (λ ls. fold collected now (flat_map (offers_at series isbn m) ls)) (sym ended)
      ∙ so_far
      ∙ ap (λ ls. fold collected was (flat_map (offers_at series isbn m) (at_first isbn ls))) begins
      ∙ ap (fold collected was) (offers_listed sorted)
