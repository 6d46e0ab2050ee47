-- An index of the records of a catalogue by their articles.
use Rattle.std.specs.Prelude.{◌≡◌, ℕ, Bool, true, false, List, [], Option, Some, None}
use Rattle.std.specs.BTreeSet.{BTreeSet, contains}
use Rattle.std.specs.FinMap as map
use Rattle.std.specs.List.{list_any}
use Rattle.onix_records.specs.declared.parts.ProductIdentifier.{ProductIdentifier}
use Rattle.price_rules.specs.declared.offer.Offer.{Offer}
use Rattle.catalogue_rules.specs.Listings.{listing_cmp}
use Rattle.catalogue_rules.specs.Offers.{has_article, is_article, record_offers}
use Rattle.catalogue_rules.specs.Records.{ByReference}
use Rattle.catalogue_rules.specs.declared.article_index.ArticleIndex.{ArticleIndex}
use Rattle.catalogue_rules.specs.declared.entry.Entry.{Entry}
use Rattle.catalogue_rules.specs.declared.listing.Listing.{Listing}

-- whether a reference is listed at an article
abbrev pub is_listed : BTreeSet Listing → List ℕ → List ℕ → Bool
is_listed listings isbn reference = contains listing_cmp listings
    (record { isbn = isbn; reference = reference })

-- whether a record, if there is one, is of the article
abbrev pub is_of_article : List ℕ → Option Entry → Bool
is_of_article isbn None = false
is_of_article isbn (Some e) = has_article isbn e

-- each record of the catalogue is listed at each article that it has. What is listed beyond that
-- does no harm, since each listed record is looked at
abbrev pub ListsAll : BTreeSet Listing → ByReference → Type 0
ListsAll listings m = (isbn reference : List ℕ) → is_of_article isbn (map.get m reference) ≡ true
    → is_listed listings isbn reference ≡ true

-- an index of that catalogue: it lists each record at the value of each of its identifiers of type
-- 03 or 15, and maybe more
abbrev pub IsIndexOf : ArticleIndex → ByReference → Type 0
IsIndexOf index m = ListsAll index.listings m

-- what was listed still is
abbrev pub ListsAsBefore : BTreeSet Listing → BTreeSet Listing → Type 0
ListsAsBefore was now = (isbn reference : List ℕ) → is_listed was isbn reference ≡ true
    → is_listed now isbn reference ≡ true

-- a reference is listed at the value of each of these identifiers that is of type 03 or 15
abbrev pub ListsArticles : BTreeSet Listing → List ℕ → List ProductIdentifier → Type 0
ListsArticles listings reference ids = (isbn : List ℕ) → list_any (is_article isbn) ids ≡ true
    → is_listed listings isbn reference ≡ true

-- the offers that a record, if there is one, has of the article
abbrev pub offers_there : List ℕ → List ℕ → List ℕ → Option Entry → List Offer
offers_there series isbn reference None = []
offers_there series isbn reference (Some e) = record_offers series isbn (reference, e)
