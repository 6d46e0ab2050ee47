-- The offers of an article, in words.
use Rattle.std.specs.Prelude.{◌≡◌, ◌⊎◌, ◌<◌, ◌-◌, ◌↔◌, AllPairs, Any, Contains, ℕ, List, Some, codes, slice_get}
use Rattle.std.specs.Cmp.Lexicographic.{slice_cmp}
use Rattle.std.specs.FinMap.{get}
use Rattle.std.specs.Ordering.{nat_cmp}
use Rattle.std.specs.declared.cmp.Ordering.TheVariants.{Less}
use Rattle.catalogue_rules.specs.Offers.{entry_details}
use Rattle.catalogue_rules.specs.declared.entry.Entry.{Entry}
use Rattle.onix_records.specs.declared.agreements.Agreement.{Agreement}
use Rattle.onix_records.specs.declared.parts.ProductIdentifier.{ProductIdentifier}
use Rattle.onix_records.specs.declared.parts.SupplyDetail.{SupplyDetail}
use Rattle.price_rules.specs.declared.offer.Offer.{Offer}
use Rattle.series_rules.specs.Agreements.{agreements_of, named}
use Rattle.series_rules.specs.Offers.{offers_after}
use Rattle.series_rules.specs.Series.{catalogue_of}
use Rattle.series_rules.specs.declared.requests.Request.{Request}

-- the identifier is a GTIN-13 (type 03) or an ISBN-13 (type 15) with that value
abbrev pub IsArticle : List ℕ → ProductIdentifier → Type 0
IsArticle isbn id = ((id.id_type ≡ codes "03") ⊎ (id.id_type ≡ codes "15")) × (id.id_value ≡ isbn)

-- After L, an offer of the article is a SupplyDetail of a record that has the article, in the
-- catalogue of an agreed series
pub record IsOffer (L : List Request) (isbn : List ℕ) (o : Offer) : Type 0 where
  pub agreement : Agreement
  pub agreed : named (agreements_of L) o.series ≡ Some agreement
  pub entry : Entry
  pub kept : get (catalogue_of L agreement) o.reference ≡ Some entry
  pub has_article : Any (IsArticle isbn) entry.ids
  -- its place is counted from 1, over the supplies of the record in their order
  pub detail : SupplyDetail
  pub counted : 0 < o.place
  pub at_place : slice_get (entry_details entry.supplies) (o.place - 1) ≡ Some (o.market, detail)
  pub supplier : o.supplier ≡ detail.supplier
  pub availability : o.availability ≡ detail.availability
  pub prices : o.prices ≡ detail.prices

-- in order of their bytes
abbrev pub AreInOrder : List ℕ → List ℕ → Type 0
AreInOrder xs ys = slice_cmp nat_cmp xs ys ≡ Less

-- in order of series, then of reference, then of place
abbrev pub ComesBefore : Offer → Offer → Type 0
ComesBefore o p =
    AreInOrder o.series p.series
    ⊎ ((o.series ≡ p.series)
    × (AreInOrder o.reference p.reference
    ⊎ ((o.reference ≡ p.reference) × (o.place < p.place))))

-- the offers of an article are each SupplyDetail of each record that has it, and nothing else, each
-- before all that come later: so once
pub record OffersAreTrue : Type 0 where
  pub each : (L : List Request) (isbn : List ℕ) (o : Offer)
      → Contains (offers_after L isbn) o ↔ IsOffer L isbn o
  pub in_order : (L : List Request) (isbn : List ℕ) → AllPairs ComesBefore (offers_after L isbn)
