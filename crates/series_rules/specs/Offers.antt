-- The offers of an article, over all agreed series.
use Rattle.std.specs.Prelude.{ℕ, List, map}
use Rattle.std.specs.FinMap.{FinMap, entries, from_entries}
use Rattle.std.specs.List.{flat_map}
use Rattle.std.specs.Ordering.{nat_cmp}
use Rattle.std.specs.Cmp.Lexicographic.{slice_cmp}
use Rattle.catalogue_rules.specs.Offers.{offers_in}
use Rattle.onix_records.specs.declared.agreements.Agreement.{Agreement}
use Rattle.price_rules.specs.declared.offer.Offer.{Offer}
use Rattle.series_rules.specs.Agreements.{agreements_of}
use Rattle.series_rules.specs.Series.{catalogue_of}
use Rattle.series_rules.specs.declared.requests.Request.{Request}

-- agreements, each after its name
abbrev pub with_names : List Agreement → List (List ℕ × Agreement)
with_names agreements = map (λ a. (a.name, a)) agreements

-- agreements by the bytes of their names
abbrev pub by_name : List Agreement → FinMap (slice_cmp nat_cmp) Agreement
by_name agreements = from_entries (with_names agreements)

-- the article's offers in the catalogue of an agreed series
abbrev pub series_offers : List Request → List ℕ → List ℕ × Agreement → List Offer
series_offers L isbn named = offers_in named.0 (catalogue_of L named.1) isbn

-- the article's offers in all agreed series, in order of series name, reference and place
abbrev pub offers_after : List Request → List ℕ → List Offer
offers_after L isbn = flat_map (series_offers L isbn) (entries (by_name (agreements_of L)))
