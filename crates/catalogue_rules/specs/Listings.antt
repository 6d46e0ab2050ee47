-- Listings of an index of articles, and their order.
use Rattle.std.specs.Prelude.{◌≡◌, ◌&&◌, Bool}
use Rattle.std.specs.Cmp.{IsEquivalence, IsTotalOrder, and_equiv, both_tied, on_equiv, on_total, then_total}
use Rattle.std.specs.Cmp.Lexicographic.{slice_cmp, nat_list_cmp_total, nat_list_eq_equiv, texts_ties}
use Rattle.std.specs.Ordering.{nat_cmp, eq_by_cmp, ordering_then}
use Rattle.std.specs.Str.{bytes_eq}
use Rattle.std.specs.declared.cmp.Ordering.{Ordering}
use Rattle.catalogue_rules.specs.declared.listing.Listing.{Listing}

-- whether both are of one article and one reference
abbrev pub is_same_listing : Listing → Listing → Bool
is_same_listing x y = bytes_eq x.isbn y.isbn && bytes_eq x.reference y.reference

-- by article, and then by reference
abbrev pub listing_cmp : Listing → Listing → Ordering
listing_cmp x y = ordering_then (slice_cmp nat_cmp x.isbn y.isbn)
    (slice_cmp nat_cmp x.reference y.reference)

-- what an ordered set asks of these
pub listing_equiv : IsEquivalence is_same_listing
listing_equiv = and_equiv (on_equiv (λ (l : Listing). l.isbn) nat_list_eq_equiv)
    (on_equiv (λ (l : Listing). l.reference) nat_list_eq_equiv)

pub listing_total : IsTotalOrder listing_cmp
listing_total = then_total (on_total (λ (l : Listing). l.isbn) nat_list_cmp_total)
    (on_total (λ (l : Listing). l.reference) nat_list_cmp_total)

pub listing_ties : (x y : Listing) → is_same_listing x y ≡ eq_by_cmp listing_cmp x y
listing_ties x y = both_tied _ _ (slice_cmp nat_cmp x.isbn y.isbn)
    (slice_cmp nat_cmp x.reference y.reference) (texts_ties x.isbn y.isbn)
    (texts_ties x.reference y.reference)
