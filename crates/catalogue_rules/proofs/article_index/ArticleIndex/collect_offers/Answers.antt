use Rattle.std.proofs.Common.{◌≡◌, ◌∷◌, [], ◌&&◌, ℕ, List, true, cond, ap, fold, sym, ◌∙◌}
use Rattle.std.specs.FinMap as map
use Rattle.std.specs.List.{flat_map}
use Rattle.std.specs.Ordering.{is_le}
use Rattle.std.specs.Prelude.{filter}
use Rattle.std.specs.Str.{bytes_eq}
use Rattle.catalogue_rules.specs.ArticleIndex.{offers_there}
use Rattle.catalogue_rules.specs.Listings.{listing_cmp}
use Rattle.catalogue_rules.specs.declared.listing.Listing.{Listing}
use Rattle.catalogue_rules.proofs.ArticleIndexes.{listed_collected, offers_at}
use Rattle.catalogue_rules.proofs.Listings.{at_first, is_from}
use Rattle.catalogue_rules.proofs.Places.{walk-more}
use Rattle.catalogue_rules.proofs.article_index.ArticleIndex.collect_offers.Goals as goal

pub loop-listing-preserved : goal.loop-listing-preserved
loop-listing-preserved g c =
    let series = c.args.series.now in
    let isbn = c.args.isbn.now in
    let catalogue = c.args.catalogue.now in
    let f = offers_at series isbn catalogue in
    let l = c.in-Some.listing.now in
    let rest = c.next.new.self in
    let collected = g.C.OfferCollector.collected in
    let collector = c.loop-listing.collector in
    let here : bytes_eq isbn l.isbn ≡ true = sym (c.if-not-is_at.ensures ∙ ap (λ (d : List ℕ). bytes_eq d l.isbn) c.as_str-digits.ensures.text) in
    let begins : at_first isbn c.loop-listing.listing-iterator ≡ l ∷ at_first isbn rest =
    ap (at_first isbn) c.in-Some.ensures.steps ∙ ap (λ b. cond b (l ∷ at_first isbn rest) []) here
    in
    ap (λ o. fold collected o (flat_map f (at_first isbn rest)))
    (c.in_ok-collect_listed.ensures ∙ ap (λ (k : List ℕ). fold collected collector (offers_there series isbn k (map.get catalogue k))) c.as_str-reference.ensures)
    ∙ walk-more collected f collector _ (at_first isbn c.loop-listing.listing-iterator) (at_first isbn rest) l begins c.loop-listing.invariant

-- the listings from the first one on that may be of the article
from_first_on : (isbn value reference : List ℕ) (keys items first : List Listing) → first ≡ items → items ≡ filter (λ (l : Listing). is_le (listing_cmp (record { isbn = value; reference = reference }) l) && true) keys
    → value ≡ isbn → reference ≡ [] → first ≡ filter (is_from isbn) keys
from_first_on isbn value reference keys items first gives between text none =
    gives ∙ between ∙ ap (λ (k : Listing). filter (λ (l : Listing). is_le (listing_cmp k l) && true) keys) (λ i. record { isbn = text i; reference = none i })

pub returns-in-None : goal.returns-in-None
returns-in-None g c = λ is.
    listed_collected c.args.series.now c.args.isbn.now c.args.self.now.listings c.args.catalogue.now is g.C.OfferCollector.collected c.args.collector.now c.loop-listing.collector _ c.loop-listing.listing-iterator c.range-listing-items.ensures.ordered
    (from_first_on c.args.isbn.now _ _ c.args.self.now.listings.keys _ _ c.into_iter-listing-iterator.ensures.into_iter_gives (c.range-listing-items.ensures.between tt) (c.in_ok-value.ensures.text ∙ c.as_str-digits.ensures.text) c.new.ensures)
    c.loop-listing.invariant (ap (at_first c.args.isbn.now) c.in-None.ensures.steps.0)

pub returns-then-not-is_at : goal.returns-then-not-is_at
returns-then-not-is_at g c = λ is.
    let isbn = c.args.isbn.now in
    let l = c.in-Some.listing.now in
    listed_collected c.args.series.now isbn c.args.self.now.listings c.args.catalogue.now is g.C.OfferCollector.collected c.args.collector.now c.loop-listing.collector _ c.loop-listing.listing-iterator c.range-listing-items.ensures.ordered
    (from_first_on isbn _ _ c.args.self.now.listings.keys _ _ c.into_iter-listing-iterator.ensures.into_iter_gives (c.range-listing-items.ensures.between tt) (c.in_ok-value.ensures.text ∙ c.as_str-digits.ensures.text) c.new.ensures)
    c.loop-listing.invariant
    (ap (at_first isbn) c.in-Some.ensures.steps
    ∙ ap (λ b. cond b (l ∷ at_first isbn c.next.new.self) []) (sym (c.if-not-is_at.ensures ∙ ap (λ (d : List ℕ). bytes_eq d l.isbn) c.as_str-digits.ensures.text)))
