-- What is written of the Prices of a SupplyDetail fits what the terms see of them.
use Rattle.std.proofs.Common.{◌≡◌, ◌≤◌, ◌<◌, ◌-◌, ◌∙◌, inl, inr, ℕ, true, List, [], ◌∷◌, ◌++◌, Option, Some, IfSome, length, length-append, slice_get, refl, sym, ap, subst, arith}
use Rattle.std.specs.Prelude.{codes}
use Rattle.std.specs.List.{list_all}
use Rattle.std.specs.Str.{is_utf8}
use Rattle.std.proofs.lemmas.List.{append-nil}
use Rattle.onix_records.specs.declared.parts.Price.{Price}
use Rattle.onix_records.specs.Price.{price_of}
use Rattle.feed_terms.specs.WithTerms.{HavePrices, with_terms}
use Rattle.feed_terms.specs.declared.price.GivenPrice.{GivenPrice}
use Rattle.feed_terms.specs.declared.price.Kind.{Kind}
use Rattle.feed_terms.specs.declared.term.Term.{Term}
use Rattle.feed_mapping.specs.PriceTexts.{PriceTexts}
use Rattle.feed_mapping.specs.Outcomes.{all_records, outcome_records}
use Rattle.feed_mapping.specs.Prices.{PriceContext, written_fields, price_outcome}
use Rattle.feed_mapping.specs.PriceTerms.{AreWritten, all_given, closed_kinds, given_in, given_of, records_with}
use Rattle.feed_mapping.specs.Records.{Records, parsed}
use Rattle.feed_mapping.proofs.ComputedRows.{IsSeen, all-fit, long-at, seen}
use Rattle.feed_mapping.proofs.PriceRows.{said-read}

-- ---- one Price

slice-behind : {A : Type 0} (xs : List A) (y : A) → slice_get (xs ++ y ∷ []) (length xs) ≡ Some y
slice-behind [] y = refl
slice-behind (x ∷ xs) y = slice-behind xs y

-- what was added of a Price that is written
pub record IsNew (context : PriceContext) (c : PriceTexts) (old new : Records) : Type 0 where
  pub price : Price
  pub inside : length old < length new
  pub holds : slice_get new (length old) ≡ Some (codes "Price" ∷ written_fields context c)
  pub utf8 : list_all is_utf8 (written_fields context c) ≡ true
  pub read : parsed (price_of context.opening) (written_fields context c) ≡ Some price
  pub given : given_in context c ≡ given_of price (codes "Price" ∷ written_fields context c) c.below ∷ []

module _ (context : PriceContext) (c : PriceTexts) (old new : Records) (added : new ≡ old ++ outcome_records (price_outcome context c)) where
  -- nothing was added: the terms see nothing
  pub unseen : length new ≡ length old → given_in context c ≡ []
  unseen same = go (seen context c)
    where
      go : IsSeen context c (price_outcome context c) → given_in context c ≡ []
      go (inl (bare, none)) = none
      go (inr (p, one, own, read)) =
          let longer = ap length (added ∙ ap (λ k. old ++ k) one) ∙ length-append old ((codes "Price" ∷ written_fields context c) ∷ []) in absurd (omega (arith, same, longer))

  pub new-price : (length new ≡ length old → ⊥) → IsNew context c old new
  new-price more = go (seen context c)
    where
      go : IsSeen context c (price_outcome context c) → IsNew context c old new
      go (inl (bare, none)) = absurd (more (ap length (added ∙ ap (λ k. old ++ k) bare ∙ append-nil old)))
      go (inr (p, one, own, read)) =
          let is : new ≡ old ++ (codes "Price" ∷ written_fields context c) ∷ [] = added ∙ ap (λ k. old ++ k) one in
          let longer = ap length is ∙ length-append old ((codes "Price" ∷ written_fields context c) ∷ []) in record {
            price = p;
            inside = omega (arith, longer);
            holds = ap (λ (rs : Records). slice_get rs (length old)) is ∙ slice-behind old (codes "Price" ∷ written_fields context c);
            utf8 = (said-read (price_of context.opening) (written_fields context c) p read).utf8;
            read = read;
            given = own;
          }

-- ---- all Prices

pub have-prices : (context : PriceContext) (cs : List PriceTexts) (records : Records) (given : List GivenPrice) (closed : List Kind) → AreWritten context cs records given closed → HavePrices records given
have-prices context cs records given closed w =
    let fit = all-fit context cs in record {
      count = ap length w.records ∙ fit.0 ∙ sym (ap length w.given);
      fields = λ k l.
          subst (λ (rs : Records). IfSome (slice_get rs k) (λ r. 9 ≤ length r)) (sym w.records)
          (long-at (all_records (price_outcome context) cs) k fit.1 (subst (λ (rs : Records). k < length rs) w.records l));
    }

module _ (terms : List Term) (supplier : Option (List ℕ)) (context : PriceContext) (cs : List PriceTexts) (records : Records) (given : List GivenPrice) (closed : List Kind) (are : AreWritten context cs records given closed) where
  -- the records with the terms are those that are defined
  pub records-are : with_terms terms supplier closed given records ≡ records_with terms supplier context cs
  records-are =
      ap (λ (k : List Kind). with_terms terms supplier k given records) are.closed ∙ ap (λ (g : List GivenPrice). with_terms terms supplier (closed_kinds context cs) g records) are.given
      ∙ ap (λ (rs : Records). with_terms terms supplier (closed_kinds context cs) (all_given context cs) rs) are.records
