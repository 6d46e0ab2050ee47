-- A price of the feed that holds does so with the computed ones too, in the records.
use Rattle.std.proofs.Common.{◌≡◌, ℕ, List, [], ◌∷◌, Option, Some, map, refl, sym, ap, subst, ◌∙◌}
use Rattle.std.specs.List.{flat_map}
use Rattle.feed_outline.specs.Nodes.{Nodes}
use Rattle.onix_records.specs.declared.parts.Price.{Price}
use Rattle.onix_records.specs.declared.row.Opening.{Opening}
use Rattle.onix_records.specs.declared.row.Row.{Row}
use Rattle.onix_records.specs.declared.row.Row.TheVariants as row
use Rattle.price_rules.specs.Price.{IsCurrent}
use Rattle.feed_terms.specs.HeldBack.{is_held_back}
use Rattle.feed_terms.specs.Laws.{GivenPriceStands}
use Rattle.feed_terms.specs.WithTerms.{prices_with}
use Rattle.feed_terms.specs.declared.term.Term.{Term}
use Rattle.feed_mapping.specs.PriceTexts.{prices_in}
use Rattle.feed_mapping.specs.Details.{context_in, supplier_id}
use Rattle.feed_mapping.specs.PriceTerms.{all_given, closed_kinds, supplier_of}
use Rattle.feed_mapping.specs.Rows.{MayCompute}
use Rattle.feed_mapping.specs.TermsLaws.{GivenStands}
use Rattle.feed_mapping.proofs.ComputedRows.{TermLaws, all-plain, all-with}

price_in_row : Option Row → List Price
price_in_row (Some (row.Price p)) = p ∷ []
price_in_row other = []

prices_back : (ps : List Price) → flat_map price_in_row (map Some (map row.Price ps)) ≡ ps
unfolding price_in_row
prices_back [] = refl
prices_back (p ∷ ps) = ap (λ (qs : List Price). p ∷ qs) (prices_back ps)

-- the same rows are those of the same prices
same_prices : (rows : List (Option Row)) (ps qs : List Price) → rows ≡ map Some (map row.Price ps) → rows ≡ map Some (map row.Price qs) → ps ≡ qs
same_prices rows ps qs e f = sym (prices_back ps) ∙ ap (flat_map price_in_row) (sym e ∙ f) ∙ prices_back qs

pub given-stands : TermLaws → GivenPriceStands → (o : Opening) (terms : List Term) (preferred : List ℕ) (nodes : Nodes) → MayCompute o (Some terms) → GivenStands o terms preferred nodes
given-stands laws stands o terms preferred nodes (two, coded) offer with_computed q amount plain computed current =
    let context = context_in o nodes in
    let given = all_given context (prices_in nodes) in
    let supplier = supplier_of (supplier_id preferred nodes) in
    let closed = closed_kinds context (prices_in nodes) in
    let held = is_held_back terms supplier given closed in
    let own : offer.prices ≡ map (λ g. g.price) given = same_prices _ offer.prices (map (λ g. g.price) given) plain (all-plain context (prices_in nodes)).are in
    let all : prices_with terms supplier held given ≡ with_computed =
    same_prices _ (prices_with terms supplier held given) with_computed (all-with laws context two terms coded supplier held (prices_in nodes)).are computed
    in
    subst (λ (ps : List Price). IsCurrent (record offer { prices = ps }) q (Some amount)) all (stands terms supplier closed given offer q amount own current)
