-- What was collected of offers for an answer about prices.
use Rattle.std.proofs.Common.{◌≡◌, List, [], ◌∷◌, ◌++◌, Option, Some, None, append_assoc, fold, option_map, sym, refl, ap, ◌∙◌}
use Rattle.std.specs.Prelude.{slice_get}
use Rattle.std.proofs.lemmas.List.{append-nil}
use Rattle.onix_terms.specs.Options.{◌>>=◌}
use Rattle.price_rules.specs.BestOffer.{best_offer, offer_of_choice}
use Rattle.price_rules.specs.Chosen.{choice}
use Rattle.price_rules.specs.declared.choice.Choice.{Choice}
use Rattle.price_rules.specs.declared.choice_so_far.ChoiceSoFar.{ChoiceSoFar}
use Rattle.price_rules.specs.declared.offer.Offer.{Offer}
use Rattle.price_rules.specs.declared.offer.PriceQuery.{PriceQuery}
use Rattle.price_rules.specs.declared.precedence.Rule.{Rule}
use Rattle.price_rules.proofs.Collected.{best_of_all, with_offer}
use Rattle.series_rules.specs.PriceAnswers.{chosen_by, chosen_offer, named_best, priced, prices_of}
use Rattle.series_rules.specs.declared.price_answers.PricesSoFar.{PricesSoFar}

-- the prices so far, with that of one more offer
abbrev pub with_price : PricesSoFar → Offer → PricesSoFar
with_price s o = record s { offers = s.offers ++ priced s.query o ∷ [] }

prices_with : (s : PricesSoFar) (offers : List Offer) → (fold with_price s offers).offers ≡ s.offers ++ prices_of s.query offers
prices_with s [] = sym (append-nil s.offers)
prices_with s (o ∷ rest) = prices_with (with_price s o) rest ∙ append_assoc s.offers (priced s.query o ∷ []) (prices_of s.query rest)

-- from no prices on, they are those of all the offers
pub prices_of_all : (s : PricesSoFar) (q : PriceQuery) (offers : List Offer) → s.query ≡ q → s.offers ≡ [] → (fold with_price s offers).offers ≡ prices_of q offers
prices_of_all s q offers query none = prices_with s offers ∙ ap (λ was. was ++ prices_of s.query offers) none ∙ ap (λ (p : PriceQuery). prices_of p offers) query

named_at : (offers : List Offer) (c : Choice) (o : Option Offer) → option_map named_best (option_map (λ p. record { rule = c.rule; offer = p; amount = c.amount }) o) ≡ option_map (λ p. named_best (record { rule = c.rule; offer = p; amount = c.amount })) o
named_at offers c None = refl
named_at offers c (Some p) = refl

named_choice : (offers : List Offer) (d : Option Choice) → option_map named_best (d >>= offer_of_choice offers) ≡ (d >>= chosen_offer offers)
named_choice offers None = refl
named_choice offers (Some c) = named_at offers c (slice_get offers c.offer_index)

-- from no choice on, it is that of all the offers
pub chosen_of_all : (s : ChoiceSoFar) (rules : List Rule) (q : PriceQuery) (offers : List Offer) → s.precedence.now ≡ rules → s.query ≡ q → s.best ≡ None
    → option_map named_best (fold with_offer s offers).best ≡ chosen_by rules q offers
chosen_of_all s rules q offers same query none =
    ap (option_map named_best) (best_of_all s offers none)
    ∙ named_choice offers (choice s.precedence.now offers s.query)
    ∙ ap (λ rs. chosen_by rs s.query offers) same
    ∙ ap (λ (p : PriceQuery). chosen_by rules p offers) query
