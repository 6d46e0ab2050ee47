-- What was collected of offers.
use Rattle.std.proofs.Common.{◌≡◌, List, [], ◌∷◌, ◌++◌, None, fold, append_assoc, sym, refl, ap, ◌∙◌}
use Rattle.std.proofs.lemmas.List.{append-nil}
use Rattle.price_rules.specs.BestOffer.{alone, best_offer}
use Rattle.price_rules.specs.declared.choice_so_far.ChoiceSoFar.{ChoiceSoFar}
use Rattle.price_rules.specs.declared.offer.Offer.{Offer}
use Rattle.price_rules.proofs.BestOffers.{best_goes_on, best_of_none}

-- ---- all of them

-- a list of offers, and those that it collected
pub all_collected : (was offers : List Offer) → fold (λ os o. os ++ o ∷ []) was offers ≡ was ++ offers
all_collected was [] = sym (append-nil was)
all_collected was (o ∷ rest) = all_collected (was ++ o ∷ []) rest ∙ append_assoc was (o ∷ []) rest

-- ---- the choice

-- the choice so far, with one more offer
abbrev pub with_offer : ChoiceSoFar → Offer → ChoiceSoFar
with_offer s o = record s { best = best_offer s.precedence.now s.query (alone s.best ++ o ∷ []) }

best_with : (s : ChoiceSoFar) (offers : List Offer) → s.best ≡ best_offer s.precedence.now s.query (alone s.best)
    → (fold with_offer s offers).best ≡ best_offer s.precedence.now s.query (alone s.best ++ offers)
best_with s [] is = is ∙ ap (best_offer s.precedence.now s.query) (sym (append-nil (alone s.best)))
best_with s (o ∷ rest) is =
    let rules = s.precedence.now in
    let q = s.query in
    let few = alone s.best ++ o ∷ [] in
    best_with (with_offer s o) rest (ap (best_offer rules q) (sym (append-nil few)) ∙ sym (best_goes_on rules q few []) ∙ ap (best_offer rules q) (append-nil (alone (best_offer rules q few))))
    ∙ best_goes_on rules q few rest
    ∙ ap (best_offer rules q) (append_assoc (alone s.best) (o ∷ []) rest)

-- from no choice on, the choice so far is that of all the offers
pub best_of_all : (s : ChoiceSoFar) (offers : List Offer) → s.best ≡ None → (fold with_offer s offers).best ≡ best_offer s.precedence.now s.query offers
best_of_all s offers none =
    best_with s offers (none ∙ sym (best_of_none s.precedence.now s.query) ∙ ap (λ b. best_offer s.precedence.now s.query (alone b)) (sym none))
    ∙ ap (λ b. best_offer s.precedence.now s.query (alone b ++ offers)) none
