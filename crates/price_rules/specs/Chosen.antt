-- Which offer the shop chooses, computed: the best of all candidates.
use Rattle.std.specs.Prelude.{ℕ, ◌+◌, List, [], ◌∷◌, ◌++◌, Option, Some, None, Bool, true, ◌&&◌, ◌==◌, nat_lt, nat_le, option_map, if◌then◌else◌}
use Rattle.std.specs.Ordering.{is_lt, nat_cmp}
use Rattle.std.specs.Cmp.Lexicographic.{slice_cmp}
use Rattle.std.specs.Str.{bytes_eq}
use Rattle.price_rules.specs.Choice.{Pair}
use Rattle.price_rules.specs.Current.{current, has_code}
use Rattle.price_rules.specs.Order.{best_of, by_then}
use Rattle.price_rules.specs.declared.choice.Choice.{Choice}
use Rattle.price_rules.specs.declared.offer.Offer.{Offer}
use Rattle.price_rules.specs.declared.offer.PriceQuery.{PriceQuery}
use Rattle.price_rules.specs.declared.precedence.Rule.{Rule}

-- whether a rule for this series, or for all, is for the series of that name
abbrev pub is_series : Option (List ℕ) → List ℕ → Bool
is_series None name = true
is_series (Some wanted) name = bytes_eq wanted name

-- the amount, where it is not above the greatest one, if there is one
abbrev pub amount_within : Option ℕ → Option ℕ → Option ℕ
amount_within max None = None
amount_within None (Some amount) = Some amount
amount_within (Some most) (Some amount) = if nat_le amount most then Some amount else None

-- the current price of the offer, where the rule takes it
abbrev pub amount_under : Rule → Offer → PriceQuery → Option ℕ
amount_under rule offer q =
    if is_series rule.series offer.series && has_code offer.availability rule.codes
    then amount_within rule.max (current offer q)
    else None

-- the pair of the rule at this number and the offer at this index, if the rule takes the offer at
-- an amount
abbrev pub pair_of : ℕ → ℕ → Offer → Option ℕ → List Pair
pair_of number index offer None = []
pair_of number index offer (Some amount) =
    (record { rule = number; offer_index = index; amount = amount }, offer) ∷ []

-- the candidates of the rule at this number, of offers from this index on
abbrev pub rule_candidates : Rule → ℕ → PriceQuery → ℕ → List Offer → List Pair
rule_candidates rule number q index [] = []
rule_candidates rule number q index (offer ∷ rest) =
    pair_of number index offer (amount_under rule offer q)
    ++ rule_candidates rule number q (index + 1) rest

-- the candidates of rules from this number on
abbrev pub candidates : ℕ → List Rule → List Offer → PriceQuery → List Pair
candidates number [] offers q = []
candidates number (rule ∷ rest) offers q =
    rule_candidates rule number q 0 offers ++ candidates (number + 1) rest offers q

-- whether a text comes before another in the order of bytes
abbrev pub is_text_less : List ℕ → List ℕ → Bool
is_text_less a b = is_lt (slice_cmp nat_cmp a b)

-- whether one pair precedes another
abbrev pub precedes : Pair → Pair → Bool
precedes =
    by_then (λ c. c.0.rule) nat_lt ◌==◌
    (by_then (λ c. c.0.amount) nat_lt ◌==◌
    (by_then (λ c. c.1.series) is_text_less bytes_eq
    (by_then (λ c. c.1.reference) is_text_less bytes_eq
    (by_then (λ c. c.1.place) nat_lt ◌==◌ (λ c d. nat_lt c.0.offer_index d.0.offer_index)))))

-- the choice by the rules
unfoldable pub choice : List Rule → List Offer → PriceQuery → Option Choice
choice rules offers q =
    option_map (λ c. c.0) (best_of (λ c. true) precedes (candidates 1 rules offers q))
