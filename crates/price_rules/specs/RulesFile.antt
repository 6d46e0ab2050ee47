-- The rules that the text of a precedence table has.
use Rattle.std.specs.Prelude.{ℕ, ◌+◌, ◌<◌, List, [], ◌∷◌, Bool, true, ◌&&◌, ◌||◌, ◌≡◌, ◌⊎◌, nat_le, Option, Some, None, Result, Ok, Err, codes, option_map, if◌then◌else◌}
use Rattle.std.specs.Str.{bytes_eq}
use Rattle.toml.specs.Data.{Data, Items, no_items, item, Members, no_members, member, as_array, as_str, as_table, get_item, get_member}
use Rattle.toml.specs.Parse.{parse_document}
use Rattle.onix_terms.specs.Amount.{amount_of}
use Rattle.onix_terms.specs.Code.{code2_of}
use Rattle.onix_terms.specs.Options.{◌>>=◌}
use Rattle.onix_terms.specs.SeriesName.{series_name_of}
use Rattle.onix_terms.specs.Territory.{nonempty}
use Rattle.price_rules.specs.declared.precedence.PrecedenceFault.{PrecedenceFault}
use Rattle.price_rules.specs.declared.precedence.PrecedenceFault.TheVariants as fault
use Rattle.price_rules.specs.declared.precedence.Rule.{Rule}

-- whether each key passes
abbrev pub keys_pass : (List ℕ → Bool) → Members → Bool
keys_pass passes no_members = true
keys_pass passes (member key value rest) = passes key && keys_pass passes rest

-- the only key that the top-level table may have
abbrev pub is_top_key : List ℕ → Bool
is_top_key key = bytes_eq key (codes "rule")

-- the keys that a rule may have
abbrev pub is_rule_key : List ℕ → Bool
is_rule_key key =
    bytes_eq key (codes "series") || bytes_eq key (codes "codes") || bytes_eq key (codes "max")

-- the series that a text names, or all of them for a star
abbrev pub series_of : List ℕ → Option (Option (List ℕ))
series_of text =
    if bytes_eq text (codes "*") then Some None
    else option_map (λ name. Some name) (series_name_of text)

-- the series of a rule, a text
abbrev pub series_at : Option Data → Option (Option (List ℕ))
series_at value = value >>= as_str >>= series_of

-- the greatest amount, a text that may be absent
abbrev pub max_at : Option Data → Option (Option ℕ)
max_at None = Some None
max_at (Some value) = option_map (λ amount. Some amount) (as_str value >>= amount_of)

-- the availability code that a text is
abbrev pub code_of : Data → Option (List ℕ)
code_of value = as_str value >>= code2_of

-- the availability codes that texts are
abbrev pub codes_of : Items → Option (List (List ℕ))
codes_of no_items = Some []
codes_of (item value rest) = do
  first ← code_of value
  more ← codes_of rest
  Some (first ∷ more)

-- the availability codes of a rule, an array of one or more texts
abbrev pub codes_at : Option Data → Option (List (List ℕ))
codes_at value = value >>= as_array >>= codes_of >>= nonempty

-- the rule that the members of a table are: a series, one or more codes, a greatest amount or
-- none, and nothing else
abbrev pub rule_in : Members → Option Rule
rule_in members =
    if keys_pass is_rule_key members then (do
      series ← series_at (get_member (codes "series") members)
      max ← max_at (get_member (codes "max") members)
      admitted ← codes_at (get_member (codes "codes") members)
      Some (record { series = series; codes = admitted; max = max }))
    else None

-- the rule that a value is
unfoldable pub rule_of : Data → Option Rule
rule_of value = as_table value >>= rule_in

-- a rule at this number before the rules after it, or the first fault
abbrev pub rule_before : ℕ → Option Rule → Result (List Rule) PrecedenceFault
    → Result (List Rule) PrecedenceFault
rule_before number None rest = Err (fault.BadRule number)
rule_before number (Some rule) (Err e) = Err e
rule_before number (Some rule) (Ok rules) = Ok (rule ∷ rules)

-- the rules of items from this number on, of which none is past number 1,000
abbrev pub rules_from : ℕ → Items → Result (List Rule) PrecedenceFault
rules_from number no_items = Ok []
rules_from number (item value rest) =
    rule_before number (if nat_le number 1_000 then rule_of value
    else None) (rules_from (number + 1) rest)

-- the items of an array that may be absent
abbrev pub items_at : Option Data → Option Items
items_at None = Some no_items
items_at (Some value) = as_array value

-- the items of the array `rule` of a top-level table that holds nothing else
abbrev pub top_items : Members → Option Items
top_items members =
    if keys_pass is_top_key members then items_at (get_member (codes "rule") members) else None

-- the rules of the items, if there are such
abbrev pub rules_of : Option Items → Result (List Rule) PrecedenceFault
rules_of None = Err fault.NotToml
rules_of (Some items) = rules_from 1 items

-- the rules that a text of the precedence table has, or why it has none
unfoldable pub precedence_of : List ℕ → Result (List Rule) PrecedenceFault
precedence_of text = rules_of (parse_document text >>= top_items)

-- a call failed as reading does, or if memory ran out
abbrev pub Explains : Result (List Rule) PrecedenceFault → PrecedenceFault → Type 0
Explains read e = (e ≡ fault.Memory) ⊎ (read ≡ Err e)

-- the item at this number, counted from 1, is past number 1,000 or is no rule
abbrev pub IsBadItem : Items → ℕ → Type 0
IsBadItem items number =
    (k : ℕ) × (value : Data) × (number ≡ 1 + k) × (get_item k items ≡ Some value)
    × ((1_000 < number) ⊎ (rule_of value ≡ None))
