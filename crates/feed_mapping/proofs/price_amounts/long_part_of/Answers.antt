use Rattle.std.proofs.Common.{◌≡◌, ◌∙◌, List, ℕ, Bool, true, false, cond, None, IsUtf8, take, refl, sym, ap, ◌+◌, ◌/◌}
use Rattle.std.specs.Char.{is_ascii_digit}
use Rattle.std.specs.List.{list_all}
use Rattle.std.specs.Prelude.{◌&&◌, length, nat_lt, option_map}
use Rattle.onix_terms.specs.Digits.{digits_of}
use Rattle.feed_terms.proofs.Digits.{no_digits}
use Rattle.feed_mapping.specs.Amounts.{long_part_of}
use Rattle.feed_mapping.proofs.price_amounts.long_part_of.Goals as goal

no_part : (part front : List ℕ) → front ≡ take 4 part → (IsUtf8 front → ⊥) → None ≡ long_part_of part
no_part part front f bad = go (nat_lt 3 (length part) && list_all is_ascii_digit part)
  where
    none : digits_of (take 4 part) ≡ None
    none = ap digits_of (sym f) ∙ no_digits front bad

    go : (b : Bool) → None ≡ cond b (option_map (λ n. (n + 5) / 10) (digits_of (take 4 part))) None
    go true = sym (ap (option_map (λ n. (n + 5) / 10)) none)
    go false = refl

pub returns-in-Err-clause-value : goal.returns-in-Err-clause-value
returns-in-Err-clause-value c =
    no_part c.args.part.now c.split_at.result.0.now (c.split_at.ensures.front ∙ ap (take 4) c.as_bytes-bytes.ensures.value) c.in-Err.ensures.cases.0
