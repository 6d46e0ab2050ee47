use Rattle.std.proofs.Common.{◌≡◌, ◌∙◌, List, ℕ, Bool, true, false, cond, None, IsUtf8, drop, take, refl, sym, ap, ◌*◌}
use Rattle.std.specs.List.{list_all}
use Rattle.std.specs.Prelude.{◌==◌, nat_le, length, option_map}
use Rattle.onix_terms.specs.Digits.{digits_of}
use Rattle.feed_terms.specs.Percents.{hundredths_of, last_digit_worth, short_hundredths_of}
use Rattle.feed_terms.proofs.Digits.{no_digits}
use Rattle.feed_terms.proofs.percent.read_short_hundredths.Goals as goal

no_hundredths : (text : List ℕ) → digits_of text ≡ None → hundredths_of text ≡ None
no_hundredths text none = go (nat_le (length text) 2)
  where
    go : (b : Bool) → cond b (option_map (λ n. n * last_digit_worth (length text)) (digits_of text)) None ≡ None
    go true = rw none refl
    go false = refl

no_text : (text front : List ℕ) → front ≡ take 2 text → (IsUtf8 front → ⊥) → None ≡ short_hundredths_of text
no_text text front f bad = go (list_all (λ b. b == 48) (drop 2 text))
  where
    go : (b : Bool) → None ≡ cond b (hundredths_of (take 2 text)) None
    go true = sym (no_hundredths (take 2 text) (ap digits_of (sym f) ∙ no_digits front bad))
    go false = refl

pub returns-in-Err-clause-value : goal.returns-in-Err-clause-value
returns-in-Err-clause-value c =
    no_text c.args.text.now c.split_at.result.0.now (c.split_at.ensures.front ∙ ap (take 2) c.as_bytes-bytes.ensures.value) c.in-Err.ensures.cases.0
