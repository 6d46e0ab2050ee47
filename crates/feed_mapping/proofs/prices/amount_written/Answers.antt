use Rattle.std.proofs.Common.{◌≡◌, ◌∙◌, ℕ, List, Option, Some, None, sym}
use Rattle.std.specs.Prelude.{option_map}
use Rattle.std.specs.Option.{option_map_or}
use Rattle.onix_terms.specs.Amount.{amount_text}
use Rattle.feed_mapping.specs.Amounts.{rounded_amount}
use Rattle.feed_mapping.proofs.prices.amount_written.Goals as goal

-- a rounded amount that there is, is written
rounded-is : (rounded : Option ℕ) (said own : List ℕ) → Some own ≡ option_map amount_text rounded → own ≡ option_map_or amount_text rounded said
rounded-is None said own same = cc
rounded-is (Some n) said own same = cc

none-is : (rounded : Option ℕ) (said : List ℕ) → None ≡ option_map amount_text rounded → said ≡ option_map_or amount_text rounded said
none-is None said same = cc
none-is (Some n) said same = cc

pub returns-in-Some : goal.returns-in-Some
returns-in-Some c = λ same.
    let said = c.args.said.now in
    c.as_bytes.ensures.value ∙ c.as_str.ensures ∙ rounded-is (rounded_amount said) said c.in-Some.text (sym c.in-Some.is ∙ same)

pub returns-in-None : goal.returns-in-None
returns-in-None c = λ same.
    let said = c.args.said.now in
    none-is (rounded_amount said) said (sym c.in-None.is ∙ same)
