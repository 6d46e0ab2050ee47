-- Amounts of Prices: as they stand, and as they are written.
use Rattle.std.specs.Prelude.{ℕ, List, ◌+◌, ◌*◌, ◌/◌, ◌==◌, ◌&&◌, Bool, false, Option, Some, None, nat_lt}
use Rattle.std.specs.Prelude.{drop, length, option_map, position, take, if◌then◌else◌}
use Rattle.std.specs.Char.{is_ascii_digit}
use Rattle.std.specs.List.{after_first, before_first, list_all, position_or_len}
use Rattle.std.specs.Option.{option_map_or, option_or}
use Rattle.feed_outline.specs.Nodes.{Nodes}
use Rattle.onix_terms.specs.Amount.{amount_from, amount_of, amount_text, is_point}
use Rattle.onix_terms.specs.Digits.{digits_of}
use Rattle.onix_terms.specs.Options.{◌>>=◌}
use Rattle.feed_mapping.specs.Elements.{text_at}
use Rattle.feed_mapping.specs.Records.{parsed_term}

abbrev pub are_zeros : List ℕ → Bool
are_zeros text = list_all (λ b. b == 48) text

-- a text with its point there, without the zeros behind the third decimal
abbrev pub cut_zeros : Option ℕ → List ℕ → List ℕ
cut_zeros None text = text
cut_zeros (Some at) text = if are_zeros (drop (at + 4) text) then take (at + 4) text else text

-- where an amount has its point
abbrev pub point_in : List ℕ → Option ℕ
point_in text = position is_point text

-- the thousandths of more than three digits behind the point: to the third, halves up
abbrev pub long_part_of : List ℕ → Option ℕ
long_part_of part =
    if nat_lt 3 (length part) && list_all is_ascii_digit part
    then option_map (λ n. (n + 5) / 10) (digits_of (take 4 part)) else None

-- the amount of one to nine digits, a point and more than three others
abbrev pub rounded_of : List ℕ → Option ℕ
rounded_of text =
    if nat_lt (position_or_len is_point text) (length text) then (do
      whole ← digits_of (before_first is_point text)
      part ← long_part_of (after_first is_point text)
      amount_from (whole * 1000 + part))
    else None

module _ (text : List ℕ) where
  -- the amount that is rounded, where it is
  abbrev pub rounded_amount : Option ℕ
  rounded_amount = parsed_term rounded_of text

  -- the amount that is written
  abbrev pub written_amount : Option ℕ
  written_amount = option_or rounded_amount (parsed_term amount_of text)

  -- the text of an amount that is rounded
  abbrev pub rounded_text : Option (List ℕ)
  rounded_text = option_map amount_text rounded_amount

  -- an amount as it is written: rounded where it has more than three decimals, else as it stands
  abbrev pub amount_written : List ℕ
  amount_written = option_map_or amount_text rounded_amount text

-- an amount as it stands, without the zeros behind its third decimal
abbrev pub amount_said : Nodes → List ℕ
amount_said nodes = cut_zeros (point_in (text_at "PriceAmount" nodes)) (text_at "PriceAmount" nodes)

-- an amount of 0, which a choice by price would always take
abbrev pub is_zero : List ℕ → Bool
is_zero said = option_map_or (λ n. n == 0) (written_amount said) false
