-- Texts of a fixed length, each as the text that it is.
use Rattle.std.specs.Prelude.{ℕ, List, Bool, Option, Some, None, ◌&&◌, ◌==◌, length, if◌then◌else◌}
use Rattle.std.specs.List.{list_all}
use Rattle.std.specs.Char.{is_ascii_digit, is_ascii_uppercase}

-- a text of this length with only such bytes
abbrev pub fixed_text : (ℕ → Bool) → ℕ → List ℕ → Option (List ℕ)
fixed_text allowed size text =
    if (length text == size) && list_all allowed text then Some text else None

-- two digits
abbrev pub code2_of : List ℕ → Option (List ℕ)
code2_of text = fixed_text is_ascii_digit 2 text

-- two letters A to Z
abbrev pub country_of : List ℕ → Option (List ℕ)
country_of text = fixed_text is_ascii_uppercase 2 text

-- three letters A to Z
abbrev pub currency_of : List ℕ → Option (List ℕ)
currency_of text = fixed_text is_ascii_uppercase 3 text

-- thirteen digits
abbrev pub isbn13_of : List ℕ → Option (List ℕ)
isbn13_of text = fixed_text is_ascii_digit 13 text
