-- Names of series.
use Rattle.std.specs.Prelude.{ℕ, List, Bool, Option, Some, None, ◌&&◌, ◌||◌, ◌==◌, ◌++◌, ◌-◌}
use Rattle.std.specs.Prelude.{nat_lt, nat_le, length, replicate, if◌then◌else◌}
use Rattle.std.specs.List.{list_all}
use Rattle.std.specs.Char.{is_ascii_digit, is_ascii_lowercase}

-- a to z, 0 to 9 and the hyphen
abbrev pub is_name_byte : ℕ → Bool
is_name_byte b = is_ascii_lowercase b || is_ascii_digit b || (b == 45)

-- 1 to 32 characters, each a letter a to z, a digit or a hyphen
abbrev pub is_series_name : List ℕ → Bool
is_series_name text =
    nat_lt 0 (length text) && nat_le (length text) 32 && list_all is_name_byte text

-- the series name that a text is
abbrev pub series_name_of : List ℕ → Option (List ℕ)
series_name_of text = if is_series_name text then Some text else None

-- a name in an array of 32 bytes, zeros after it
abbrev pub padded : List ℕ → List ℕ
padded name = name ++ replicate (32 - length name) 0
