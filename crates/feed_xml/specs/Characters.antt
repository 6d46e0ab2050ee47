-- The characters of XML and those of its names, by their code points.
use Rattle.std.specs.Prelude.{ℕ, ◌+◌, ◌-◌, ◌*◌, Bool, false, ◌&&◌, ◌||◌, ◌==◌, nat_le, List, []}
use Rattle.std.specs.Prelude.{◌∷◌, if◌then◌else◌}
use Rattle.std.specs.List.{list_all}

abbrev pub within : ℕ → ℕ → ℕ → Bool
within least most c = nat_le least c && nat_le c most

module _ (c : ℕ) where
  -- a character that a document may have
  abbrev pub is_char : Bool
  is_char =
      (c == 9) || (c == 10) || (c == 13) || within 32 55295 c || within 57344 65533 c
      || within 65536 1114111 c

  -- a character that a name may begin with
  abbrev pub starts_name_char : Bool
  starts_name_char =
      (c == 58) || within 65 90 c || (c == 95) || within 97 122 c || within 192 214 c
      || within 216 246 c || within 248 767 c || within 880 893 c || within 895 8191 c
      || within 8204 8205 c || within 8304 8591 c || within 11264 12271 c
      || within 12289 55295 c || within 63744 64975 c
      || within 65008 65533 c || within 65536 983039 c

  -- a character that a name may have
  abbrev pub is_name_char : Bool
  is_name_char =
      starts_name_char || (c == 45) || (c == 46) || within 48 57 c || (c == 183)
      || within 768 879 c || within 8255 8256 c

-- the characters are those of a name
abbrev pub are_of_name : List ℕ → Bool
are_of_name [] = false
are_of_name (c ∷ cs) = starts_name_char c && list_all is_name_char cs

-- the number of a digit, in hexadecimal too
abbrev pub digit_value : ℕ → ℕ
digit_value b = if nat_le b 57 then b - 48 else if nat_le 97 b then b - 87 else b - 55

-- a number in digits to a base, behind the digits of n
abbrev pub in_base : ℕ → ℕ → List ℕ → ℕ
in_base base n [] = n
in_base base n (b ∷ digits) = in_base base (base * n + digit_value b) digits

-- the code point that a number says, which is hexadecimal behind an x
abbrev pub number_code : List ℕ → ℕ
number_code [] = 0
number_code (b ∷ digits) = if b == 120 then in_base 16 0 digits else in_base 10 0 (b ∷ digits)
