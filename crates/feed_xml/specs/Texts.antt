-- Texts: bytes that are characters which a document may have.
use Rattle.std.specs.Prelude.{◌≡◌, ◌<◌, ℕ, ◌+◌, ◌-◌, ◌*◌, Bool, true, false, ◌&&◌, ◌||◌, nat_lt}
use Rattle.std.specs.Prelude.{nat_le, List, [], ◌∷◌, Option, Some, None, if◌then◌else◌}
use Rattle.std.specs.Prelude.{option_and_then}
use Rattle.std.specs.List.{list_all}
use Rattle.std.specs.Str.{encode_utf8_all}
use Rattle.feed_xml.specs.declared.texts.Part.{Part}
use Rattle.feed_xml.specs.declared.texts.Part.TheVariants.{Whole, One, Two, Three}
use Rattle.feed_xml.specs.Characters.{is_char}

-- the bytes are the UTF-8 of characters that a document may have
abbrev pub IsText : List ℕ → Type 0
IsText bytes = (cs : List ℕ) × (list_all is_char cs ≡ true) × (encode_utf8_all cs ≡ bytes)

-- The part behind the next byte. The first byte of a character says how many follow, each with six
-- bits, and no character has more bytes than it needs.
abbrev pub next_part : Part → ℕ → Option Part
next_part Whole b =
    if nat_lt b 128 then (if is_char b then Some Whole else None)
    else if nat_lt b 192 then None
    else if nat_lt b 224 then Some (One (b - 192) 128)
    else if nat_lt b 240 then Some (Two (b - 224) 2048)
    else if nat_lt b 248 then Some (Three (b - 240))
    else None
next_part (One value least) b =
    if nat_lt b 128 || nat_le 192 b then None
    else if nat_le least (value * 64 + (b - 128)) && is_char (value * 64 + (b - 128))
    then Some Whole
    else None
next_part (Two value least) b =
    if nat_lt b 128 || nat_le 192 b then None else Some (One (value * 64 + (b - 128)) least)
next_part (Three value) b =
    if nat_lt b 128 || nat_le 192 b then None else Some (Two (value * 64 + (b - 128)) 65536)

abbrev pub follow : Part → List ℕ → Option Part
follow part [] = Some part
follow part (b ∷ bytes) = option_and_then (λ next. follow next bytes) (next_part part b)

-- a character begins here
abbrev pub is_start : Part → Bool
is_start Whole = true
is_start other = false

-- what the bytes so far come to is small
abbrev pub IsSmall : Part → Type 0
IsSmall Whole = Unit {0}
IsSmall (One value least) = value < 32768
IsSmall (Two value least) = value < 512
IsSmall (Three value) = value < 8
