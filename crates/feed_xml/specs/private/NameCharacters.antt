-- What is left of the characters of a name.
use Rattle.std.specs.Prelude.{ℕ, Bool, true, false, not, nat_lt, ◌&&◌, List, [], ◌∷◌}
use Rattle.std.specs.Str.{continuation_len, lead_bits, chars_after}
use Rattle.feed_xml.specs.Characters.{starts_name_char, is_name_char}

abbrev pub passes : Bool → ℕ → Bool
passes true = starts_name_char
passes false = is_name_char

-- the first of them may be the first of a name
abbrev pub are_left : Bool → List ℕ → Bool
are_left first [] = not first
are_left first (c ∷ cs) = passes first c && are_left false cs

-- the characters of the bytes are those of a name
abbrev pub are_named : List ℕ → Bool
are_named [] = false
are_named (b ∷ bytes) = are_left true (chars_after (continuation_len b) (lead_bits b) bytes)

-- a byte that is a character by itself
abbrev pub is_ascii : ℕ → Bool
is_ascii b = nat_lt b 128
