-- The kinds of bytes that runs are made of.
use Rattle.std.specs.Prelude.{ℕ, Bool, false, not, ◌&&◌, ◌==◌, nat_le, nat_lt, List, [], ◌∷◌}
use Rattle.feed_xml.specs.declared.classes.Kind.{Kind}
use Rattle.feed_xml.specs.declared.classes.Kind.TheVariants.{Space, Name, Plain, Value, Reference}
use Rattle.feed_xml.specs.declared.classes.Kind.TheVariants.{Digit, HexDigit, Unbracketed}
use Rattle.feed_xml.specs.declared.classes.Kind.TheVariants.{Ascii, Column}
use Rattle.feed_xml.specs.Grammar.{is_space, is_name_byte, is_plain, is_value_byte}
use Rattle.feed_xml.specs.Grammar.{is_reference_byte, is_digit, is_hex_digit, is_unbracketed}
use Rattle.feed_xml.specs.private.NameCharacters.{is_ascii}

-- a byte that goes on with a character
abbrev pub is_continuation : ℕ → Bool
is_continuation b = nat_le 128 b && nat_lt b 192

-- a byte that begins a character of the same line
abbrev pub has_column : ℕ → Bool
has_column b = not (b == 10) && not (is_continuation b)

abbrev pub passes : Kind → ℕ → Bool
passes Space = is_space
passes Name = is_name_byte
passes Plain = is_plain
passes (Value quote) = is_value_byte quote
passes Reference = is_reference_byte
passes Digit = is_digit
passes HexDigit = is_hex_digit
passes Unbracketed = is_unbracketed
passes Ascii = is_ascii
passes Column = has_column

-- bytes that begin with one of the kind
abbrev pub first_passes : Kind → List ℕ → Bool
first_passes kind [] = false
first_passes kind (b ∷ bytes) = passes kind b
