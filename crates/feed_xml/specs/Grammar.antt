-- The tokens of an XML text, and how each is spelled.
use Prim.Native.String.{String}
use Rattle.std.specs.Prelude.{ℕ, Bool, true, false, ◌&&◌, ◌||◌, ◌==◌, nat_le, if◌then◌else◌, not}
use Rattle.std.specs.Prelude.{codes, List, [], ◌∷◌, ◌++◌, Ok, Err, unwrap_or}
use Rattle.std.specs.Option.{option_map_or}
use Rattle.std.specs.Result.{result_ok}
use Rattle.std.specs.Str.{bytes_eq, chars, str_eq_ignore_ascii_case}
use Rattle.feed_xml.specs.Characters.{within, is_char, are_of_name, number_code}
use Rattle.feed_xml.specs.Steps.{Step, ◌>>=◌, run, literal}
use Rattle.feed_xml.specs.declared.stop.Stop.TheVariants.{More, Never}
use Rattle.feed_xml.specs.declared.skim.Skim.TheVariants.{Outside}
use Rattle.feed_xml.specs.Skims.{is_skimmed}
use Rattle.std.specs.List.{list_all, list_any, flat_map}

module _ (b : ℕ) where
  -- white space: a space, a tab, CR and LF
  abbrev pub is_space : Bool
  is_space = (b == 32) || (b == 10) || (b == 13) || (b == 9)

  -- the first byte of a name: a letter, an underscore, a colon, or a byte of a character beyond
  -- ASCII
  abbrev pub starts_name : Bool
  starts_name = within 97 122 b || within 65 90 b || (b == 95) || (b == 58) || nat_le 128 b

  -- also a digit, a hyphen or a full stop
  abbrev pub is_name_byte : Bool
  is_name_byte = starts_name || within 48 57 b || (b == 45) || (b == 46)

  -- all but < and &
  abbrev pub is_plain : Bool
  is_plain = not ((b == 60) || (b == 38))

  -- all but a closing bracket
  abbrev pub is_unbracketed : Bool
  is_unbracketed = not (b == 93)

  abbrev pub is_quote : Bool
  is_quote = (b == 34) || (b == 39)

  abbrev pub is_digit : Bool
  is_digit = within 48 57 b

  abbrev pub is_hex_digit : Bool
  is_hex_digit = is_digit || within 97 102 b || within 65 70 b

  -- a byte of what stands between & and ; in a reference
  abbrev pub is_reference_byte : Bool
  is_reference_byte = is_name_byte || (b == 35)

  abbrev pub is_letter : Bool
  is_letter = within 65 90 b || within 97 122 b

  -- a byte of the name of an encoding
  abbrev pub is_encoding_byte : Bool
  is_encoding_byte = (is_letter || is_digit) || ((b == 46) || ((b == 95) || (b == 45)))

abbrev pub begins_name : List ℕ → Bool
begins_name [] = false
begins_name (b ∷ bytes) = starts_name b

-- such bytes, whose characters may stand in a name
abbrev pub is_name : List ℕ → Bool
is_name name = begins_name name && (list_all is_name_byte name && are_of_name (chars name))

-- a byte of a value in these quotes
abbrev pub is_value_byte : ℕ → ℕ → Bool
is_value_byte quote b = not ((b == quote) || (b == 60))

-- it has a byte
abbrev pub is_filled : List ℕ → Bool
is_filled [] = false
is_filled (b ∷ bytes) = true

-- the text begins with the mark
abbrev pub begins : List ℕ → List ℕ → Bool
begins [] text = true
begins (c ∷ mark) [] = false
begins (c ∷ mark) (b ∷ text) = (b == c) && begins mark text

abbrev pub is_number : List ℕ → Bool
is_number [] = false
is_number (b ∷ digits) =
    if b == 120 then is_filled digits && list_all is_hex_digit digits
    else list_all is_digit (b ∷ digits)

-- What stands between & and ; in a reference: a name, or # and the number of a character.
abbrev pub is_reference : List ℕ → Bool
is_reference [] = false
is_reference (b ∷ body) =
    if b == 35 then (is_number body && is_char (number_code body)) else is_name (b ∷ body)

-- a reference follows, up to its ;
abbrev pub begins_reference : List ℕ → Bool
begins_reference bytes =
    option_map_or (λ x. is_reference x.0 && begins (59 ∷ []) x.1)
    (result_ok (run is_reference_byte bytes)) false

-- in the value of an attribute each & begins a reference
abbrev pub refers : List ℕ → Bool
refers [] = true
refers (b ∷ value) = (not (b == 38) || begins_reference value) && refers value

-- An attribute, with the white space before it and on both sides of its equals sign.
pub record Attribute : Type 0 where
  pub before : List ℕ
  pub name : List ℕ
  pub left : List ℕ
  pub right : List ℕ
  pub quote : ℕ
  pub value : List ℕ

module _ (a : Attribute) where
  abbrev pub attribute_text : List ℕ
  attribute_text =
      a.before ++ (a.name ++ (a.left ++ 61 ∷ (a.right ++ a.quote ∷ (a.value ++ a.quote ∷ []))))

  abbrev pub is_attribute : Bool
  is_attribute =
      (is_filled a.before && list_all is_space a.before)
      && (is_name a.name && (list_all is_space a.left && (list_all is_space a.right
      && (is_quote a.quote && (list_all (is_value_byte a.quote) a.value && refers a.value)))))

-- the name is that of one of the attributes
abbrev pub is_among : List ℕ → List Attribute → Bool
is_among name list = list_any (λ a. bytes_eq a.name name) list

-- no two attributes have one name
abbrev pub are_distinct : List Attribute → Bool
are_distinct [] = true
are_distinct (a ∷ list) = not (is_among a.name list) && are_distinct list

-- the mark behind the text is the first one
abbrev pub is_free : List ℕ → List ℕ → Bool
is_free mark [] = true
is_free mark (b ∷ text) = not (begins mark ((b ∷ text) ++ mark)) && is_free mark text

-- the longest front of bytes that names may have, and what is behind it
abbrev pub target_of : List ℕ → List ℕ × List ℕ
target_of body = unwrap_or (result_ok (run is_name_byte body)) (body, [])

-- nothing, or white space first
abbrev pub is_apart : List ℕ → Bool
is_apart [] = true
is_apart (b ∷ bytes) = is_space b

-- xml, in capital letters or small ones
abbrev pub is_xml : List ℕ → Bool
is_xml name = str_eq_ignore_ascii_case name (codes "xml")

-- the target of an instruction is a name, and not xml; behind it stands white space, unless that is
-- all
abbrev pub is_instruction : List ℕ → Bool
is_instruction body =
    not (is_xml (target_of body).0)
    && (is_name (target_of body).0 && is_apart (target_of body).1)

-- ---- the XML declaration

-- one of the two quotes
unfoldable pub quote_at : List ℕ → Step ℕ
quote_at [] = Err More
quote_at (b ∷ bytes) = if is_quote b then Ok (b, bytes) else Err Never

-- the value of an attribute of this name behind white space, and what is behind it
unfoldable pub declared_at : List ℕ → List ℕ → Step (List ℕ)
declared_at name bytes = do
  before ← run is_space bytes
  word ← literal name before.1
  left ← run is_space word.1
  equals ← literal (61 ∷ []) left.1
  right ← run is_space equals.1
  quote ← quote_at right.1
  value ← run (is_value_byte quote.0) quote.1
  closing ← literal (quote.0 ∷ []) value.1
  if is_filled before.0 then Ok (value.0, closing.1) else Err Never

-- 1. and a number
abbrev pub is_version : List ℕ → Bool
is_version (a ∷ b ∷ number) =
    ((a == 49) && (b == 46)) && (is_filled number && list_all is_digit number)
is_version other = false

abbrev pub is_encoding_name : List ℕ → Bool
is_encoding_name [] = false
is_encoding_name (b ∷ name) = is_letter b && list_all is_encoding_byte name

abbrev pub is_standalone : List ℕ → Bool
is_standalone value = bytes_eq value (codes "yes") || bytes_eq value (codes "no")

-- an attribute of this name with a value that passes, which may be absent, and then what passes
abbrev pub may_go_on : String → (List ℕ → Bool) → (List ℕ → Bool) → List ℕ → Bool
may_go_on name is_value is_rest bytes =
    option_map_or (λ x. is_value x.0 && is_rest x.1)
    (result_ok (declared_at (codes name) bytes)) (is_rest bytes)

-- standalone, where it is
abbrev pub is_from_standalone : List ℕ → Bool
is_from_standalone = may_go_on "standalone" is_standalone (list_all is_space)

-- encoding, where it is, and what follows
abbrev pub is_from_encoding : List ℕ → Bool
is_from_encoding = may_go_on "encoding" is_encoding_name is_from_standalone

-- version and what follows
abbrev pub is_from_version : Step (List ℕ) → Bool
is_from_version (Ok x) = is_version x.0 && is_from_encoding x.1
is_from_version (Err e) = false

-- XMLDecl
abbrev pub is_declaration : List ℕ → Bool
is_declaration body =
    bytes_eq (target_of body).0 (codes "xml")
    && is_from_version (declared_at (codes "version") (target_of body).1)

-- a DOCTYPE has a name behind white space
abbrev pub is_named : List ℕ → Bool
is_named body =
    option_map_or (λ x. is_filled x.0 && is_name (target_of x.1).0)
    (result_ok (run is_space body)) false

-- A token of XML, with all of its syntax, white space too
pub data Token : Type 0 where
  -- a byte of a text
  raw : ℕ → Token
  -- what stands between & and ;
  reference : List ℕ → Token
  -- the mark that begins a CDATA section
  opening : Token
  -- a closing bracket in a section, with the number of them before it, two at most
  bracket : ℕ → Token
  -- any other byte in a section, behind the number of closing brackets before it; a > behind two of
  -- them ends it
  cdata : ℕ → ℕ → Token
  comment : List ℕ → Token
  instruction : List ℕ → Token
  -- the XML declaration
  declaration : List ℕ → Token
  doctype : List ℕ → Token
  -- a name, attributes, and the white space behind them
  start : List ℕ → List Attribute → List ℕ → Token
  empty : List ℕ → List Attribute → List ℕ → Token
  end : List ℕ → List ℕ → Token

-- the bytes of a token
abbrev pub spelling : Token → List ℕ
spelling (raw b) = b ∷ []
spelling (reference body) = codes "&" ++ (body ++ codes ";")
spelling opening = codes "<![CDATA["
spelling (bracket n) = codes "]"
spelling (cdata n b) = b ∷ []
spelling (comment body) = codes "<!--" ++ (body ++ codes "-->")
spelling (instruction body) = codes "<?" ++ (body ++ codes "?>")
spelling (declaration body) = codes "<?" ++ (body ++ codes "?>")
spelling (doctype body) = codes "<!DOCTYPE" ++ (body ++ codes ">")
spelling (start name attributes space) =
    codes "<" ++ (name ++ (flat_map attribute_text attributes ++ (space ++ codes ">")))
spelling (empty name attributes space) =
    codes "<" ++ (name ++ (flat_map attribute_text attributes ++ (space ++ codes "/>")))
spelling (end name space) = codes "</" ++ (name ++ (space ++ codes ">"))

-- the parts of the token are what XML allows there
abbrev pub is_token : Token → Bool
is_token (raw b) = is_plain b
is_token (reference body) = is_reference body
is_token opening = true
is_token (bracket n) = true
is_token (cdata n b) = is_unbracketed b
is_token (comment body) = is_free (codes "--") body
is_token (instruction body) = is_instruction body && is_free (codes "?>") body
is_token (declaration body) = is_declaration body && is_free (codes "?>") body
is_token (doctype body) = is_named body && is_skimmed Outside body
is_token (start name attributes space) =
    is_name name && (list_all is_attribute attributes && list_all is_space space)
is_token (empty name attributes space) =
    is_name name && (list_all is_attribute attributes && list_all is_space space)
is_token (end name space) = is_name name && list_all is_space space
