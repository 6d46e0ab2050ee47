-- The token that bytes begin with.
use Rattle.std.specs.Prelude.{ℕ, zero, suc, length, ◌&&◌, ◌==◌, List, [], ◌∷◌, ◌++◌, Ok, Err}
use Rattle.std.specs.Prelude.{if◌then◌else◌, codes, Option, Some, None}
use Rattle.feed_xml.specs.declared.stop.Stop.TheVariants.{More, Never}
use Rattle.feed_xml.specs.Grammar.{is_space, is_name_byte, begins_name, is_name, is_filled, refers}
use Rattle.feed_xml.specs.Grammar.{is_value_byte, is_reference_byte, is_reference, is_instruction}
use Rattle.feed_xml.specs.Grammar.{is_declaration, is_named, quote_at, Attribute, Token, raw}
use Rattle.feed_xml.specs.Grammar.{reference, opening, comment, instruction, declaration, doctype}
use Rattle.feed_xml.specs.Grammar.{start, empty, end}
use Rattle.feed_xml.specs.Sections.{section_byte}
use Rattle.feed_xml.specs.Steps.{Step, ◌>>=◌, run, literal, until, skim}
use Rattle.feed_xml.specs.declared.skim.Skim.TheVariants.{Outside}

unfoldable pub name_at : List ℕ → Step (List ℕ)
name_at bytes = do
  name ← run is_name_byte bytes
  if is_name name.0 then Ok name else Err Never

unfoldable pub end_at : List ℕ → Step Token
end_at bytes = do
  name ← name_at bytes
  space ← run is_space name.1
  close ← literal (62 ∷ []) space.1
  Ok (end name.0 space.0, close.1)

-- an attribute behind this white space
unfoldable pub attribute_at : List ℕ → List ℕ → Step Attribute
attribute_at before bytes = do
  name ← name_at bytes
  left ← run is_space name.1
  equals ← literal (61 ∷ []) left.1
  right ← run is_space equals.1
  quote ← quote_at right.1
  value ← run (is_value_byte quote.0) quote.1
  closing ← literal (quote.0 ∷ []) value.1
  if is_filled before && refers value.0
      then Ok (
        record {
          before = before;
          name = name.0;
          left = left.0;
          right = right.0;
          quote = quote.0;
          value = value.0;
        },
        closing.1,
      )
      else Err Never

-- Attributes, as long as a name follows the white space, of as many bytes as there is fuel for.
unfoldable pub attributes_within : ℕ → List ℕ → Step (List Attribute)
attributes_within zero bytes = Err Never
attributes_within (suc n) bytes = do
  space ← run is_space bytes
  if begins_name space.1
      then (attribute_at space.0 space.1 >>= λ first.
      attributes_within n first.1 >>= λ others. Ok (first.0 ∷ others.0, others.1))
      else Ok ([], bytes)

unfoldable pub attributes_at : List ℕ → Step (List Attribute)
attributes_at bytes = attributes_within (suc (length bytes)) bytes

-- the attributes that all of the bytes spell
unfoldable pub attributes_in : List ℕ → List Attribute
attributes_in bytes = read_of (attributes_at (bytes ++ 62 ∷ []))
  where
    read_of : Step (List Attribute) → List Attribute
    read_of (Ok x) = x.0
    read_of (Err e) = []

-- what follows the white space of a start tag
unfoldable pub close_at : List ℕ → List Attribute → List ℕ → List ℕ → Step Token
close_at name attributes space [] = Err More
close_at name attributes space (b ∷ bytes) =
    if b == 47
    then (literal (62 ∷ []) bytes >>= λ x. Ok (empty name attributes space, x.1))
    else (literal (62 ∷ []) (b ∷ bytes) >>= λ x. Ok (start name attributes space, x.1))

unfoldable pub start_at : List ℕ → Step Token
start_at bytes = do
  name ← name_at bytes
  attributes ← attributes_at name.1
  space ← run is_space attributes.1
  close_at name.0 attributes.0 space.0 space.1

unfoldable pub instruction_at : List ℕ → Step Token
instruction_at bytes = do
  body ← until (codes "?>") bytes
  if is_instruction body.0
      then Ok (instruction body.0, body.1)
      else (if is_declaration body.0 then Ok (declaration body.0, body.1) else Err Never)

unfoldable pub comment_at : List ℕ → Step Token
comment_at bytes = do
  open_mark ← literal (codes "--") bytes
  body ← until (codes "--") open_mark.1
  close ← literal (codes ">") body.1
  Ok (comment body.0, close.1)

unfoldable pub opening_at : List ℕ → Step Token
opening_at bytes = do
  mark ← literal (codes "[CDATA[") bytes
  Ok (opening, mark.1)

unfoldable pub doctype_at : List ℕ → Step Token
doctype_at bytes = do
  open_mark ← literal (codes "DOCTYPE") bytes
  body ← skim Outside open_mark.1
  if is_named body.0 then Ok (doctype body.0, body.1) else Err Never

unfoldable pub declaration_at : List ℕ → Step Token
declaration_at [] = Err More
declaration_at (b ∷ bytes) =
    if b == 45 then comment_at (b ∷ bytes)
    else if b == 68 then doctype_at (b ∷ bytes)
    else opening_at (b ∷ bytes)

-- what follows <
unfoldable pub markup_at : List ℕ → Step Token
markup_at [] = Err More
markup_at (b ∷ bytes) =
    if b == 47 then end_at bytes
    else if b == 33 then declaration_at bytes
    else if b == 63 then instruction_at bytes
    else start_at (b ∷ bytes)

unfoldable pub reference_at : List ℕ → Step Token
reference_at bytes = do
  body ← run is_reference_byte bytes
  close ← literal (codes ";") body.1
  if is_reference body.0 then Ok (reference body.0, close.1) else Err Never

-- the token that bytes outside of sections begin with, and the bytes behind it
unfoldable pub outside_at : List ℕ → Step Token
outside_at [] = Err More
outside_at (b ∷ bytes) =
    if b == 60 then markup_at bytes
    else if b == 38 then reference_at bytes
    else Ok (raw b, bytes)

-- the same in a section, by the number of closing brackets of it before that
unfoldable pub section_at : ℕ → List ℕ → Step Token
section_at n [] = Err More
section_at n (b ∷ bytes) = Ok (section_byte n b, bytes)

-- the same in a section, if they stand in one
unfoldable pub token_at : Option ℕ → List ℕ → Step Token
token_at None bytes = outside_at bytes
token_at (Some n) bytes = section_at n bytes
