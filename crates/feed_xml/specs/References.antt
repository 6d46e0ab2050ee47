-- What references stand for.
use Rattle.std.specs.Prelude.{ℕ, ◌==◌, List, [], ◌∷◌, Option, Some, None, codes}
use Rattle.std.specs.Prelude.{if◌then◌else◌, encode_utf8, ◌++◌, option_map}
use Rattle.std.specs.Option.{option_or}
use Rattle.std.specs.Result.{result_ok}
use Rattle.std.specs.Str.{bytes_eq}
use Rattle.feed_xml.specs.Characters.{is_char, number_code}
use Rattle.feed_xml.specs.Grammar.{is_reference}
use Rattle.feed_xml.specs.HtmlNames.{html_names}
use Rattle.feed_xml.specs.Steps.{Step, ◌>>=◌, until}
use Rattle.feed_xml.specs.Tables.{entry}

abbrev pub char_text : ℕ → Option (List ℕ)
char_text c = if is_char c then Some (encode_utf8 c) else None

module _ (name : List ℕ) where
  -- what stands in a list of names behind the first reference to this one, up to the next space
  unfoldable pub listed : List ℕ → Step (List ℕ)
  listed list = do
    found ← until (38 ∷ (name ++ 59 ∷ [])) list
    until (32 ∷ []) found.1

  -- the characters that XML itself gives a name (4.6)
  abbrev pub xml_entity : Option (List ℕ)
  xml_entity =
      entry (λ key. bytes_eq name (codes key)) (("amp", codes "&") ∷ ("lt", codes "<")
      ∷ ("gt", codes ">") ∷ ("quot", codes "\"") ∷ ("apos", codes "'") ∷ [])

  -- the characters that XML or HTML gives a name
  unfoldable pub named_text : Option (List ℕ)
  named_text =
      option_or xml_entity
      (option_map (λ x. x.0) (result_ok (listed (html_names name))))

-- what stands for the body of a reference: the character of that number, or those of that name
abbrev pub standing_text : List ℕ → Option (List ℕ)
standing_text [] = None
standing_text (b ∷ body) = if b == 35 then char_text (number_code body) else named_text (b ∷ body)

-- the same of any bytes; those that are no body of a reference stand for nothing
abbrev pub reference_text : List ℕ → Option (List ℕ)
reference_text body = if is_reference body then standing_text body else None
