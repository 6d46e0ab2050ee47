use Rattle.std.proofs.Common.{◌≡◌, ◌∷◌, [], ℕ, List, Option, Some, None, length, refl}
use Rattle.std.specs.Prelude.{◌&&◌, ◌==◌}
use Rattle.std.specs.Char.{is_ascii_uppercase}
use Rattle.std.specs.List.{list_all}
use Rattle.std.specs.Str.{IsUtf8}
use Rattle.std.proofs.lemmas.Bool.{and_parts}
use Rattle.std.proofs.lemmas.Option.{cond_some}
use Rattle.std.proofs.lemmas.Str.{IsUtf8-from_ascii}
use Rattle.onix_terms.proofs.AsciiTexts.{ascii-all, capitals-ascii}
use Rattle.onix_terms.specs.Code.{country_of}
use Rattle.feed_mapping.proofs.unions.country_of.Goals as goal

-- the code of a country is ASCII
no-country : (text : List ℕ) → (IsUtf8 text → ⊥) → None ≡ country_of text
no-country text never = go (country_of text) refl
  where
    go : (o : Option (List ℕ)) → country_of text ≡ o → None ≡ o
    go None is = refl
    go (Some code) is =
        let both = cond_some ((length text == 2) && list_all is_ascii_uppercase text) text code is in
        let all = and_parts (length text == 2) (list_all is_ascii_uppercase text) both.0 in
        absurd (never (IsUtf8-from_ascii text (ascii-all is_ascii_uppercase capitals-ascii text all.1)))

pub returns-in-Err : goal.returns-in-Err
returns-in-Err c = no-country (c.args.first ∷ c.args.second ∷ []) c.in-Err.ensures.cases.0
