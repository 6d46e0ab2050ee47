-- A reference to a name in a list of names.
use Rattle.std.specs.Prelude.{ℕ, List, [], ◌∷◌, Option, Result, Ok, option_map}
use Rattle.std.specs.Result.{result_ok}
use Rattle.feed_xml.specs.declared.stop.Stop.{Stop}
use Rattle.feed_xml.specs.Steps.{Step, ◌>>=◌, literal, until}

-- what follows a reference to that name, which the text begins with
unfoldable pub past_reference : List ℕ → List ℕ → Result (List ℕ) Stop
past_reference name text = do
  mark ← literal (38 ∷ []) text
  body ← literal name mark.1
  close ← literal (59 ∷ []) body.1
  Ok close.1

-- what was found
abbrev pub word_of : Step (List ℕ) → Option (List ℕ)
word_of found = option_map (λ x. x.0) (result_ok found)

-- the text up to the next space
abbrev pub word : List ℕ → Option (List ℕ)
word text = word_of (until (32 ∷ []) text)
