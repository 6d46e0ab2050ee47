-- Of which files the texts are that were delivered.
use Rattle.std.proofs.Common.{◌≢◌, ◌++◌, ◌∷◌, ℕ, List, [], Option, None, Some, codes, refl, sym, subst, append_assoc, map}
use Rattle.std.specs.Borrow.{Bor}
use Rattle.csv_records.specs.Streams.{IsTold}
use Rattle.program_files.specs.Holdings.{Holdings}
use Rattle.program_commands.specs.Deliveries.{AreTexts, IsTextOf}

-- there is a text that is told
pub told_text : (told : Option (List ℕ)) → (text : List ℕ) × IsTold told text
told_text None = ([], tt)
told_text (Some text) = (text, refl)

-- the text of a file that is not the input, which tells what it told
pub text_of_file : (holds : Holdings) (told : Option (List ℕ)) (name text : List ℕ) → name ≢ codes "-" → IsTold (holds name) text → IsTextOf holds told told name text
text_of_file holds told name text other is = (λ same. absurd (other same), λ differs. (is, refl))

-- the names that are lent
abbrev pub names_of : List (Bor (List ℕ)) → List (List ℕ)
names_of names = map (λ (name : Bor (List ℕ)). name.now) names

module _ (holds : Holdings) where
  -- whatever texts of the other files follow these, they are the texts of the files. Told, now: what the input told at first, and tells
  abbrev pub AreFollowed : Option (List ℕ) → Option (List ℕ) → List (List ℕ) → List (List ℕ) → List (List ℕ) → Type 0
  AreFollowed told now names others texts = (rest : List (List ℕ)) → AreTexts holds now others rest → AreTexts holds told names (texts ++ rest)

  -- with one text more
  pub followed_more : (told now left : Option (List ℕ)) (names others : List (List ℕ)) (name : List ℕ) (texts : List (List ℕ)) (text : List ℕ) → AreFollowed told now names (name ∷ others) texts → IsTextOf holds now left name text
      → AreFollowed told left names others (texts ++ text ∷ [])
  followed_more told now left names others name texts text follow is rest are =
      subst (AreTexts holds told names) (sym (append_assoc texts (text ∷ []) rest)) (follow (text ∷ rest) (left, is, are))

  -- the texts alone
  pub texts_alone : (told now : Option (List ℕ)) (names others texts : List (List ℕ)) → AreFollowed told now names others texts → AreTexts holds told names (texts ++ [])
  texts_alone told now names others texts follow = follow [] tt
