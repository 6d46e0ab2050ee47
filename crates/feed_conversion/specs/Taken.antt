-- Which texts the desk takes as the messages of a feed.
use Rattle.std.specs.Prelude.{◌≡◌, ◌≤◌, ℕ, suc, List, [], ◌∷◌, ⊤, Some, IsUtf8, length, map}
use Rattle.csv_records.specs.RecordTexts.{limit, records_of}
use Rattle.onix_records.specs.Grammar.{IsMessage}
use Rattle.onix_records.specs.declared.parts.Header.{Header}
use Rattle.onix_records.specs.declared.parts.Product.{Product}

-- The desk takes this text as the message of this number: it is UTF-8 and within the limit, and the
-- records that are read of it are such a message, with its header and its contents, which are
-- products of these references; a message has at most 20,000 records.
pub record IsTaken (number : ℕ) (text : List ℕ) (references : List (List ℕ)) : Type 0 where
  pub utf8 : IsUtf8 text
  pub within : length text ≤ limit
  pub header : Header
  pub products : List Product
  pub message : IsMessage (records_of text) header products
  pub numbered : header.number ≡ Some number
  pub named : map (λ p. p.reference) products ≡ references

-- it takes each of these texts, the first as the message of this number and each later one as that
-- of the next, with products of these references; behind those it has none
abbrev pub AreTaken : ℕ → List (List ℕ) → List (List (List ℕ)) → Type 0
AreTaken number [] references = ⊤
AreTaken number (text ∷ texts) [] = IsTaken number text [] × AreTaken (suc number) texts []
AreTaken number (text ∷ texts) (own ∷ references) =
    IsTaken number text own × AreTaken (suc number) texts references
