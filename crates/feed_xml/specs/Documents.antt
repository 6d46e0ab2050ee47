-- Documents.
use Rattle.std.specs.Prelude.{◌≡◌, ℕ, List}
use Rattle.std.specs.List.{flat_map}
use Rattle.feed_xml.specs.Grammar.{Token, spelling}
use Rattle.feed_xml.specs.Texts.{IsText}
use Rattle.feed_xml.specs.Trees.{AreDocument}

-- the bytes are a text, and these tokens from its beginning to its end
pub record IsDocument (bytes : List ℕ) (tokens : List Token) : Type 0 where
  pub text : IsText bytes
  pub spelled : bytes ≡ flat_map spelling tokens
  pub are : AreDocument tokens

module _ (bytes : List ℕ) where
  -- the bytes are no text
  abbrev pub IsNoText : Type 0
  IsNoText = ¬ (IsText bytes)

  -- the bytes are no document
  abbrev pub IsNoDocument : Type 0
  IsNoDocument = (tokens : List Token) → ¬ (IsDocument bytes tokens)
