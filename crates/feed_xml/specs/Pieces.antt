-- What bytes begin with.
use Rattle.std.specs.Prelude.{◌≡◌, ◌<◌, ℕ, true, List, ◌++◌, length, Option}
use Rattle.std.specs.List.{flat_map, list_all}
use Rattle.feed_xml.specs.declared.stop.Stop.{Stop}
use Rattle.feed_xml.specs.declared.stop.Stop.TheVariants.{More, Never}
use Rattle.feed_xml.specs.Grammar.{Token, spelling, is_token}
use Rattle.feed_xml.specs.Sections.{AreIn, section_around}

-- the bytes, which stand in this section, if in one, are these tokens and then the rest
pub record Begins (section : Option ℕ) (bytes : List ℕ) (tokens : List Token) (rest : List ℕ)
    : Type 0 where
  pub spelled : bytes ≡ flat_map spelling tokens ++ rest
  pub each : list_all is_token tokens ≡ true
  pub within : AreIn section tokens
  pub some : length rest < length bytes

-- the bytes, which stand in this section, if in one, begin with no token
abbrev pub HasNoToken : Option ℕ → List ℕ → Type 0
HasNoToken section bytes =
    (token : Token) (rest : List ℕ) → is_token token ≡ true → section_around token ≡ section
    → ¬ (bytes ≡ spelling token ++ rest)

-- `More`: with no token as yet. `Never`: with none whatever follows.
abbrev pub Explains : Option ℕ → Stop → List ℕ → Type 0
Explains section More bytes = HasNoToken section bytes
Explains section Never bytes = (more : List ℕ) → HasNoToken section (bytes ++ more)
