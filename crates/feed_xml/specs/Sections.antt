-- CDATA sections, byte by byte.
use Rattle.std.specs.Prelude.{◌≡◌, ℕ, suc, Bool, ◌&&◌, ◌==◌, nat_lt, List, [], ◌∷◌, ◌++◌, codes}
use Rattle.std.specs.Prelude.{Option, Some, None, fold, if◌then◌else◌}
use Rattle.feed_xml.specs.Grammar.{Token, opening, bracket, cdata}

-- one closing bracket more, two at most
abbrev pub with_bracket : ℕ → ℕ
with_bracket n = if nat_lt n 2 then suc n else n

-- a > behind two closing brackets ends a section
abbrev pub ends_section : ℕ → ℕ → Bool
ends_section n b = (n == 2) && (b == 62)

-- a byte of a section, by the number of closing brackets before it
abbrev pub section_byte : ℕ → ℕ → Token
section_byte n b = if b == 93 then bracket n else cdata n b

-- in what section a token stands: behind how many closing brackets of it, if it stands in one
abbrev pub section_around : Token → Option ℕ
section_around (bracket n) = Some n
section_around (cdata n b) = Some n
section_around other = None

-- the same of what follows the token
abbrev pub section_behind : Token → Option ℕ
section_behind opening = Some 0
section_behind (bracket n) = Some (with_bracket n)
section_behind (cdata n b) = if ends_section n b then None else Some 0
section_behind other = None

-- the same of what follows tokens from the beginning of a text on
abbrev pub section_past : List Token → Option ℕ
section_past tokens = fold (λ section token. section_behind token) None tokens

-- each token stands where the one before it leads, the first one in this section
abbrev pub AreIn : Option ℕ → List Token → Type 0
AreIn section [] = Unit {0}
AreIn section (token ∷ tokens) =
    (section_around token ≡ section) × AreIn (section_behind token) tokens

-- ---- what the bytes of a section stand for

-- What a closing bracket stands for, by the number of them before it. Two may be the beginning of
-- the end: a third one tells that the first is text.
abbrev pub bracket_text : ℕ → List ℕ
bracket_text n = if n == 2 then codes "]" else []

-- closing brackets that may be the beginning of the end, two at most
abbrev pub held_text : ℕ → List ℕ
held_text n = if n == 0 then [] else if n == 1 then codes "]" else codes "]]"

-- what any other byte stands for: the closing brackets before it, which are no beginning of
-- the end, and itself, unless it ends the section
abbrev pub section_text : ℕ → ℕ → List ℕ
section_text n b = if ends_section n b then [] else held_text n ++ b ∷ []
