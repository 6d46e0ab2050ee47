-- A document as a tree.
use Rattle.std.specs.Prelude.{◌≡◌, ℕ, true, ◌==◌, ◌&&◌, Option, Some, None, List, [], ◌∷◌, ◌++◌}
use Rattle.std.specs.Prelude.{option_and_then, option_map, if◌then◌else◌}
use Rattle.std.specs.List.{AllByRecursion, list_all}
use Rattle.feed_xml.specs.declared.place.Tail.{Tail}
use Rattle.feed_xml.specs.declared.place.Tail.TheVariants.{Text, Section}
use Rattle.feed_xml.specs.Distinct.{has_distinct}
use Rattle.feed_xml.specs.Grammar.{is_space, Token, raw, opening, bracket, cdata, comment}
use Rattle.feed_xml.specs.Grammar.{instruction, declaration, doctype, start, empty, end, is_token}
use Rattle.feed_xml.specs.Sections.{ends_section, with_bracket}
use Rattle.feed_xml.specs.Tree.{Content, nothing, tokens_of, HasLeaves}

-- what may stand behind the root: white space, comments and instructions
abbrev pub IsMisc : Token → Type 0
IsMisc (raw b) = is_space b ≡ true
IsMisc (comment body) = Unit {0}
IsMisc (instruction body) = Unit {0}
IsMisc other = ⊥

-- such tokens, and one DOCTYPE at most
abbrev pub AreTyped : List Token → Type 0
AreTyped [] = Unit {0}
AreTyped (doctype body ∷ tokens) = AllByRecursion IsMisc tokens
AreTyped (token ∷ tokens) = IsMisc token × AreTyped tokens

-- what may stand before it: these, and the declaration at the front
abbrev pub IsProlog : List Token → Type 0
IsProlog (declaration body ∷ tokens) = AreTyped tokens
IsProlog tokens = AreTyped tokens

-- the tokens of a root element with its tags, or of an empty one
abbrev pub IsRoot : List Token → List ℕ → Content → Type 0
IsRoot [] name inside = ⊥
IsRoot (start n attributes space ∷ tokens) name inside =
    (n ≡ name) × ((closing : List ℕ) × (tokens ≡ tokens_of inside ++ end name closing ∷ []))
IsRoot (empty n attributes space ∷ tokens) name inside =
    (n ≡ name) × (inside ≡ nothing) × (tokens ≡ [])
IsRoot (other ∷ tokens) name inside = ⊥

-- the tokens are a root of this name with this content, and what may stand before and behind it
pub record IsTree (tokens : List Token) (name : List ℕ) (inside : Content) : Type 0 where
  pub before : List Token
  pub root : List Token
  pub behind : List Token
  pub parts : tokens ≡ before ++ (root ++ behind)
  pub is_root : IsRoot root name inside
  pub leaves : HasLeaves inside
  pub prolog : IsProlog before
  pub misc : AllByRecursion IsMisc behind

-- How many closing brackets of a text stand before its next byte, two at most. In a text no >
-- stands behind two of them.
abbrev pub next_brackets : ℕ → ℕ → Option ℕ
next_brackets n b =
    if b == 93 then Some (with_bracket n)
    else if (b == 62) && (n == 2) then None
    else Some 0

-- behind a byte of a section that is no closing bracket
abbrev pub tail_in : ℕ → ℕ → Tail
tail_in n b = if ends_section n b then Text 0 else Section 0

-- What stands before the next token: the number of closing brackets of a text, two at most, or a
-- section that is open, and the number of them in it. A section has nothing in it but its bytes,
-- each of which tells the brackets before it, and they stand in no text.
abbrev pub next_tail : Tail → Token → Option Tail
next_tail (Text n) (raw b) = option_map Text (next_brackets n b)
next_tail (Text n) opening = Some (Section 0)
next_tail (Text n) (bracket m) = None
next_tail (Text n) (cdata m b) = None
next_tail (Text n) other = Some (Text 0)
next_tail (Section n) (bracket m) = if n == m then Some (Section (with_bracket n)) else None
next_tail (Section n) (cdata m b) = if n == m then Some (tail_in n b) else None
next_tail (Section n) other = None

-- the same behind these tokens, or none where one of them may not stand
abbrev pub tail_after : Tail → List Token → Option Tail
tail_after tail [] = Some tail
tail_after tail (token ∷ tokens) =
    option_and_then (λ next. tail_after next tokens) (next_tail tail token)

-- The tokens are those of a document: a tree, of which each token is well formed, the attributes of
-- each tag have names of their own, no text has ]]>, and each section ends.
pub record AreDocument (tokens : List Token) : Type 0 where
  pub each : list_all is_token tokens ≡ true
  pub distinct : list_all has_distinct tokens ≡ true
  pub apart : tail_after (Text 0) tokens ≡ Some (Text 0)
  pub name : List ℕ
  pub inside : Content
  pub tree : IsTree tokens name inside
