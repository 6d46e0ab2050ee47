-- What goes beyond what is taken.
use Rattle.std.specs.Prelude.{◌≡◌, ◌<◌, ◌≤◌, ℕ, suc, ◌-◌, true, List, ◌++◌, length, None}
use Rattle.std.specs.Prelude.{fold}
use Rattle.std.specs.List.{flat_map, list_all}
use Rattle.feed_xml.specs.Distinct.{is_large}
use Rattle.feed_xml.specs.Grammar.{Token, start, end, spelling, is_token}
use Rattle.feed_xml.specs.Pieces.{HasNoToken}
use Rattle.feed_xml.specs.Sections.{AreIn, section_past}

-- what may be said of the first tokens of a text and of what follows them
abbrev pub Bound : Type 1
Bound = List Token → List ℕ → Type 0

-- The bytes begin with these tokens, each well formed and in the section, if any, that those before
-- it leave open, and there and of the rest this holds.
abbrev pub Meets : Bound → List Token → List ℕ → Type 0
Meets Limit tokens bytes =
    (rest : List ℕ) × (bytes ≡ flat_map spelling tokens ++ rest)
    × (list_all is_token tokens ≡ true) × AreIn None tokens × Limit tokens rest

-- the bytes begin with these tokens
abbrev pub BeginsWith : List Token → List ℕ → Type 0
BeginsWith = Meets (λ tokens rest. Unit {0})

-- the rest begins with this token
abbrev pub Follows : Token → List ℕ → Type 0
Follows token rest = (more : List ℕ) × (rest ≡ spelling token ++ more) × (is_token token ≡ true)

-- how many elements are open behind a token
abbrev pub open_behind : ℕ → Token → ℕ
open_behind n (start name attributes space) = suc n
open_behind n (end name space) = n - 1
open_behind n other = n

abbrev pub IsStart : Token → Type 0
IsStart (start name attributes space) = Unit {0}
IsStart other = ⊥

-- 1,000 elements are open, and the start tag of another one follows
abbrev pub IsDeep : Bound
IsDeep tokens rest =
    (tag : Token) × IsStart tag × Follows tag rest × (1000 ≤ fold open_behind 0 tokens)

-- a tag follows with more attributes, or more bytes of them, than are taken
abbrev pub IsLarge : Bound
IsLarge tokens rest = (tag : Token) × Follows tag rest × (is_large tag ≡ true)

-- more than 4,194,304 bytes follow that begin with no token
abbrev pub IsLong : Bound
IsLong tokens rest =
    (front : List ℕ) × (more : List ℕ) × (rest ≡ front ++ more) × (4194304 < length front)
    × HasNoToken (section_past tokens) front
