-- Where tokens may stand, token by token.
use Rattle.std.specs.Prelude.{◌≡◌, ℕ, Bool, true, false, not, ◌&&◌, ◌==◌, List, [], ◌∷◌}
use Rattle.std.specs.Prelude.{Option, Some, None, option_map, option_and_then, if◌then◌else◌}
use Rattle.std.specs.List.{flat_map, list_all}
use Rattle.std.specs.Str.{bytes_eq}
use Rattle.feed_xml.specs.declared.nesting.Nesting.{Nesting}
use Rattle.feed_xml.specs.declared.place.Place.{Place}
use Rattle.feed_xml.specs.declared.place.Prolog.{Prolog}
use Rattle.feed_xml.specs.declared.place.Prolog.TheVariants.{Front, Open, Closed}
use Rattle.feed_xml.specs.declared.place.Tail.{Tail}
use Rattle.feed_xml.specs.declared.place.Tail.TheVariants.{Text, Section}
use Rattle.feed_xml.specs.Texts.{IsText}
use Rattle.feed_xml.specs.Distinct.{has_distinct}
use Rattle.feed_xml.specs.Grammar.{is_space, Token, raw, reference, opening, bracket, cdata, comment}
use Rattle.feed_xml.specs.Grammar.{instruction, declaration, doctype, start, empty, end, spelling}
use Rattle.feed_xml.specs.Grammar.{is_token}
use Rattle.feed_xml.specs.Trees.{next_brackets, tail_after}

abbrev pub is_nothing : List (List ℕ) → Bool
is_nothing [] = true
is_nothing (name ∷ names) = false

-- the innermost element is closed by its own name
abbrev pub closed : List ℕ → List (List ℕ) → Option (List (List ℕ))
closed name [] = None
closed name (inner ∷ outer) = if bytes_eq inner name then Some outer else None

-- the root was closed
abbrev pub is_closed : Nesting → Bool
is_closed p = p.begun && is_nothing p.names

-- an element is opened, unless the root was closed
abbrev pub opened : List ℕ → Nesting → Option Nesting
opened name p = if is_closed p then None else Some (record { names = name ∷ p.names; begun = true })

-- A token takes one nesting of elements to the next. Outside of the root stand only white space,
-- comments and instructions; there is one root; each end tag has the name of the start tag that it
-- closes.
abbrev pub nested : Nesting → Token → Option Nesting
nested p (raw b) = if is_nothing p.names && not (is_space b) then None else Some p
nested p (reference body) = if is_nothing p.names then None else Some p
nested p opening = if is_nothing p.names then None else Some p
nested p (bracket n) = if is_nothing p.names then None else Some p
nested p (cdata n b) = if is_nothing p.names then None else Some p
nested p (comment body) = Some p
nested p (instruction body) = Some p
nested p (declaration body) = if p.begun then None else Some p
nested p (doctype body) = if p.begun then None else Some p
nested p (start name attributes space) = opened name p
nested p (empty name attributes space) =
    if is_closed p then None else Some (record { names = p.names; begun = true })
nested p (end name space) =
    option_map (λ outer. record { names = outer; begun = p.begun }) (closed name p.names)

abbrev pub nests : Nesting → List Token → Option Nesting
nests p [] = Some p
nests p (token ∷ tokens) = option_and_then (λ q. nests q tokens) (nested p token)

-- a declaration comes first
abbrev pub declared : Prolog → Option Prolog
declared Front = Some Open
declared other = None

-- a DOCTYPE comes before the root, and once
abbrev pub typed : Prolog → Option Prolog
typed Closed = None
typed other = Some Closed

abbrev pub further : Prolog → Prolog
further Closed = Closed
further other = Open

-- What may still come before the root, behind a token. Behind the root's tag neither may.
abbrev pub ordered : Prolog → Token → Option Prolog
ordered p (declaration body) = declared p
ordered p (doctype body) = typed p
ordered p (start name attributes space) = Some Closed
ordered p (empty name attributes space) = Some Closed
ordered p other = Some (further p)

-- the same behind these tokens
abbrev pub prolog_after : Prolog → List Token → Option Prolog
prolog_after p [] = Some p
prolog_after p (token ∷ tokens) = option_and_then (λ q. prolog_after q tokens) (ordered p token)

-- how many closing brackets of a text stand behind these bytes of it, or none where a > stands
-- behind two of them
abbrev pub brackets_after : ℕ → List ℕ → Option ℕ
brackets_after n [] = Some n
brackets_after n (b ∷ run) = option_and_then (λ m. brackets_after m run) (next_brackets n b)

-- in what section the next token stands
abbrev pub section_of : Tail → Option ℕ
section_of (Text n) = None
section_of (Section n) = Some n

abbrev pub place_from : Option Nesting → Option Tail → Option Prolog → Option Place
place_from (Some nesting) (Some tail) (Some prolog) =
    Some (record { nesting = nesting; tail = tail; prolog = prolog })
place_from (Some nesting) (Some tail) None = None
place_from (Some nesting) None prolog = None
place_from None tail prolog = None

-- Tokens take one place to another: so they are nested, their attributes have names of their own,
-- no text has ]]>, a section has nothing in it but its bytes, a declaration stands at the front
-- alone, and there is one DOCTYPE at most.
abbrev pub steps : Place → List Token → Option Place
steps p tokens =
    if list_all has_distinct tokens
    then place_from (nests p.nesting tokens) (tail_after p.tail tokens)
    (prolog_after p.prolog tokens)
    else None

abbrev pub first_nesting : Nesting
first_nesting = record { names = []; begun = false }

abbrev pub last_nesting : Nesting
last_nesting = record { names = []; begun = true }

-- where a document begins
abbrev pub first_place : Place
first_place = record { nesting = first_nesting; tail = Text 0; prolog = Front }

abbrev pub last_place : Place
last_place = record { nesting = last_nesting; tail = Text 0; prolog = Closed }

-- the root's tag was read
abbrev pub is_past : Prolog → Bool
is_past Closed = true
is_past other = false

-- no closing bracket of a text stands there, and no section is open
abbrev pub is_clear : Tail → Bool
is_clear (Text n) = n == 0
is_clear (Section n) = false

abbrev pub is_last : Place → Bool
is_last p = is_closed p.nesting && (is_clear p.tail && is_past p.prolog)

-- from this place on the bytes are these tokens, to where a document may end
pub record Completes (p : Place) (bytes : List ℕ) (tokens : List Token) : Type 0 where
  pub spelled : bytes ≡ flat_map spelling tokens
  pub each : list_all is_token tokens ≡ true
  pub ends : steps p tokens ≡ Some last_place

-- the bytes are a text, and these tokens from its beginning to its end
pub record IsComplete (bytes : List ℕ) (tokens : List Token) : Type 0 where
  pub text : IsText bytes
  pub spelled : bytes ≡ flat_map spelling tokens
  pub each : list_all is_token tokens ≡ true
  pub ends : steps first_place tokens ≡ Some last_place

-- no tokens are
abbrev pub IsNeverComplete : List ℕ → Type 0
IsNeverComplete bytes = (tokens : List Token) → ¬ (IsComplete bytes tokens)
