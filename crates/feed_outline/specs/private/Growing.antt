-- The outline of one child of the root, as it grows from token to token.
use Rattle.std.specs.Prelude.{ℕ, zero, suc, Bool, true, false, List, [], ◌∷◌, ◌++◌, length, map}
use Rattle.std.specs.Prelude.{Option, Some, None, fold, if◌then◌else◌, unwrap_or}
use Rattle.feed_xml.specs.Grammar.{is_filled, is_space}
use Rattle.feed_outline.specs.Namespaces.{Binding, Scope, scope}
use Rattle.feed_outline.specs.Nodes.{Tag}
use Rattle.feed_outline.specs.Outline.{Line, line}

-- an open element: where its line is, whether white space stands at the end of its text so far, and
-- what it is to those below it
pub record Open : Type 0 where
  pub at : ℕ
  pub waits : Bool
  pub scope : Scope

abbrev pub open_at : ℕ → Bool → Scope → Open
open_at at waits scope = record { at = at; waits = waits; scope = scope }

-- the elements around what comes next, the innermost first
abbrev pub scopes_of : List Open → List Scope
scopes_of opens = map (λ o. o.scope) opens

-- the lines so far, those whose elements are open, the innermost first, and how many elements are
-- open from the one on that is passed over
pub record Growing : Type 0 where
  pub lines : List Line
  pub opens : List Open
  pub passed : ℕ

abbrev pub growing : List Line → List Open → ℕ → Growing
growing lines opens passed = record { lines = lines; opens = opens; passed = passed }

abbrev pub no_lines : Growing
no_lines = growing [] [] 0

abbrev pub change : (Line → Line) → ℕ → List Line → List Line
change f at [] = []
change f zero (l ∷ lines) = f l ∷ lines
change f (suc at) (l ∷ lines) = l ∷ change f at lines

-- the words of a text, with a space before each but the first; `waits` says whether white space
-- came since the last word, `began` whether a word came
abbrev pub words : Bool → Bool → List ℕ → List ℕ
words began waits [] = []
words began waits (b ∷ text) =
    if is_space b then words began true text
    else if began then (if waits then 32 ∷ b ∷ words true false text else b ∷ words true false text)
    else b ∷ words true false text

-- a text with more of it, behind white space or not: each run of white space in it becomes one
-- space, and none stands at the ends
abbrev pub grown : List ℕ → Bool → List ℕ → List ℕ
grown text waits more = text ++ words (is_filled text) waits more

-- whether white space stands at the end
abbrev pub waits_behind : Bool → List ℕ → Bool
waits_behind waits text = fold (λ w b. is_space b) waits text

abbrev pub longer : Bool → List ℕ → Line → Line
longer waits text l = line l.depth l.name l.tag (grown l.text waits text)

abbrev pub outer : List Open → List Open
outer [] = []
outer (o ∷ more) = more

-- an element begins, with this name where it counts
abbrev pub opened : ℕ → Option (List ℕ) → Tag → List Binding → Growing → Growing
opened (suc passed) name tag bindings g = growing g.lines g.opens (suc (suc passed))
opened zero None tag bindings g = growing g.lines g.opens 1
opened zero (Some name) tag bindings g =
    growing (g.lines ++ line (length g.opens) name tag [] ∷ [])
    (open_at (length g.lines) false (scope name bindings) ∷ g.opens) 0

-- the innermost element ends
abbrev pub closed : ℕ → Growing → Growing
closed (suc passed) g = growing g.lines g.opens passed
closed zero g = growing g.lines (outer g.opens) 0

abbrev pub innermost_texted : List Open → List ℕ → Growing → Growing
innermost_texted [] text g = growing g.lines [] 0
innermost_texted (o ∷ more) text g =
    growing (change (longer o.waits text) o.at g.lines)
    (open_at o.at (waits_behind o.waits text) o.scope ∷ more) 0

-- text comes
abbrev pub texted : ℕ → List ℕ → Growing → Growing
texted (suc passed) text g = g
texted zero text g = innermost_texted g.opens text g

abbrev pub is_nothing : List Open → Bool
is_nothing [] = true
is_nothing (o ∷ more) = false

abbrev pub is_idle_at : ℕ → List Open → Bool
is_idle_at (suc passed) opens = false
is_idle_at zero opens = is_nothing opens

-- no element is open
abbrev pub is_idle : Growing → Bool
is_idle g = is_idle_at g.passed g.opens

-- ---- tags and their sizes

abbrev pub tagged : Option (List ℕ) → Tag
tagged format = record { format = format }

abbrev pub format_size : Option (List ℕ) → ℕ
format_size format = length (unwrap_or format [])
