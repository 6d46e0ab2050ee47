-- A message that is read token by token, of which each Header and Product is handed on as an
-- outline.
use Rattle.std.specs.Prelude.{ℕ, Bool, true, false, ◌&&◌, List, [], ◌∷◌, Option, Some, None, Result}
use Rattle.std.specs.Prelude.{Ok, Err, if◌then◌else◌}
use Rattle.feed_xml.specs.Grammar.{Attribute, Token}
use Rattle.feed_outline.specs.declared.dialect.Wrong.{Wrong}
use Rattle.feed_outline.specs.Dialect.{Dialect, dialect_of, counted}
use Rattle.feed_outline.specs.Names.{Word}
use Rattle.feed_outline.specs.Nodes.{Said, speaks, opens, stands, closes, said, tag_of}
use Rattle.feed_outline.specs.Outline.{Line}
use Rattle.feed_outline.specs.private.Growing.{Growing, no_lines, opened, closed, texted, is_idle}
use Rattle.feed_outline.specs.private.Growing.{scopes_of}
use Rattle.feed_outline.specs.Namespaces.{bindings_of}
use Rattle.feed_outline.specs.Sizes.{is_small, lines_size}

-- who takes the outlines, what the root told once it was begun, the child of it that grows, and
-- whether each reference so far stands for something
pub record Feed (T : Type 0) : Type 0 where
  pub taker : T
  pub root : Option (Result Dialect Wrong)
  pub child : Growing
  pub known : Bool

abbrev pub feeding : {T : Type 0}
    → T → Option (Result Dialect Wrong) → Growing → Bool → Feed T
feeding taker root child known =
    record { taker = taker; root = root; child = child; known = known }

-- the lines of a child of the root are handed on
abbrev pub handed : {T : Type 0} → (T → List Line → T) → T → List Line → T
handed after taker [] = taker
handed after taker (l ∷ lines) = after taker (l ∷ lines)

-- a child of the root is not too large so far
abbrev pub fits : Growing → Bool
fits g = is_small (lines_size g.lines)

-- behind the end of an element, which may be that of a child of the root; one that is too large is
-- kept
abbrev pub settled : {T : Type 0} → (T → List Line → T) → Feed T → Growing → Feed T
settled after f g =
    if is_idle g && fits g
    then feeding (handed after f.taker g.lines) f.root no_lines f.known
    else feeding f.taker f.root g f.known

-- the tag of an element, of which the first is the root
abbrev pub begun : {T : Type 0}
    → List Word → Option (Result Dialect Wrong) → List ℕ → List Attribute → Feed T → Feed T
begun vocabulary None name attributes f =
    feeding f.taker (Some (dialect_of name attributes)) f.child f.known
begun vocabulary (Some (Err wrong)) name attributes f = f
begun vocabulary (Some (Ok d)) name attributes f =
    let bindings = bindings_of attributes in
    let found = counted vocabulary d (scopes_of f.child.opens) name bindings in
    feeding f.taker f.root
    (opened f.child.passed found (tag_of attributes) bindings f.child) f.known

abbrev pub ended : {T : Type 0}
    → (T → List Line → T) → Option (Result Dialect Wrong) → Feed T → Feed T
ended after None f = f
ended after (Some (Err wrong)) f = f
ended after (Some (Ok d)) f = settled after f (closed f.child.passed f.child)

-- an empty element; an empty root has no end of its own
abbrev pub emptied : {T : Type 0}
    → List Word → (T → List Line → T) → Option (Result Dialect Wrong) → List ℕ → List Attribute
    → Feed T → Feed T
emptied vocabulary after None name attributes f = begun vocabulary None name attributes f
emptied vocabulary after (Some root) name attributes f =
    ended after (Some root) (begun vocabulary (Some root) name attributes f)

-- text, which outside of the root of a message is none
abbrev pub said_in : Option (Result Dialect Wrong) → List ℕ → Growing → Growing
said_in None text g = g
said_in (Some (Err wrong)) text g = g
said_in (Some (Ok d)) text g = texted g.passed text g

abbrev pub spoken : {T : Type 0} → Option (Result Dialect Wrong) → List ℕ → Bool → Feed T → Feed T
spoken root text known f =
    feeding f.taker f.root (said_in root text f.child) (known && f.known)

-- what a token makes of what was taken of a message so far
abbrev pub feed_said : {T : Type 0} → List Word → (T → List Line → T) → Feed T → Said → Feed T
feed_said vocabulary after f (speaks text known) = spoken f.root text known f
feed_said vocabulary after f (opens name attributes) = begun vocabulary f.root name attributes f
feed_said vocabulary after f (stands name attributes) =
    emptied vocabulary after f.root name attributes f
feed_said vocabulary after f closes = ended after f.root f

abbrev pub feed : {T : Type 0} → List Word → (T → List Line → T) → Feed T → Token → Feed T
feed vocabulary after f token = feed_said vocabulary after f (said token)

abbrev pub first_feed : {T : Type 0} → T → Feed T
first_feed taker = feeding taker None no_lines true

-- no more tokens are taken once the root is none of a message, a reference stands for nothing or a
-- child of the root is too large
abbrev pub takes_more_with : Option (Result Dialect Wrong) → Bool → Bool → Bool
takes_more_with None known small = true
takes_more_with (Some (Err wrong)) known small = false
takes_more_with (Some (Ok d)) known small = known && small

-- a message goes on while its root may be one, each reference stands for something and no child of
-- the root is too large
abbrev pub takes_more : {T : Type 0} → Feed T → Bool
takes_more f = takes_more_with f.root f.known (fits f.child)
