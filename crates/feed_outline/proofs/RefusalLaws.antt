-- What tokens tell of the root and of references, and which of them is refused.
use Rattle.std.proofs.Common.{◌≡◌, Bool, true, false, cond, List, [], ◌∷◌, ◌++◌, Option, Some, None, Result, Ok, Err, refl, ap, ◌∙◌, fold}
use Rattle.std.specs.Prelude.{◌&&◌}
use Rattle.std.specs.List.{list_all}
use Rattle.std.specs.Option.{option_or}
use Rattle.feed_outline.specs.Names.{Word}
use Rattle.feed_xml.specs.Grammar.{Token, raw, reference, opening, bracket, cdata, comment, instruction, declaration, doctype, start, empty, end}
use Rattle.feed_outline.specs.declared.dialect.Wrong.{Wrong}
use Rattle.feed_outline.specs.Dialect.{Dialect, counted}
use Rattle.feed_outline.specs.Namespaces.{bindings_of}
use Rattle.feed_outline.specs.Nodes.{Said, speaks, opens, stands, closes, said, is_known, tag_of}
use Rattle.feed_outline.specs.Outline.{Line}
use Rattle.feed_outline.specs.private.Growing.{Growing, scopes_of, no_lines, opened, closed, is_idle}
use Rattle.feed_outline.specs.private.Feed.{Feed, feeding, first_feed, handed, fits, settled, feed, feed_said}
use Rattle.feed_outline.specs.Roots.{root_in, root_of}
use Rattle.feed_outline.specs.private.Reasons.{RefusesReference, RefusesRoot}

-- ---- one token

-- what it says stands for something
abbrev known_in : Said → Bool
known_in (speaks text known) = known
known_in other = true

known_said : (token : Token) → known_in (said token) ≡ is_known token
known_said (raw b) = refl
known_said (reference body) = refl
known_said opening = refl
known_said (bracket count) = refl
known_said (cdata count byte) = refl
known_said (comment body) = refl
known_said (instruction body) = refl
known_said (declaration body) = refl
known_said (doctype body) = refl
known_said (start name attributes space) = refl
known_said (empty name attributes space) = refl
known_said (end name space) = refl

-- what a token tells
record Tells {T : Type 0} (r : Option (Result Dialect Wrong)) (k : Bool) (s : Said) (g : Feed T) : Type 0 where
  pub root : g.root ≡ option_or r (root_in s)
  pub known : g.known ≡ (known_in s && k)

-- the end of an element leaves both as they are
settled_tells : {T : Type 0} (after : T → List Line → T) (f : Feed T) (g : Growing) → (r : Option (Result Dialect Wrong)) (k : Bool) → f.root ≡ r → f.known ≡ k → ((settled after f g).root ≡ r) × ((settled after f g).known ≡ k)
settled_tells after f g r k root known = go (is_idle g && fits g)
  where
    go : (b : Bool) → ((cond b (feeding (handed after f.taker g.lines) f.root no_lines f.known) (feeding f.taker f.root g f.known)).root ≡ r) × ((cond b (feeding (handed after f.taker g.lines) f.root no_lines f.known) (feeding f.taker f.root g f.known)).known ≡ k)
    go true = (root, known)
    go false = (root, known)

said_tells : (vocabulary : List Word) {T : Type 0} (after : T → List Line → T) (t : T) (r : Option (Result Dialect Wrong)) (g : Growing) (k : Bool) (s : Said) → Tells r k s (feed_said vocabulary after (feeding t r g k) s)
said_tells vocabulary after t None g k (speaks text known) = record { root = refl; known = refl }
said_tells vocabulary after t None g k (opens name attributes) = record { root = refl; known = refl }
said_tells vocabulary after t None g k (stands name attributes) = record { root = refl; known = refl }
said_tells vocabulary after t None g k closes = record { root = refl; known = refl }
said_tells vocabulary after t (Some (Err w)) g k (speaks text known) = record { root = refl; known = refl }
said_tells vocabulary after t (Some (Err w)) g k (opens name attributes) = record { root = refl; known = refl }
said_tells vocabulary after t (Some (Err w)) g k (stands name attributes) = record { root = refl; known = refl }
said_tells vocabulary after t (Some (Err w)) g k closes = record { root = refl; known = refl }
said_tells vocabulary after t (Some (Ok d)) g k (speaks text known) = record { root = refl; known = refl }
said_tells vocabulary after t (Some (Ok d)) g k (opens name attributes) = record { root = refl; known = refl }
said_tells vocabulary after t (Some (Ok d)) g k (stands name attributes) =
    let o = opened g.passed (counted vocabulary d (scopes_of g.opens) name (bindings_of attributes)) (tag_of attributes) (bindings_of attributes) g in
    let s = settled_tells after (feeding t (Some (Ok d)) o k) (closed o.passed o) (Some (Ok d)) k refl refl in
    record { root = s.0; known = s.1 }
said_tells vocabulary after t (Some (Ok d)) g k closes =
    let s = settled_tells after (feeding t (Some (Ok d)) g k) (closed g.passed g) (Some (Ok d)) k refl refl in
    record { root = s.0; known = s.1 }

root_step : (vocabulary : List Word) {T : Type 0} (after : T → List Line → T) (f : Feed T) (token : Token) → (feed vocabulary after f token).root ≡ option_or f.root (root_in (said token))
root_step vocabulary after f token = (said_tells vocabulary after f.taker f.root f.child f.known (said token)).root

known_step : (vocabulary : List Word) {T : Type 0} (after : T → List Line → T) (f : Feed T) (token : Token) → (feed vocabulary after f token).known ≡ (is_known token && f.known)
known_step vocabulary after f token = (said_tells vocabulary after f.taker f.root f.child f.known (said token)).known ∙ ap (λ b. b && f.known) (known_said token)

-- whether each reference so far stands for something
known_fold : (vocabulary : List Word) {T : Type 0} (after : T → List Line → T) (f : Feed T) (tokens : List Token) → (fold (feed vocabulary after) f tokens).known ≡ (f.known && list_all is_known tokens)
known_fold vocabulary after f [] = go f.known
  where
    go : (b : Bool) → b ≡ (b && true)
    go true = refl
    go false = refl
known_fold vocabulary after f (token ∷ tokens) =
    known_fold vocabulary after (feed vocabulary after f token) tokens ∙ ap (λ b. b && list_all is_known tokens) (known_step vocabulary after f token)
    ∙ go (is_known token) f.known
  where
    go : (a b : Bool) → ((a && b) && list_all is_known tokens) ≡ (b && (a && list_all is_known tokens))
    go true b = refl
    go false true = refl
    go false false = refl

pub known_all : (vocabulary : List Word) {T : Type 0} (after : T → List Line → T) (t : T) (tokens : List Token) → (fold (feed vocabulary after) (first_feed t) tokens).known ≡ list_all is_known tokens
known_all vocabulary after t tokens = known_fold vocabulary after (first_feed t) tokens

-- the root is told by the first tag
pub roots : (vocabulary : List Word) {T : Type 0} (after : T → List Line → T) (f : Feed T) (tokens : List Token) → (fold (feed vocabulary after) f tokens).root ≡ option_or f.root (root_of tokens)
roots vocabulary after f [] = go f.root
  where
    go : (r : Option (Result Dialect Wrong)) → r ≡ option_or r None
    go None = refl
    go (Some r) = refl
roots vocabulary after f (token ∷ tokens) =
    roots vocabulary after (feed vocabulary after f token) tokens ∙ ap (λ r. option_or r (root_of tokens)) (root_step vocabulary after f token) ∙ go f.root
  where
    go : (r : Option (Result Dialect Wrong)) → option_or (option_or r (root_in (said token))) (root_of tokens) ≡ option_or r (option_or (root_in (said token)) (root_of tokens))
    go None = refl
    go (Some r) = refl

-- ---- the token that is refused

-- of a token, with the tokens before it, this holds
pub record Finds (P : List Token → Token → Type 0) (tokens : List Token) : Type 0 where
  pub before : List Token
  pub token : Token
  pub behind : List Token
  pub parts : tokens ≡ before ++ token ∷ behind
  pub holds : P before token

-- the same behind one more token
further_on : (P : List Token → Token → Type 0) (first : Token) (tokens : List Token) → ((before : List Token) (token : Token) → P before token → P (first ∷ before) token) → Finds P tokens → Finds P (first ∷ tokens)
further_on P first tokens holds h = record {
  before = first ∷ h.before;
  token = h.token;
  behind = h.behind;
  parts = ap (λ (ts : List Token). first ∷ ts) h.parts;
  holds = holds h.before h.token h.holds;
}

-- a root that is refused
pub finds_root : (tokens : List Token) (w : Wrong) → root_of tokens ≡ Some (Err w) → Finds (RefusesRoot w) tokens
finds_root [] w h = absurd cc
finds_root (token ∷ tokens) w h = go (root_in (said token)) refl h (finds_root tokens w)
  where
    go : (o : Option (Result Dialect Wrong)) → root_in (said token) ≡ o → option_or o (root_of tokens) ≡ Some (Err w) → (root_of tokens ≡ Some (Err w) → Finds (RefusesRoot w) tokens) → Finds (RefusesRoot w) (token ∷ tokens)
    go None e h later = further_on (RefusesRoot w) token tokens (λ before tag x. (ap (λ o. option_or o (root_of before)) e ∙ x.0, x.1)) (later h)
    go (Some r) e h later = record { before = []; token = token; behind = tokens; parts = refl; holds = (refl, ap (λ o. option_or o None) e ∙ h) }

-- a reference that stands for nothing
pub finds_unknown : (tokens : List Token) → list_all is_known tokens ≡ false → Finds RefusesReference tokens
finds_unknown [] e = absurd cc
finds_unknown (token ∷ tokens) e = go (is_known token) refl e (finds_unknown tokens)
  where
    go : (b : Bool) → is_known token ≡ b → (b && list_all is_known tokens) ≡ false → (list_all is_known tokens ≡ false → Finds RefusesReference tokens) → Finds RefusesReference (token ∷ tokens)
    go true k e later = further_on RefusesReference token tokens (λ before t x. x) (later e)
    go false k e later = record { before = []; token = token; behind = tokens; parts = refl; holds = k }
