-- What may stand around a root, and what a root begins with, kind by kind.
use Rattle.std.proofs.Common.{◌≡◌, ℕ, true, List, [], ◌∷◌}
use Rattle.std.specs.List.{AllByRecursion}
use Rattle.feed_xml.specs.Grammar.{Attribute, is_space, Token, raw, reference, opening, bracket, cdata, comment, instruction, declaration, doctype, start, empty, end}
use Rattle.feed_xml.specs.Tree.{Content}
use Rattle.feed_xml.specs.Trees.{IsMisc, AreTyped, IsProlog, IsRoot}

pub by_misc : (P : Token → Type 0) → ((b : ℕ) → is_space b ≡ true → P (raw b)) → ((body : List ℕ) → P (comment body)) → ((body : List ℕ) → P (instruction body)) → (t : Token) → IsMisc t → P t
by_misc P f g h (raw b) is = f b is
by_misc P f g h (comment body) is = g body
by_misc P f g h (instruction body) is = h body
by_misc P f g h (declaration body) is = absurd is
by_misc P f g h (doctype body) is = absurd is
by_misc P f g h (reference body) is = absurd is
by_misc P f g h opening is = absurd is
by_misc P f g h (bracket count) is = absurd is
by_misc P f g h (cdata count byte) is = absurd is
by_misc P f g h (start name attributes space) is = absurd is
by_misc P f g h (empty name attributes space) is = absurd is
by_misc P f g h (end name space) is = absurd is

pub by_typed : (P : List Token → Type 0) → P [] → ((body : List ℕ) (ts : List Token) → AllByRecursion IsMisc ts → P (doctype body ∷ ts)) → ((t : Token) (ts : List Token) → IsMisc t → P ts → P (t ∷ ts))
    → (ts : List Token) → AreTyped ts → P ts
by_typed P none f g [] is = none
by_typed P none f g (doctype body ∷ ts) is = f body ts is
by_typed P none f g (raw b ∷ ts) is = g (raw b) ts is.0 (by_typed P none f g ts is.1)
by_typed P none f g (comment body ∷ ts) is = g (comment body) ts is.0 (by_typed P none f g ts is.1)
by_typed P none f g (instruction body ∷ ts) is = g (instruction body) ts is.0 (by_typed P none f g ts is.1)
by_typed P none f g (declaration body ∷ ts) is = absurd is.0
by_typed P none f g (reference body ∷ ts) is = absurd is.0
by_typed P none f g (opening ∷ ts) is = absurd is.0
by_typed P none f g (bracket count ∷ ts) is = absurd is.0
by_typed P none f g (cdata count byte ∷ ts) is = absurd is.0
by_typed P none f g (start name attributes space ∷ ts) is = absurd is.0
by_typed P none f g (empty name attributes space ∷ ts) is = absurd is.0
by_typed P none f g (end name space ∷ ts) is = absurd is.0

pub by_prolog : (P : List Token → Type 0) → ((body : List ℕ) (ts : List Token) → AreTyped ts → P (declaration body ∷ ts)) → ((ts : List Token) → AreTyped ts → P ts) → (ts : List Token) → IsProlog ts → P ts
by_prolog P f g [] is = g [] is
by_prolog P f g (declaration body ∷ ts) is = f body ts is
by_prolog P f g (doctype body ∷ ts) is = g (doctype body ∷ ts) is
by_prolog P f g (raw b ∷ ts) is = g (raw b ∷ ts) is
by_prolog P f g (comment body ∷ ts) is = g (comment body ∷ ts) is
by_prolog P f g (instruction body ∷ ts) is = g (instruction body ∷ ts) is
by_prolog P f g (reference body ∷ ts) is = absurd is.0
by_prolog P f g (opening ∷ ts) is = absurd is.0
by_prolog P f g (bracket count ∷ ts) is = absurd is.0
by_prolog P f g (cdata count byte ∷ ts) is = absurd is.0
by_prolog P f g (start name attributes space ∷ ts) is = absurd is.0
by_prolog P f g (empty name attributes space ∷ ts) is = absurd is.0
by_prolog P f g (end name space ∷ ts) is = absurd is.0

-- what holds of each token around a root
pub all_misc : (P : Token → Type 0) → ((t : Token) → IsMisc t → P t) → (ts : List Token) → AllByRecursion IsMisc ts → AllByRecursion P ts
all_misc P f [] is = tt
all_misc P f (t ∷ ts) is = (f t is.0, all_misc P f ts is.1)

pub all_prolog : (P : Token → Type 0) → ((t : Token) → IsMisc t → P t) → ((body : List ℕ) → P (doctype body)) → ((body : List ℕ) → P (declaration body)) → (ts : List Token) → IsProlog ts → AllByRecursion P ts
all_prolog P f g h = by_prolog (AllByRecursion P) (λ body ts is. (h body, typed ts is)) typed
  where
    typed : (ts : List Token) → AreTyped ts → AllByRecursion P ts
    typed = by_typed (AllByRecursion P) tt (λ body ts is. (g body, all_misc P f ts is)) (λ t ts is rest. (f t is, rest))

-- a root begins with its tag
pub by_root : (name : List ℕ) (inside : Content) (P : List Token → Type 0)
    → ((n : List ℕ) (attributes : List Attribute) (space : List ℕ) (tokens : List Token) → IsRoot (start n attributes space ∷ tokens) name inside → P (start n attributes space ∷ tokens))
    → ((n : List ℕ) (attributes : List Attribute) (space : List ℕ) (tokens : List Token) → IsRoot (empty n attributes space ∷ tokens) name inside → P (empty n attributes space ∷ tokens))
    → (root : List Token) → IsRoot root name inside → P root
by_root name inside P f g [] r = absurd r
by_root name inside P f g (start n attributes space ∷ tokens) r = f n attributes space tokens r
by_root name inside P f g (empty n attributes space ∷ tokens) r = g n attributes space tokens r
by_root name inside P f g (raw b ∷ tokens) r = absurd r
by_root name inside P f g (reference body ∷ tokens) r = absurd r
by_root name inside P f g (opening ∷ tokens) r = absurd r
by_root name inside P f g (bracket count ∷ tokens) r = absurd r
by_root name inside P f g (cdata count byte ∷ tokens) r = absurd r
by_root name inside P f g (comment body ∷ tokens) r = absurd r
by_root name inside P f g (instruction body ∷ tokens) r = absurd r
by_root name inside P f g (declaration body ∷ tokens) r = absurd r
by_root name inside P f g (doctype body ∷ tokens) r = absurd r
by_root name inside P f g (end n space ∷ tokens) r = absurd r
