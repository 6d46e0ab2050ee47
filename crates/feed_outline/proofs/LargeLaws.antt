-- A Header or Product that is too large stays so, whatever follows.
use Rattle.std.proofs.Common.{◌≡◌, ℕ, zero, suc, ◌+◌, ◌≤◌, Bool, true, false, cond, List, [], ◌∷◌, length, Option, Some, None, Result, Ok, Err, ap, ◌∙◌, length-append, arith, fold}
use Rattle.std.specs.Prelude.{◌&&◌}
use Rattle.std.proofs.lemmas.Bool.{lt-leb, leb-false}
use Rattle.feed_outline.specs.Names.{Word}
use Rattle.feed_xml.specs.Grammar.{Attribute, is_filled, Token}
use Rattle.feed_outline.specs.declared.dialect.Wrong.{Wrong}
use Rattle.feed_outline.specs.Dialect.{Dialect, counted}
use Rattle.feed_outline.specs.Namespaces.{Binding, bindings_of}
use Rattle.feed_outline.specs.Nodes.{Nodes, Said, speaks, opens, stands, closes, said, Tag, tag_of}
use Rattle.feed_outline.specs.Outline.{Line, line, part}
use Rattle.feed_outline.specs.private.Growing.{words, Growing, Open, growing, scopes_of, no_lines, change, longer, opened, closed, innermost_texted, texted, is_idle}
use Rattle.feed_outline.specs.Sizes.{element_size, is_small, lines_size, nodes_size}
use Rattle.feed_outline.specs.private.Feed.{Feed, feeding, handed, fits, settled, begun, ended, emptied, spoken, feed, feed_said}
use Rattle.feed_outline.proofs.FeedLaws.{lines_size-append, part_size}

-- with more lines, or more text
still_large : (g h : Growing) → lines_size g.lines ≤ lines_size h.lines → fits g ≡ false → fits h ≡ false
still_large g h more e = lt-leb (lines_size h.lines) 4194304 (omega (arith, more, leb-false (lines_size g.lines) 4194304 e))

text_size : (w : Bool) (text : List ℕ) (at : ℕ) (lines : List Line) → lines_size lines ≤ lines_size (change (longer w text) at lines)
text_size w text at [] = omega arith
text_size w text zero (l ∷ lines) = omega (arith, length-append l.text (words (is_filled l.text) w text))
text_size w text (suc at) (l ∷ lines) = omega (arith, text_size w text at lines)

texted_more : (n : ℕ) (text : List ℕ) (g : Growing) → lines_size g.lines ≤ lines_size (texted n text g).lines
texted_more (suc n) text g = omega arith
texted_more zero text g = go g.opens
  where
    go : (opens : List Open) → lines_size g.lines ≤ lines_size (innermost_texted opens text g).lines
    go [] = omega arith
    go (o ∷ more) = text_size o.waits text o.at g.lines

opened_more : (n : ℕ) (name : Option (List ℕ)) (tag : Tag) (b : List Binding) (g : Growing) → lines_size g.lines ≤ lines_size (opened n name tag b g).lines
opened_more (suc n) name tag b g = omega arith
opened_more zero None tag b g = omega arith
opened_more zero (Some name) tag b g = omega (arith, lines_size-append g.lines (line (length g.opens) name tag [] ∷ []))

closed_more : (n : ℕ) (g : Growing) → lines_size g.lines ≤ lines_size (closed n g).lines
closed_more (suc n) g = omega arith
closed_more zero g = omega arith

settled_large : {T : Type 0} (after : T → List Line → T) (f : Feed T) (g : Growing) → fits g ≡ false → fits (settled after f g).child ≡ false
settled_large after f g large = go (is_idle g) (fits g) large
  where
    go : (b c : Bool) → c ≡ false → fits (cond (b && c) (feeding (handed after f.taker g.lines) f.root no_lines f.known) (feeding f.taker f.root g f.known)).child ≡ false
    go b true e = absurd cc
    go true false e = large
    go false false e = large

begun_large : (vocabulary : List Word) {T : Type 0} (r : Option (Result Dialect Wrong)) (name : List ℕ) (attributes : List Attribute) (f : Feed T) → fits f.child ≡ false → fits (begun vocabulary r name attributes f).child ≡ false
begun_large vocabulary None name attributes f e = e
begun_large vocabulary (Some (Err w)) name attributes f e = e
begun_large vocabulary (Some (Ok d)) name attributes f e =
    let found = counted vocabulary d (scopes_of f.child.opens) name (bindings_of attributes) in
    still_large f.child (opened f.child.passed found (tag_of attributes) (bindings_of attributes) f.child) (opened_more f.child.passed found (tag_of attributes) (bindings_of attributes) f.child) e

ended_large : {T : Type 0} (after : T → List Line → T) (r : Option (Result Dialect Wrong)) (f : Feed T) → fits f.child ≡ false → fits (ended after r f).child ≡ false
ended_large after None f e = e
ended_large after (Some (Err w)) f e = e
ended_large after (Some (Ok d)) f e = settled_large after f (closed f.child.passed f.child) (still_large f.child (closed f.child.passed f.child) (closed_more f.child.passed f.child) e)

spoken_large : {T : Type 0} (r : Option (Result Dialect Wrong)) (text : List ℕ) (known : Bool) (f : Feed T) → fits f.child ≡ false → fits (spoken r text known f).child ≡ false
spoken_large None text known f e = e
spoken_large (Some (Err w)) text known f e = e
spoken_large (Some (Ok d)) text known f e = still_large f.child (texted f.child.passed text f.child) (texted_more f.child.passed text f.child) e

said_large : (vocabulary : List Word) {T : Type 0} (after : T → List Line → T) (f : Feed T) (s : Said) → fits f.child ≡ false → fits (feed_said vocabulary after f s).child ≡ false
said_large vocabulary after f (speaks text known) e = spoken_large f.root text known f e
said_large vocabulary after f (opens name attributes) e = begun_large vocabulary f.root name attributes f e
said_large vocabulary after f closes e = ended_large after f.root f e
said_large vocabulary {T = T} after f (stands name attributes) e = go f.root
  where
    go : (r : Option (Result Dialect Wrong)) → fits (emptied vocabulary after r name attributes f).child ≡ false
    go None = e
    go (Some r) = ended_large after (Some r) (begun vocabulary (Some r) name attributes f) (begun_large vocabulary (Some r) name attributes f e)

pub stays_large : (vocabulary : List Word) {T : Type 0} (after : T → List Line → T) (f : Feed T) (tokens : List Token) → fits f.child ≡ false → fits (fold (feed vocabulary after) f tokens).child ≡ false
stays_large vocabulary after f [] e = e
stays_large vocabulary after f (token ∷ tokens) e = stays_large vocabulary after (feed vocabulary after f token) tokens (said_large vocabulary after f (said token) e)

-- a child of the root that is too large is kept
pub part_large : {T : Type 0} (after : T → List Line → T) (f : Feed T) (name : List ℕ) (tag : Tag) (text : List ℕ) (below : Nodes) → is_small (element_size tag text + nodes_size below) ≡ false
    → fits (settled after f (growing (part name tag text below) [] 0)).child ≡ false
part_large after f name tag text below e =
    settled_large after f (growing (part name tag text below) [] 0) (ap is_small (part_size name tag text below) ∙ e)
