-- Changes of one line, by the text that comes.
use Rattle.std.proofs.Common.{◌≡◌, ℕ, zero, suc, ◌<◌, Bool, true, false, List, [], ◌∷◌, ◌++◌, length, refl, sym, ap, ◌∙◌, append_assoc, append-nil, arith}
use Rattle.std.specs.Prelude.{◌&&◌, if◌then◌else◌}
use Rattle.feed_xml.specs.Grammar.{is_filled, is_space}
use Rattle.feed_outline.specs.Outline.{Line, line}
use Rattle.feed_outline.specs.private.Growing.{words, change, grown, longer, waits_behind}

pub length-change : (f : Line → Line) (at : ℕ) (lines : List Line) → length (change f at lines) ≡ length lines
length-change f at [] = refl
length-change f zero (l ∷ lines) = refl
length-change f (suc at) (l ∷ lines) = ap suc (length-change f at lines)

-- a line at the front
pub change-front : (f : Line → Line) (at : ℕ) (lines more : List Line) → at < length lines → change f at (lines ++ more) ≡ change f at lines ++ more
change-front f at [] more lt = absurd (omega (arith, lt))
change-front f zero (l ∷ lines) more lt = refl
change-front f (suc at) (l ∷ lines) more lt = ap (λ (ls : List Line). l ∷ ls) (change-front f at lines more (omega (arith, lt)))

-- the last line
pub change-last : (f : Line → Line) (lines : List Line) (l : Line) → change f (length lines) (lines ++ l ∷ []) ≡ lines ++ f l ∷ []
change-last f [] l = refl
change-last f (k ∷ lines) l = ap (λ (ls : List Line). k ∷ ls) (change-last f lines l)

-- ---- text, byte by byte

-- a text with one more byte
abbrev pub with_byte : List ℕ → Bool → ℕ → List ℕ
with_byte text waits b = if is_space b then text else if is_filled text && waits then text ++ 32 ∷ b ∷ [] else text ++ b ∷ []

pub grown-cons : (text : List ℕ) (waits : Bool) (b : ℕ) (more : List ℕ) → grown text waits (b ∷ more) ≡ grown (with_byte text waits b) (is_space b) more
grown-cons text waits b more = go text waits (is_space b) refl
  where
    go : (text : List ℕ) (waits s : Bool) → is_space b ≡ s → grown text waits (b ∷ more) ≡ grown (with_byte text waits b) (is_space b) more
    go text waits true e = rw e refl
    go [] waits false e = rw e refl
    go (c ∷ text) true false e = rw e (ap (λ (ls : List ℕ). c ∷ ls) (sym (append_assoc text (32 ∷ b ∷ []) (words true false more))))
    go (c ∷ text) false false e = rw e (ap (λ (ls : List ℕ). c ∷ ls) (sym (append_assoc text (b ∷ []) (words true false more))))

grown-append : (text : List ℕ) (waits : Bool) (x y : List ℕ) → grown text waits (x ++ y) ≡ grown (grown text waits x) (waits_behind waits x) y
grown-append text waits [] y = ap (λ (t : List ℕ). grown t waits y) (sym (append-nil text))
grown-append text waits (b ∷ x) y =
    grown-cons text waits b (x ++ y) ∙ grown-append (with_byte text waits b) (is_space b) x y
    ∙ ap (λ (t : List ℕ). grown t (waits_behind (is_space b) x) y) (sym (grown-cons text waits b x))

pub longer-nil : (waits : Bool) (at : ℕ) (lines : List Line) → change (longer waits []) at lines ≡ lines
longer-nil waits at [] = refl
longer-nil waits zero (l ∷ lines) = ap (λ (t : List ℕ). line l.depth l.name l.tag t ∷ lines) (append-nil l.text)
longer-nil waits (suc at) (l ∷ lines) = ap (λ (ls : List Line). l ∷ ls) (longer-nil waits at lines)

pub longer-append : (waits : Bool) (at : ℕ) (x y : List ℕ) (lines : List Line)
    → change (longer waits (x ++ y)) at lines ≡ change (longer (waits_behind waits x) y) at (change (longer waits x) at lines)
longer-append waits at x y [] = refl
longer-append waits zero x y (l ∷ lines) = ap (λ (t : List ℕ). line l.depth l.name l.tag t ∷ lines) (grown-append l.text waits x y)
longer-append waits (suc at) x y (l ∷ lines) = ap (λ (ls : List Line). l ∷ ls) (longer-append waits at x y lines)
