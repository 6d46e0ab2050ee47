-- Lines in a vector, the outline that they tell, and its size.
use Rattle.std.proofs.Common.{◌≡◌, ℕ, zero, suc, ◌+◌, ◌<◌, ◌≤◌, true, List, [], ◌∷◌, ◌++◌, length, get_or, refl, ap, arith, slice_set}
use Rattle.std.specs.Prelude.{nat_lt, Option}
use Rattle.std.proofs.lemmas.Bool.{ltb-true}
use Rattle.feed_outline.specs.declared.line.Line.{Line}
use Rattle.feed_outline.specs.Namespaces.{Binding}
use Rattle.feed_outline.specs.Nodes.{Tag}
use Rattle.feed_outline.specs.Outline.{Line as Told}
use Rattle.feed_outline.specs.private.Growing.{Growing, change, growing, opened}
use Rattle.feed_outline.specs.Sizes.{element_size, lines_size}
use Rattle.feed_outline.specs.private.Growing.{format_size}
use Rattle.feed_outline.specs.Views.{line_view, line_views, tag_view}

pub past_lines : (f : Told → Told) (at : ℕ) (lines : List Line) → length lines ≤ at → line_views lines ≡ change f at (line_views lines)
past_lines f at [] le = refl
past_lines f zero (l ∷ lines) le = absurd (omega (arith, le))
past_lines f (suc at) (l ∷ lines) le = ap (λ (ls : List Told). line_view l ∷ ls) (past_lines f at lines (omega (arith, le)))

pub set_line : (f : Told → Told) (lines : List Line) (at : ℕ) (new d : Line) → at < length lines → line_view new ≡ f (line_view (get_or lines at d))
    → line_views (slice_set lines at new) ≡ change f at (line_views lines)
set_line f [] at new d lt is = absurd (omega (arith, lt))
set_line f (l ∷ lines) zero new d lt is = ap (λ (k : Told). k ∷ line_views lines) is
set_line f (l ∷ lines) (suc at) new d lt is = ap (λ (ls : List Told). line_view l ∷ ls) (set_line f lines at new d (omega (arith, lt)) is)

-- another text of one line
pub set_size : (lines : List Line) (at : ℕ) (new d : Line) → at < length lines → tag_view new ≡ tag_view (get_or lines at d)
    → lines_size (line_views (slice_set lines at new)) + length (get_or lines at d).text.items ≡ lines_size (line_views lines) + length new.text.items
set_size [] at new d lt is = absurd (omega (arith, lt))
set_size (l ∷ lines) zero new d lt is = omega (arith, ap (λ (t : Tag). format_size t.format) is)
set_size (l ∷ lines) (suc at) new d lt is = omega (arith, set_size lines at new d (omega (arith, lt)) is)

-- one more line
pub pushed_size : (lines : List Line) (l : Line) → lines_size (line_views (lines ++ l ∷ [])) ≡ lines_size (line_views lines) + element_size (tag_view l) l.text.items
pushed_size [] l = omega arith
pushed_size (k ∷ lines) l = omega (arith, pushed_size lines l)

-- in an element that is passed over all are
pub opened_in_passed : (passed : ℕ) (name : Option (List ℕ)) (tag : Tag) (b : List Binding) (g : Growing) → nat_lt 0 passed ≡ true → opened passed name tag b g ≡ growing g.lines g.opens (suc passed)
opened_in_passed zero name tag b g h = absurd (omega (arith, ltb-true 0 zero h))
opened_in_passed (suc passed) name tag b g h = refl
