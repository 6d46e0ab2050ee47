-- Lines that are the outline of one element, read back as that element.
use Rattle.std.specs.Prelude.{ℕ, suc, Bool, true, false, ◌&&◌, ◌==◌, nat_lt, nat_le, List, [], ◌∷◌}
use Rattle.std.specs.Prelude.{if◌then◌else◌}
use Rattle.feed_outline.specs.Nodes.{Nodes, no_nodes, node}
use Rattle.feed_outline.specs.Outline.{Line}

-- the elements of this depth at the front of lines: a deeper line is of what stands in one, and a
-- line that is less deep ends them
abbrev pub nodes_at : ℕ → List Line → Nodes
nodes_at depth [] = no_nodes
nodes_at depth (l ∷ lines) =
    if nat_lt l.depth depth then no_nodes
    else if nat_lt depth l.depth then nodes_at depth lines
    else node l.name l.tag l.text (nodes_at (suc depth) lines) (nodes_at depth lines)

-- each line is deeper than 0, and at most one deeper than the line before it, the first than this
-- depth
abbrev pub are_below : ℕ → List Line → Bool
are_below before [] = true
are_below before (l ∷ lines) =
    (nat_lt 0 l.depth && nat_le l.depth (suc before)) && are_below l.depth lines

-- lines are the outline of one element by itself
abbrev pub is_outline : List Line → Bool
is_outline [] = false
is_outline (l ∷ lines) = (l.depth == 0) && are_below 0 lines

-- the element that lines are the outline of, with all that is in it; nothing, where they are the
-- outline of none
abbrev pub outlined : List Line → Nodes
outlined lines = if is_outline lines then nodes_at 0 lines else no_nodes
