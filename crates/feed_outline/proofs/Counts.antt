-- How many elements there are, by which a loop over them ends.
use Rattle.std.specs.Prelude.{ℕ, suc, ◌+◌}
use Rattle.feed_outline.specs.Nodes.{Nodes, no_nodes, node}

-- the elements with all in them
abbrev pub count : Nodes → ℕ
count no_nodes = 0
count (node name tag text below rest) = suc (count below + count rest)
