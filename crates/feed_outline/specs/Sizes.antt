-- How large a Header or a Product may be.
use Rattle.std.specs.Prelude.{ℕ, ◌+◌, Bool, false, not, ◌||◌, nat_le, List, [], ◌∷◌, length}
use Rattle.std.specs.Prelude.{unwrap_or}
use Rattle.feed_outline.specs.Nodes.{Nodes, no_nodes, node, Tag}
use Rattle.feed_outline.specs.Outline.{Line}

-- an element by itself: 64, and the bytes of its text and of its attribute `dateformat`
abbrev pub element_size : Tag → List ℕ → ℕ
element_size tag text = 64 + (length (unwrap_or tag.format []) + length text)

-- elements, with all that is in them
abbrev pub nodes_size : Nodes → ℕ
nodes_size no_nodes = 0
nodes_size (node name tag text below rest) =
    element_size tag text + (nodes_size below + nodes_size rest)

-- lines, each as its element
abbrev pub lines_size : List Line → ℕ
lines_size [] = 0
lines_size (l ∷ lines) = element_size l.tag l.text + lines_size lines

-- 4,194,304 at most
abbrev pub is_small : ℕ → Bool
is_small size = nat_le size 4194304

-- one of the elements is larger, with all that is in it
abbrev pub has_large : Nodes → Bool
has_large no_nodes = false
has_large (node name tag text below rest) =
    not (is_small (element_size tag text + nodes_size below)) || has_large rest
