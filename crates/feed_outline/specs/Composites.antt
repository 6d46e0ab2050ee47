-- What stands in a composite.
use Rattle.std.specs.Prelude.{ℕ, Bool, false, ◌&&◌, ◌||◌, List, Option, Some, None}
use Rattle.std.specs.Prelude.{if◌then◌else◌}
use Rattle.std.specs.Str.{bytes_eq}
use Rattle.feed_xml.specs.Grammar.{is_filled}
use Rattle.feed_outline.specs.declared.composites.Node.{Node}
use Rattle.feed_outline.specs.Names.{stranger}
use Rattle.feed_outline.specs.Nodes.{Nodes, no_nodes, node}
use Rattle.feed_outline.specs.Views.{tag_view}

-- of the elements of this name the first one that has a text: one without is as absent
abbrev pub text_in : List ℕ → Nodes → Option (List ℕ)
text_in name no_nodes = None
text_in name (node n tag text below rest) =
    if bytes_eq n name && is_filled text then Some text else text_in name rest

-- one of the elements, or of those in them, is a stranger
abbrev pub has_stranger : Nodes → Bool
has_stranger no_nodes = false
has_stranger (node n tag text below rest) =
    bytes_eq n stranger || (has_stranger below || has_stranger rest)

-- the first of some elements, what stands in it and those that follow it, put together; none, where
-- there is none
abbrev pub joined : Option Node → Nodes
joined None = no_nodes
joined (Some n) =
    node n.line.now.name.now (tag_view n.line.now) n.line.now.text.items n.below n.rest
