-- A document that is an ONIX message.
use Rattle.std.specs.Prelude.{◌≡◌, ℕ, true, false, List, [], Some, Ok}
use Rattle.std.specs.List.{list_all}
use Rattle.feed_xml.specs.Grammar.{Token}
use Rattle.feed_xml.specs.Documents.{IsDocument}
use Rattle.feed_xml.specs.Tree.{Content}
use Rattle.feed_xml.specs.Trees.{IsTree}
use Rattle.feed_outline.specs.Dialect.{Dialect}
use Rattle.feed_outline.specs.Names.{Word}
use Rattle.feed_outline.specs.Nodes.{is_known, nodes_in}
use Rattle.feed_outline.specs.Sizes.{has_large}
use Rattle.feed_outline.specs.Roots.{root_of}

-- The text is a document. Its root is that of a message of release 3.0 or 3.1 that is written so,
-- and has this in it; each reference stands for something, and no Header or Product is too large.
-- The vocabulary says which elements count.
pub record IsMessage (vocabulary : List Word) (text : List ℕ) (d : Dialect) (inside : Content)
    : Type 0 where
  pub tokens : List Token
  pub name : List ℕ
  pub document : IsDocument text tokens
  pub tree : IsTree tokens name inside
  pub root : root_of tokens ≡ Some (Ok d)
  pub known : list_all is_known tokens ≡ true
  pub fits : has_large (nodes_in vocabulary d [] inside) ≡ false
