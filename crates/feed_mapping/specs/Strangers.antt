-- Which strangers below a Product count: elements that are called as one that counts where they
-- stand, and do not count.
use Rattle.std.specs.Prelude.{ℕ, Bool, false, ◌&&◌, ◌||◌, List, Option, codes, if◌then◌else◌}
use Rattle.std.specs.Str.{bytes_eq}
use Rattle.feed_outline.specs.Composites.{has_stranger}
use Rattle.feed_outline.specs.Names.{stranger}
use Rattle.feed_outline.specs.Nodes.{Nodes, no_nodes, node}
use Rattle.feed_mapping.specs.OtherSuppliers.{is_of_other}
use Rattle.feed_mapping.specs.Parties.{Pair}

-- whether one of the elements is a stranger, or a stranger stands in one of this name
abbrev pub has_stranger_in : List ℕ → Nodes → Bool
has_stranger_in name no_nodes = false
has_stranger_in name (node n tag text below rest) =
    (bytes_eq n stranger || (bytes_eq n name && has_stranger below)) || has_stranger_in name rest

module _ (named : Option Pair) where
  -- whether one counts that stands in a ProductSupply: in a SupplyDetail of another than the
  -- supplier that is named, where it might say whose it is
  abbrev pub has_stranger_in_supply : Nodes → Bool
  has_stranger_in_supply no_nodes = false
  has_stranger_in_supply (node n tag text below rest) =
      (bytes_eq n stranger || (if bytes_eq n (codes "SupplyDetail") && is_of_other named below
      then has_stranger_in (codes "Supplier") below
      else has_stranger below)) || has_stranger_in_supply rest

  -- whether one counts that stands in a Product
  abbrev pub has_own_stranger : Nodes → Bool
  has_own_stranger no_nodes = false
  has_own_stranger (node n tag text below rest) =
      (bytes_eq n stranger || (if bytes_eq n (codes "ProductSupply")
      then has_stranger_in_supply below else has_stranger below)) || has_own_stranger rest
