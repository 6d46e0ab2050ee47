-- The identifiers of senders, addressees and suppliers.
use Rattle.std.specs.Prelude.{ℕ, filter, find, List, Option, map}
use Rattle.std.specs.Option.{option_or}
use Rattle.std.specs.Str.{bytes_eq}
use Rattle.feed_mapping.specs.Elements.{composites, first, text_at, text_or_empty}
use Rattle.feed_mapping.specs.Parties.{Pair, is_there, pair}
use Rattle.feed_outline.specs.Nodes.{Nodes}

-- the identifiers of these names in a composite, in order
abbrev pub identifiers_in : List ℕ → List ℕ → Nodes → List Pair
identifiers_in name type_name nodes =
    filter is_there
    (map (λ c. pair (text_or_empty type_name c.below) (text_at "IDValue" c.below))
    (composites name nodes))

-- the identifier that is written: the first of the preferred type, else the first
abbrev pub chosen : List ℕ → List Pair → Option Pair
chosen preferred ids =
    option_or (find (λ i. bytes_eq i.id_type preferred) ids) (first ids)
