-- Elements that come again though they do not repeat.
use Rattle.std.specs.Prelude.{ℕ, Bool, not, ◌&&◌, List, [], ◌∷◌, Option, Some, None, if◌then◌else◌}
use Rattle.std.specs.Prelude.{codes, is_some}
use Rattle.std.specs.List.{list_any}
use Rattle.std.specs.Option.{option_or}
use Rattle.std.specs.Str.{bytes_eq}
use Rattle.feed_xml.specs.Grammar.{is_filled}
use Rattle.feed_outline.specs.Composites.{text_in}
use Rattle.feed_outline.specs.Names.{stranger, stranger_apart}
use Rattle.feed_outline.specs.Nodes.{Nodes, no_nodes, node}
use Rattle.feed_mapping.specs.Elements.{composites, first}

-- what repeats in a Price or a Market, or is counted alone
abbrev pub is_repeatable : List ℕ → Bool
is_repeatable name =
    list_any (bytes_eq name)
    (codes "PriceCondition" ∷ codes "PriceConstraint" ∷ codes "PriceDate" ∷ codes "Discount"
    ∷ codes "DiscountCoded" ∷ stranger ∷ codes "Tax" ∷ stranger_apart ∷ [])

-- whether an element of this name and text comes again among these: a composite, empty or not; and
-- of one of text, which has a text, another with one
abbrev pub comes_again : List ℕ → List ℕ → Nodes → Bool
comes_again name text rest =
    if list_any (bytes_eq name)
    (codes "Territory" ∷ codes "PriceCoded" ∷ codes "EpubLicense" ∷ codes "EpubLicenseWithDate"
    ∷ [])
    then is_some (first (composites name rest))
    else is_filled text && is_some (text_in name rest)

-- whether an element of this name and text does not repeat, and comes again among these
abbrev pub is_again : List ℕ → List ℕ → Nodes → Bool
is_again name text rest = not (is_repeatable name) && comes_again name text rest

-- The name of the first element that comes again though it does not repeat, at whatever depth; what
-- stands in a PriceDate is looked at with its date, and what the terms of the shop read by these.
abbrev pub again_in : Nodes → Option (List ℕ)
again_in no_nodes = None
again_in (node n tag text below rest) =
    if is_again n text rest then Some n
    else option_or (if list_any (bytes_eq n)
    (codes "PriceDate" ∷ codes "Discount" ∷ codes "DiscountCoded" ∷ codes "Tax" ∷ [])
    then None else again_in below) (again_in rest)
