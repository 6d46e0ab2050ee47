-- What an ONIX message says to the desk: messages that the desk takes, or why it is refused.
use Rattle.std.specs.Prelude.{ℕ, ◌+◌, List, ◌∷◌, Option, Some, None}
use Rattle.std.specs.Prelude.{Result, Ok, Err, if◌then◌else◌, codes, decimal}
use Rattle.std.specs.Option.{option_map_or}
use Rattle.std.specs.Str.{bytes_eq}
use Rattle.feed_outline.specs.Composites.{has_stranger}
use Rattle.feed_outline.specs.Names.{Word, stranger}
use Rattle.feed_outline.specs.Nodes.{Nodes, no_nodes, node}
use Rattle.feed_mapping.specs.Elements.{Composite, composite, each_at, text_at}
use Rattle.feed_mapping.specs.Header.{Choices, Heading, heading_in, message_fields}
use Rattle.feed_mapping.specs.Records.{Fields}
use Rattle.feed_mapping.specs.SupplyChoices.{SupplyChoices}
use Rattle.feed_mapping.specs.Vocabulary.{desk_vocabulary, terms_vocabulary}
use Rattle.feed_terms.specs.declared.term.Term.{Term}
use Rattle.feed_mapping.specs.declared.header.HeaderRefusal.{HeaderRefusal}
use Rattle.feed_conversion.specs.declared.refusal.Refusal.{Refusal}
use Rattle.feed_conversion.specs.declared.refusal.Refusal.TheVariants as why
use Rattle.feed_conversion.specs.declared.options.Allowed.{Allowed}
use Rattle.feed_conversion.specs.Packing.{Converted, Settings, after_products, ended, no_packing}
use Rattle.feed_conversion.specs.Tallies.{place_of}

-- What the caller chooses, for the Header and the parts, how many products may be wrong, and the
-- terms of the shop, if it has any
pub record Options : Type 0 where
  pub choices : Choices
  pub wrong : Allowed
  pub terms : Option (List Term)

-- what the caller chooses, with these terms
abbrev pub by_terms : Option (List Term) → Options → Options
by_terms terms o = record o { terms = terms }

-- which elements count
abbrev pub vocabulary_by : Option (List Term) → List Word
vocabulary_by None = desk_vocabulary
vocabulary_by (Some terms) = terms_vocabulary

-- what is chosen for the supplies of a product
abbrev pub supply_choices : Options → SupplyChoices
supply_choices o = record {
  supplier = o.choices.supplier;
  preferred = o.choices.id_type;
  terms = o.terms;
}

-- the Header that counts: the first one, where no Product stands before it
abbrev pub header_in : Nodes → Option Composite
header_in no_nodes = None
header_in (node name tag text below rest) =
    if bytes_eq name (codes "Header") then Some (composite name tag text below)
    else if bytes_eq name (codes "Product") then None
    else header_in rest

-- the Products, in order
abbrev pub products_in : Nodes → List Composite
products_in nodes = each_at "Product" nodes

-- the record with which the part behind so many begins: it has the number that follows those of the
-- parts before it
abbrev pub first_record : Heading → Nodes → ℕ → Fields
first_record h header before =
    codes "Message" ∷ message_fields h.sender h.addressee (decimal (h.number + before)) header

-- what holds for all parts of a message of this heading
abbrev pub settings : Options → Heading → Nodes → Settings
settings o h header = record {
  first = first_record h header;
  opening = h.opening;
  most = o.choices.parts;
  supplies = supply_choices o;
  allowed = o.wrong;
}

-- that a message is refused for what its Header says
abbrev pub header_refused : Composite → HeaderRefusal → Refusal
header_refused header refusal =
    why.Header refusal (text_at "MessageNumber" header.below) (place_of header)

-- why the elements behind a Header refuse the message, by the first that does
abbrev pub refused_behind : Nodes → Option Refusal
refused_behind no_nodes = None
refused_behind (node name tag text below rest) =
    if bytes_eq name (codes "Header") then Some (why.SecondHeader tt)
    else if bytes_eq name (codes "Product") then refused_behind rest
    else if bytes_eq name stranger then Some (why.OtherNamespace tt)
    else refused_behind rest

-- what comes of a Header that says so, and of the elements behind it
abbrev pub after_header : Options → Composite → Nodes → Result Heading HeaderRefusal
    → Result Converted Refusal
after_header o header rest (Err refusal) = Err (header_refused header refusal)
after_header o header rest (Ok h) =
    let t = settings o h header.below in
    option_map_or Err (refused_behind rest)
    (ended t (after_products t no_packing (products_in rest)))

-- What comes of the elements in the root of a message. It is refused for the first of them that is:
-- a Product before the Header, what the Header says, a second one, or an element of another
-- namespace that is called so; and at the end where more products are wrong than may be, and where
-- it needs more parts than there are.
abbrev pub conversion : Options → Nodes → Result Converted Refusal
conversion o no_nodes = Err (why.NoHeader None)
conversion o (node name tag text below rest) =
    if bytes_eq name (codes "Header")
    then (if has_stranger below then Err (why.OtherNamespace tt)
    else after_header o (composite name tag text below) rest (heading_in o.choices below))
    else if bytes_eq name (codes "Product") then Err (why.NoHeader (Some tt))
    else if bytes_eq name stranger then Err (why.OtherNamespace tt)
    else conversion o rest
