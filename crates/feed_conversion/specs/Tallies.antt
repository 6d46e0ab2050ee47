-- How many products are wrong, and how many may be; whose SupplyDetails they have.
use Rattle.std.specs.Prelude.{ℕ, ◌+◌, ◌*◌, Bool, true, false, not, ◌&&◌, ◌||◌, nat_lt, List}
use Rattle.std.specs.Prelude.{Option, Some, None, if◌then◌else◌, option_map}
use Rattle.std.specs.List.{list_any}
use Rattle.std.specs.Option.{option_or}
use Rattle.std.specs.Prelude.{⊤}
use Rattle.feed_outline.specs.Nodes.{Nodes}
use Rattle.feed_mapping.specs.Elements.{Composite}
use Rattle.feed_mapping.specs.Notes.{Reason, is_of_others as says_others}
use Rattle.feed_mapping.specs.Parties.{Pair}
use Rattle.feed_mapping.specs.ProductRecords.{has_wrong}
use Rattle.feed_mapping.specs.Products.{reference_in}
use Rattle.feed_mapping.specs.SupplierCounts.{has_detail}
use Rattle.feed_conversion.specs.declared.options.Allowed.{Allowed}
use Rattle.feed_conversion.specs.declared.options.Allowed.TheVariants.{AllWrong, FewWrong, NoWrong}
use Rattle.feed_conversion.specs.declared.refusal.Refusal.{Refusal}
use Rattle.feed_conversion.specs.declared.refusal.Refusal.TheVariants as why
use Rattle.feed_conversion.specs.declared.tally.Counted.{Counted}
use Rattle.feed_conversion.specs.declared.tally.Tally.{Tally}

abbrev pub place_of : Composite → ⊤
place_of c = tt

-- before the first product
abbrev pub no_tally : Tally
no_tally = record {
  products = 0;
  wrong = 0;
  first = None;
  has_wrong_others = false;
  has_named = false;
  has_other = false;
}

-- with one more that is wrong
abbrev pub with_wrong : Tally → Composite → Tally
with_wrong t c = record t {
  wrong = t.wrong + 1;
  first = option_or t.first
      (Some (record { reference = reference_in c.below; place = place_of c }));
}

-- whether one of the notes on a product says that it is of other suppliers alone
abbrev pub is_of_others : List Reason → Bool
is_of_others notes = list_any (λ r. says_others r.kind) notes

-- whether a product with these notes is wrong, and counts as one
abbrev pub counts_wrong : List Reason → Bool
counts_wrong notes = has_wrong notes && not (is_of_others notes)

-- with one more that has these notes: it is wrong where one of them says so. One of other suppliers
-- alone is none of those that are counted.
abbrev pub tallied : Tally → Composite → List Reason → Tally
tallied t c notes =
    if is_of_others notes then record t { has_wrong_others = t.has_wrong_others || has_wrong notes }
    else (let next = if has_wrong notes then with_wrong t c else t in
    record next { products = next.products + 1 })

-- with the suppliers of one more product
abbrev pub with_suppliers : Option Pair → Nodes → Tally → Tally
with_suppliers named product t = record t {
  has_named = t.has_named || has_detail named false product;
  has_other = t.has_other || has_detail named true product;
}

-- What is told of all products at the end: how many are wrong, whether one of other suppliers alone
-- is, and whether SupplyDetails are of others, and none is of the supplier that is named.
abbrev pub counted : Tally → Counted
counted t = record {
  wrong = t.wrong;
  has_wrong_others = t.has_wrong_others;
  lacks_supplier = t.has_other && not t.has_named;
}

-- whether any of that is so
abbrev pub is_flawed : Counted → Bool
is_flawed c = nat_lt 0 c.wrong || c.has_wrong_others || c.lacks_supplier

-- Few are up to ten, or one in a hundred; and up to one, or half of all.
abbrev pub too_many : Allowed → ℕ → ℕ → Bool
too_many NoWrong wrong products = nat_lt 0 wrong
too_many FewWrong wrong products =
    (nat_lt 10 wrong && nat_lt products (100 * wrong))
    || (nat_lt 1 wrong && nat_lt products (2 * wrong))
too_many AllWrong wrong products = false

-- why a message is refused, where more products are wrong than are allowed
abbrev pub refused_for : Allowed → Tally → Option Refusal
refused_for allowed t =
    if too_many allowed t.wrong t.products
    then option_map (λ p. why.Wrong t.wrong t.products p.reference p.place) t.first else None
