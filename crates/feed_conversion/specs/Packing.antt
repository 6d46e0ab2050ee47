-- The products of a message, packed into its parts one after the other.
use Rattle.std.specs.Prelude.{ℕ, ◌+◌, ◌-◌, List, [], ◌∷◌, ◌++◌, Option, Some, None, Result, Ok, Err}
use Rattle.std.specs.Prelude.{if◌then◌else◌, nat_lt, fold, option_map}
use Rattle.std.specs.Option.{option_map_or, option_or, unwrap_or}
use Rattle.std.specs.Prelude.{⊤}
use Rattle.onix_records.specs.declared.row.Opening.{Opening}
use Rattle.feed_mapping.specs.Elements.{Composite}
use Rattle.feed_mapping.specs.Notes.{Reason, wrong}
use Rattle.feed_mapping.specs.ProductRecords.{Variant, variants}
use Rattle.feed_mapping.specs.Records.{Fields, Records}
use Rattle.feed_mapping.specs.SupplyChoices.{SupplyChoices}
use Rattle.feed_mapping.specs.declared.notes.Wrong.TheVariants.{TooLarge}
use Rattle.feed_conversion.specs.Messages.{empty_messages, fits, message_text}
use Rattle.feed_conversion.specs.Tallies.{counted, no_tally, place_of, refused_for, tallied}
use Rattle.feed_conversion.specs.Tallies.{with_suppliers}
use Rattle.feed_conversion.specs.declared.options.Allowed.{Allowed}
use Rattle.feed_conversion.specs.declared.refusal.Refusal.{Refusal}
use Rattle.feed_conversion.specs.declared.refusal.Refusal.TheVariants as why
use Rattle.feed_conversion.specs.declared.tally.Counted.{Counted}
use Rattle.feed_conversion.specs.declared.tally.Tally.{Tally}

-- what comes of a message: the texts of its parts, in order, and what is told of its products
pub record Converted : Type 0 where
  pub parts : List (List ℕ)
  pub counted : Counted

-- What holds for all parts of a message: the record with which the part behind so many begins and
-- what that says, how many parts there are, what is chosen for the supplies, and how many
-- products may be wrong.
pub record Settings : Type 0 where
  pub first : ℕ → Fields
  pub opening : Opening
  pub most : ℕ
  pub supplies : SupplyChoices
  pub allowed : Allowed

-- What the products so far have come to: how many parts are full, the records of products in the
-- part behind them, whether there is a product for which there is no part, the texts of the full
-- parts, and what is counted of the products.
pub record Packing : Type 0 where
  pub full : ℕ
  pub begun : Records
  pub beyond : Option ⊤
  pub parts : List (List ℕ)
  pub tally : Tally

-- before the first product
abbrev pub no_packing : Packing
no_packing =
    record { full = 0; begun = []; beyond = None; parts = []; tally = no_tally }

-- ---- packing

-- a text as the part behind so many, where there are more parts
abbrev pub with_part : ℕ → ℕ → List ℕ → List (List ℕ) → List (List ℕ)
with_part most full text parts = if nat_lt full most then parts ++ text ∷ [] else parts

-- whether there is a product for which there is no part, where a product begins the part behind so
-- many
abbrev pub beyond_at : ℕ → ℕ → Option ⊤ → ⊤ → Option ⊤
beyond_at most full earlier place =
    option_or earlier (if nat_lt full most then None else Some place)

-- with one more product, which has these notes
abbrev pub noted : Composite → List Reason → Packing → Packing
noted c notes w = record w { tally = tallied w.tally c notes }

module _ (t : Settings) (w : Packing) where
  -- the texts, with that of the part that was begun
  abbrev pub with_begun : List (List ℕ)
  with_begun = with_part t.most w.full (message_text (t.first w.full) w.begun) w.parts

  -- a product in the next part
  abbrev pub in_next_part : ⊤ → Records → Packing
  in_next_part place records = record w {
    full = w.full + 1;
    begun = records;
    beyond = beyond_at t.most (w.full + 1) w.beyond place;
    parts = with_begun;
  }

  -- records of a product go into the part that was begun where that has room, else into the next;
  -- nothing, where that has no room for them either
  abbrev pub packed : ⊤ → Records → Option Packing
  packed place records =
      if fits (t.first w.full) (w.begun ++ records)
      then Some (record w { begun = w.begun ++ records })
      else if fits (t.first (w.full + 1)) records then Some (in_next_part place records)
      else None

  -- ---- products

  -- a product by the first of these variants that is not too large for a message; without one it is
  -- left out
  abbrev pub with_variants : Composite → List Variant → Packing
  with_variants c [] = noted c (wrong TooLarge [] ∷ []) w
  with_variants c (v ∷ more) =
      unwrap_or (option_map (noted c v.notes) (packed (place_of c) v.records))
      (with_variants c more)

  -- ---- the end

  -- the texts of all parts: those that are left over are messages without products
  abbrev pub all_parts : List (List ℕ)
  all_parts = with_begun ++ empty_messages t.first (w.full + 1) (t.most - (w.full + 1))

  -- A message is refused of which too many products are wrong, and then one that needs more parts
  -- than there are.
  abbrev pub ended : Result Converted Refusal
  ended =
      option_map_or Err (refused_for t.allowed w.tally)
      (option_map_or (λ place. Err (why.Parts (w.full + 1) place)) w.beyond
      (Ok (record { parts = all_parts; counted = counted w.tally })))

-- with the suppliers of one more product
abbrev pub seen : Settings → Packing → Composite → Packing
seen t w c = record w { tally = with_suppliers t.supplies.supplier c.below w.tally }

-- after one more product
abbrev pub after_product : Settings → Packing → Composite → Packing
after_product t w c = with_variants t (seen t w c) c (variants t.opening t.supplies c.below)

-- the products in order
abbrev pub after_products : Settings → Packing → List Composite → Packing
after_products t w products = fold (after_product t) w products
