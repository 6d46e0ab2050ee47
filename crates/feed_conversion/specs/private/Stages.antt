-- What the program keeps of a message while it reads it.
use Rattle.std.specs.Prelude.{◌≡◌, ℕ, zero, suc, ◌+◌, ◌-◌, Bool, true, false, ◌&&◌, List, [], ◌∷◌}
use Rattle.std.specs.Prelude.{◌++◌, Option, Some, None, Result, Ok, Err, if◌then◌else◌, codes}
use Rattle.std.specs.Prelude.{decimal, nat_le, nat_lt, length, take, drop, fold, option_map}
use Rattle.std.specs.Option.{unwrap_or}
use Rattle.std.specs.Str.{bytes_eq}
use Rattle.std.specs.Prelude.{⊤}
use Rattle.csv_records.specs.RecordTexts.{limit, records_text}
use Rattle.feed_outline.specs.Composites.{has_stranger}
use Rattle.feed_outline.specs.Names.{stranger}
use Rattle.feed_outline.specs.Nodes.{Nodes, no_nodes, node}
use Rattle.onix_records.specs.Grammar.{most_records}
use Rattle.onix_records.specs.declared.row.Opening.{Opening}
use Rattle.feed_mapping.specs.Elements.{Composite, composite}
use Rattle.feed_mapping.specs.Header.{Heading, heading_in, message_fields}
use Rattle.feed_mapping.specs.Notes.{Reason, wrong}
use Rattle.feed_mapping.specs.Parties.{Pair}
use Rattle.feed_mapping.specs.ProductRecords.{Variant, variants}
use Rattle.feed_mapping.specs.declared.header.HeaderRefusal.{HeaderRefusal}
use Rattle.feed_mapping.specs.declared.notes.Wrong.TheVariants.{TooLarge}
use Rattle.feed_conversion.specs.Conversion.{Options, header_refused, supply_choices}
use Rattle.feed_conversion.specs.Messages.{closing_record}
use Rattle.feed_conversion.specs.Packing.{beyond_at}
use Rattle.feed_conversion.specs.Tallies.{counted, no_tally, place_of, refused_for, tallied}
use Rattle.feed_conversion.specs.Tallies.{with_suppliers}
use Rattle.feed_conversion.specs.declared.refusal.Refusal.{Refusal}
use Rattle.feed_conversion.specs.declared.refusal.Refusal.TheVariants as why
use Rattle.feed_conversion.specs.declared.tally.Counted.{Counted}
use Rattle.feed_conversion.specs.declared.tally.Tally.{Tally}

-- the parts of a message: the fields of their first records before and behind the number, the
-- number of the first part, what its record says, how many parts are full, how many records the
-- next one has so far, their text, and the place of the first product for which there is no part
pub record OpenParts : Type 0 where
  pub front : List (List ℕ)
  pub back : List (List ℕ)
  pub number : ℕ
  pub opening : Opening
  pub full : ℕ
  pub count : ℕ
  pub text : List ℕ
  pub beyond : Option ⊤
  pub tally : Tally

-- what the target has made of the parts that it has taken, and what is told of the products
pub record Taken (P : Type 0) : Type 0 where
  pub parts : P
  pub counted : Counted

abbrev pub taken : {P : Type 0} → P → Counted → Taken P
taken parts told = record { parts = parts; counted = told }

-- the parts of a message, with what the target has made of those that it has taken
pub record Stored (P : Type 0) : Type 0 where
  pub begun : OpenParts
  pub parts : P

abbrev pub stored : {P : Type 0} → OpenParts → P → Stored P
stored begun parts = record { begun = begun; parts = parts }

-- where a message is: before its Header, refused, or in its parts
pub data Stage : Type 0 where
  unbegun : Stage
  refused : Refusal → Stage
  within : OpenParts → Stage

-- a message that is being converted, with what the target has made of what it has taken
pub record State (P : Type 0) : Type 0 where
  pub options : Options
  pub parts : P
  pub stage : Stage

-- before the Header
abbrev pub first_state : {P : Type 0} → Options → P → State P
first_state o parts = record { options = o; parts = parts; stage = unbegun }

-- ---- parts

-- the first record of the part behind so many
abbrev pub numbered : OpenParts → ℕ → List (List ℕ)
numbered b before = b.front ++ (decimal (b.number + before) ∷ b.back)

-- the text of the record that ends a message, behind so many
abbrev pub end_text : ℕ → List ℕ
end_text before = records_text (closing_record before ∷ [])

-- the text with which the part behind so many begins
abbrev pub first_text : OpenParts → ℕ → List ℕ
first_text b before = records_text (numbered b before ∷ [])

-- a part of so many records and bytes has room for so many more
unfoldable pub has_room : ℕ → ℕ → ℕ → ℕ → Bool
has_room count size more bytes =
    nat_le (count + more + 1) most_records
    && nat_le (size + bytes + length (end_text (count + more))) limit

-- with so many more records, of this text, in the part that was begun
abbrev pub grown : OpenParts → ℕ → List ℕ → OpenParts
grown b more text = record b { count = b.count + more; text = b.text ++ text }

-- with so many records, of this text, of a product at this place in the next part
abbrev pub in_next_part : ℕ → OpenParts → ⊤ → ℕ → List ℕ → OpenParts
in_next_part most b place more text = record {
  front = b.front;
  back = b.back;
  number = b.number;
  opening = b.opening;
  full = b.full + 1;
  count = 1 + more;
  text = first_text b (b.full + 1) ++ text;
  beyond = beyond_at most (b.full + 1) b.beyond place;
  tally = b.tally;
}

-- with a text as the part behind so many, where there are more parts
abbrev pub with_part : {P : Type 0} → (P → List ℕ → P) → ℕ → ℕ → List ℕ → P → P
with_part k most full text parts = if nat_lt full most then k parts text else parts

-- the parts, with the one that was begun
abbrev pub with_begun : {P : Type 0} → (P → List ℕ → P) → ℕ → Stored P → P
with_begun k most h = with_part k most h.begun.full (h.begun.text ++ end_text h.begun.count) h.parts

-- with a product of so many records, of this text, in the part that was begun, in the next one, or
-- in none
unfoldable pub kept : {P : Type 0} → (P → List ℕ → P) → ℕ → Stored P → ⊤ → ℕ → List ℕ
    → Option (Stored P)
kept k most h place more text =
    if has_room h.begun.count (length h.begun.text) more (length text)
    then Some (stored (grown h.begun more text) h.parts)
    else if has_room 1 (length (first_text h.begun (h.begun.full + 1))) more (length text)
    then Some (stored (in_next_part most h.begun place more text) (with_begun k most h))
    else None

-- a call kept a product, or changed nothing
abbrev pub IsKept : {P : Type 0} → Bool → Stored P → Stored P → Option (Stored P) → Type 0
IsKept true old new told = told ≡ Some new
IsKept false old new told = (told ≡ None) × (new ≡ old)

-- ---- products

-- with one more product, which has these notes
abbrev pub noted : {P : Type 0} → Composite → List Reason → Stored P → Stored P
noted c notes h =
    stored (record h.begun { tally = tallied h.begun.tally c notes }) h.parts

-- a variant of a product, in the part that was begun, in the next one, or in none
abbrev pub with_variant : {P : Type 0} → (P → List ℕ → P) → ℕ → Stored P → Composite
    → List (List (List ℕ)) → List Reason → Option (Stored P)
with_variant k most h c records notes =
    option_map (noted c notes)
    (kept k most h (place_of c) (length records) (records_text records))

abbrev pub with_variants : {P : Type 0} → (P → List ℕ → P) → ℕ → Stored P → Composite → List Variant
    → Stored P
with_variants k most h c [] = noted c (wrong TooLarge [] ∷ []) h
with_variants k most h c (v ∷ more) =
    unwrap_or (with_variant k most h c v.records v.notes) (with_variants k most h c more)

-- with the suppliers of one more product
abbrev pub seen_by : Option Pair → Nodes → OpenParts → OpenParts
seen_by named product b = record b { tally = with_suppliers named product b.tally }

unfoldable pub after_product : {P : Type 0} → (P → List ℕ → P) → Options → Stored P → Composite
    → Stored P
after_product k o h c =
    with_variants k o.choices.parts
    (stored (seen_by o.choices.supplier c.below h.begun) h.parts) c
    (variants h.begun.opening (supply_choices o) c.below)

-- ---- elements

-- the fields of the record with which the first part begins
abbrev pub first_fields : Heading → Nodes → List (List ℕ)
first_fields h header =
    codes "Message" ∷ message_fields h.sender h.addressee (decimal h.number) header

-- the parts of a message of this heading, before the first product
abbrev pub first_begun : Heading → Nodes → OpenParts
first_begun h header = record {
  front = take 6 (first_fields h header);
  back = drop 7 (first_fields h header);
  number = h.number;
  opening = h.opening;
  full = 0;
  count = 1;
  text = records_text (first_fields h header ∷ []);
  beyond = None;
  tally = no_tally;
}

abbrev pub begun_by : Composite → Result Heading HeaderRefusal → Stage
begun_by header (Err refusal) = refused (header_refused header refusal)
begun_by header (Ok h) = within (first_begun h header.below)

-- the first Header begins the message, and a second one refuses it
abbrev pub stage_after_header : Stage → Options → Composite → Stage
stage_after_header unbegun o c =
    if has_stranger c.below then refused (why.OtherNamespace (place_of c))
    else begun_by c (heading_in o.choices c.below)
stage_after_header (refused refusal) o c = refused refusal
stage_after_header (within b) o c = refused (why.SecondHeader (place_of c))

-- an element of another namespace refuses it
abbrev pub stage_after_stranger : Stage → Composite → Stage
stage_after_stranger (refused refusal) c = refused refusal
stage_after_stranger other c = refused (why.OtherNamespace (place_of c))

abbrev pub at_stage : {P : Type 0} → State P → Stage → State P
at_stage s stage = record s { stage = stage }

abbrev pub with_stored : {P : Type 0} → State P → Stored P → State P
with_stored s h =
    record { options = s.options; parts = h.parts; stage = within h.begun }

abbrev pub with_product : {P : Type 0} → (P → List ℕ → P) → Stage → State P → Composite → State P
with_product k unbegun s c = at_stage s (refused (why.NoHeader (Some (place_of c))))
with_product k (refused refusal) s c = s
with_product k (within b) s c =
    with_stored s (after_product k s.options (stored b s.parts) c)

abbrev pub after_element : {P : Type 0} → (P → List ℕ → P) → State P → Composite → State P
after_element k s c =
    if bytes_eq c.element.name (codes "Header")
    then at_stage s (stage_after_header s.stage s.options c)
    else if bytes_eq c.element.name (codes "Product") then with_product k s.stage s c
    else if bytes_eq c.element.name stranger then at_stage s (stage_after_stranger s.stage c)
    else s

-- after the element that lines tell
abbrev pub after_nodes : {P : Type 0} → (P → List ℕ → P) → State P → Nodes → State P
after_nodes k s no_nodes = s
after_nodes k s (node name tag text below rest) = after_element k s (composite name tag text below)

-- ---- the end

-- so many messages without products, the first of which is the part behind so many
abbrev pub empty_parts : OpenParts → ℕ → ℕ → List (List ℕ)
empty_parts b before zero = []
empty_parts b before (suc more) =
    (first_text b before ++ end_text 1) ∷ empty_parts b (suc before) more

-- the parts at the end: with the one that was begun, and those that are left over
abbrev pub all_parts : {P : Type 0} → (P → List ℕ → P) → ℕ → Stored P → P
all_parts k most h =
    fold k (with_begun k most h)
    (empty_parts h.begun (h.begun.full + 1) (most - (h.begun.full + 1)))

-- what the target has made of all at the end
abbrev pub ended_at : {P : Type 0} → (P → List ℕ → P) → ℕ → Stored P → Option ⊤
    → Result (Taken P) Refusal
ended_at k most h (Some place) = Err (why.Parts (h.begun.full + 1) place)
ended_at k most h None = Ok (taken (all_parts k most h) (counted h.begun.tally))

abbrev pub ended_by : {P : Type 0} → (P → List ℕ → P) → ℕ → Stored P → Option Refusal
    → Result (Taken P) Refusal
ended_by k most h (Some refusal) = Err refusal
ended_by k most h None = ended_at k most h h.begun.beyond

abbrev pub ended : {P : Type 0} → (P → List ℕ → P) → Options → Stored P → Result (Taken P) Refusal
ended k o h = ended_by k o.choices.parts h (refused_for o.wrong h.begun.tally)

abbrev pub finished_at : {P : Type 0} → (P → List ℕ → P) → Stage → State P
    → Result (Taken P) Refusal
finished_at k unbegun s = Err (why.NoHeader None)
finished_at k (refused refusal) s = Err refusal
finished_at k (within b) s = ended k s.options (stored b s.parts)

-- what has come of a message at its end
abbrev pub finished : {P : Type 0} → (P → List ℕ → P) → State P → Result (Taken P) Refusal
finished k s = finished_at k s.stage s
