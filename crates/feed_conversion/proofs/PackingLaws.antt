-- The program packs as it is defined.
use Rattle.std.proofs.Common.{◌≡◌, ◌<◌, ℕ, zero, suc, ◌+◌, ◌-◌, Bool, true, false, ltb, List, [], ◌∷◌, ◌++◌, length, length-append, option_map, refl, sym, ap, ◌∙◌, fold, arith}
use Rattle.std.specs.Prelude.{Option, Some, None, Result, Ok, Err, take, drop}
use Rattle.std.specs.Option.{unwrap_or}
use Rattle.std.proofs.lemmas.Bool.{lt-ltb}
use Rattle.std.proofs.lemmas.List.Sums.{fold-append, fold_push}
use Rattle.std.specs.Prelude.{⊤}
use Rattle.csv_records.specs.RecordTexts.{records_text}
use Rattle.feed_outline.specs.Nodes.{Nodes}
use Rattle.feed_mapping.specs.Elements.{Composite}
use Rattle.feed_mapping.specs.Header.{Heading}
use Rattle.feed_mapping.specs.Notes.{Reason, wrong}
use Rattle.feed_mapping.specs.ProductRecords.{Variant, variants}
use Rattle.feed_conversion.specs.Conversion.{Options, first_record, settings, supply_choices}
use Rattle.feed_conversion.specs.Messages.{empty_messages, fits, message_text}
use Rattle.feed_conversion.specs.Packing.{Converted, Packing}
use Rattle.feed_conversion.specs.Packing as defined
use Rattle.feed_conversion.specs.private.Stages.{OpenParts, Stored, Taken, empty_parts, end_text, first_fields, first_text, has_room, stored, kept, taken, with_part}
use Rattle.feed_conversion.specs.private.Stages.{after_product as product_taken}
use Rattle.feed_conversion.specs.private.Stages as run
use Rattle.feed_conversion.specs.Tallies.{counted, place_of, refused_for}
use Rattle.feed_conversion.specs.declared.refusal.Refusal.{Refusal}
use Rattle.feed_conversion.proofs.Endings.{ended_at, ended_by, joined}
use Rattle.feed_conversion.proofs.TextLaws.{closed, grown, room, text_first}

-- what f makes of a value, if there is one
abbrev pub result_map : {A B E : Type 0} → (A → B) → Result A E → Result B E
result_map f (Ok x) = Ok (f x)
result_map f (Err e) = Err e

abbrev pub seen_begun : Heading → Nodes → Packing → OpenParts
seen_begun h header w = record {
  front = take 6 (first_fields h header);
  back = drop 7 (first_fields h header);
  number = h.number;
  opening = h.opening;
  full = w.full;
  count = 1 + length w.begun;
  text = records_text (first_record h header w.full ∷ w.begun);
  beyond = w.beyond;
  tally = w.tally;
}

-- what the program keeps of this work, where the target had taken something before
abbrev pub seen : {P : Type 0} → (P → List ℕ → P) → Heading → Nodes → Taken P → Packing → Stored P
seen k h header before w =
    stored (seen_begun h header w) (fold k before.parts w.parts)

-- a part behind those before
parted : {P : Type 0} (k : P → List ℕ → P) (most full : ℕ) (text : List ℕ) (before : P) (parts : List (List ℕ))
    → with_part k most full text (fold k before parts) ≡ fold k before (defined.with_part most full text parts)
parted k most full text before parts = go (ltb full most) refl
  where
    go : (more : Bool) → ltb full most ≡ more → with_part k most full text (fold k before parts) ≡ fold k before (defined.with_part most full text parts)
    go true e = rw e (sym (fold_push k before parts text))
    go false e = rw e refl

pub written_is : {P : Type 0} (k : P → List ℕ → P) (o : Options) (h : Heading) (header : Nodes) (before : Taken P) (w : Packing)
    → run.with_begun k o.choices.parts (seen k h header before w) ≡ fold k before.parts (defined.with_begun (settings o h header) w)
written_is k o h header before w =
    ap (λ (t : List ℕ). with_part k o.choices.parts w.full t (fold k before.parts w.parts)) (closed (first_record h header w.full) w.begun)
    ∙ parted k o.choices.parts w.full (message_text (first_record h header w.full) w.begun) before.parts w.parts

joined_is : {P : Type 0} (k : P → List ℕ → P) (h : Heading) (header : Nodes) (before : Taken P) (w : Packing) (records : List (List (List ℕ)))
    → stored (run.grown (seen k h header before w).begun (length records) (records_text records)) (seen k h header before w).parts
    ≡ seen k h header before (joined w records)
joined_is k h header before w records =
    let count : 1 + length (w.begun ++ records) ≡ 1 + length w.begun + length records = omega (arith, length-append w.begun records) in
    rw (count, grown (first_record h header w.full) w.begun records) refl

turned_is : {P : Type 0} (k : P → List ℕ → P) (o : Options) (h : Heading) (header : Nodes) (before : Taken P) (w : Packing) (place : ⊤) (records : List (List (List ℕ)))
    → stored (run.in_next_part o.choices.parts (seen k h header before w).begun place (length records) (records_text records)) (run.with_begun k o.choices.parts (seen k h header before w))
    ≡ seen k h header before (defined.in_next_part (settings o h header) w place records)
turned_is k o h header before w place records =
    rw (written_is k o h header before w, text_first (first_record h header (w.full + 1)) records) refl

pub kept_is : {P : Type 0} (k : P → List ℕ → P) (o : Options) (h : Heading) (header : Nodes) (before : Taken P) (w : Packing) (place : ⊤) (records : List (List (List ℕ)))
    → kept k o.choices.parts (seen k h header before w) place (length records) (records_text records)
    ≡ option_map (seen k h header before) (defined.packed (settings o h header) w place records)
unfolding kept
kept_is k o h header before w place records =
    go (fits (first_record h header w.full) (w.begun ++ records)) refl (fits (first_record h header (w.full + 1)) records) refl
  where
    here : has_room (1 + length w.begun) (length (records_text (first_record h header w.full ∷ w.begun))) (length records) (length (records_text records))
        ≡ fits (first_record h header w.full) (w.begun ++ records)
    here = room (first_record h header w.full) w.begun records

    next : has_room 1 (length (records_text (first_record h header (w.full + 1) ∷ []))) (length records) (length (records_text records))
        ≡ fits (first_record h header (w.full + 1)) records
    next = room (first_record h header (w.full + 1)) [] records

    go : (a : Bool) → fits (first_record h header w.full) (w.begun ++ records) ≡ a → (b : Bool) → fits (first_record h header (w.full + 1)) records ≡ b
        → kept k o.choices.parts (seen k h header before w) place (length records) (records_text records)
        ≡ option_map (seen k h header before) (defined.packed (settings o h header) w place records)
    go true e b f = rw (here ∙ e, e) (ap Some (joined_is k h header before w records))
    go false e true f = rw (here ∙ e, e, next ∙ f, f) (ap Some (turned_is k o h header before w place records))
    go false e false f = rw (here ∙ e, e, next ∙ f, f) refl

-- ---- products

-- one form that was kept, or another
form_is : {P : Type 0} (k : P → List ℕ → P) (h : Heading) (header : Nodes) (before : Taken P) (c : Composite) (notes : List Reason) (packed : Option Packing) (other : Packing) (rest : Stored P)
    → rest ≡ seen k h header before other
    → unwrap_or (option_map (run.noted c notes) (option_map (seen k h header before) packed)) rest
    ≡ seen k h header before (unwrap_or (option_map (defined.noted c notes) packed) other)
form_is k h header before c notes None other rest is = is
form_is k h header before c notes (Some w) other rest is = refl

forms_are : {P : Type 0} (k : P → List ℕ → P) (o : Options) (h : Heading) (header : Nodes) (before : Taken P) (w : Packing) (c : Composite) (fs : List Variant)
    → run.with_variants k o.choices.parts (seen k h header before w) c fs ≡ seen k h header before (defined.with_variants (settings o h header) w c fs)
forms_are k o h header before w c [] = refl
forms_are {P} k o h header before w c (f ∷ fs) =
    ap (λ (x : Option (Stored P)). unwrap_or (option_map (run.noted c f.notes) x) (run.with_variants k o.choices.parts (seen k h header before w) c fs))
    (kept_is k o h header before w (place_of c) f.records)
    ∙ form_is k h header before c f.notes (defined.packed (settings o h header) w (place_of c) f.records) (defined.with_variants (settings o h header) w c fs) _ (forms_are k o h header before w c fs)

pub product_is : {P : Type 0} (k : P → List ℕ → P) (o : Options) (h : Heading) (header : Nodes) (before : Taken P) (w : Packing) (c : Composite)
    → product_taken k o (seen k h header before w) c ≡ seen k h header before (defined.after_product (settings o h header) w c)
unfolding product_taken
product_is k o h header before w c = forms_are k o h header before (defined.seen (settings o h header) w c) c (variants h.opening (supply_choices o) c.below)

-- ---- the end

empty_is : (h : Heading) (header : Nodes) (w : Packing) (k more : ℕ) → empty_parts (seen_begun h header w) k more ≡ empty_messages (first_record h header) k more
empty_is h header w k zero = refl
empty_is h header w k (suc more) =
    ap (λ (t : List ℕ). t ∷ empty_parts (seen_begun h header w) (suc k) more) (closed (first_record h header k) [])
    ∙ ap (λ (ts : List (List ℕ)). message_text (first_record h header k) [] ∷ ts) (empty_is h header w (suc k) more)

-- one more part without products
pub one_more : {P : Type 0} (k : P → List ℕ → P) (b : OpenParts) (most before : ℕ) (old new all : P) (text : List ℕ) → before < most → text ≡ first_text b before
    → new ≡ with_part k most before (text ++ end_text 1) old → fold k old (empty_parts b before (most - before)) ≡ all
    → fold k new (empty_parts b (before + 1) (most - (before + 1))) ≡ all
one_more {P} k b most before old new all text lt is added rest =
    let less : ltb before most ≡ true = lt-ltb before most lt in
    let count : suc (most - (before + 1)) ≡ most - before = omega (arith, lt) in
    let next : before + 1 ≡ suc before = omega arith in
    let here : with_part k most before (text ++ end_text 1) old ≡ k old (text ++ end_text 1) = rw less refl in
    ap (λ (ps : P). fold k ps (empty_parts b (before + 1) (most - (before + 1)))) (added ∙ here)
    ∙ ap (λ (t : List ℕ). fold k old ((t ++ end_text 1) ∷ empty_parts b (before + 1) (most - (before + 1)))) is
    ∙ ap (λ (n : ℕ). fold k old ((first_text b before ++ end_text 1) ∷ empty_parts b n (most - (before + 1)))) next
    ∙ ap (λ (n : ℕ). fold k old (empty_parts b before n)) count
    ∙ rest

-- what the target makes of what comes of a message, behind what it had taken before
abbrev pub behind : {P : Type 0} → (P → List ℕ → P) → Taken P → Converted → Taken P
behind k before made = taken (fold k before.parts made.parts) made.counted

all_written_is : {P : Type 0} (k : P → List ℕ → P) (o : Options) (h : Heading) (header : Nodes) (before : Taken P) (w : Packing)
    → run.all_parts k o.choices.parts (seen k h header before w) ≡ fold k before.parts (defined.all_parts (settings o h header) w)
all_written_is {P} k o h header before w =
    ap (λ (ps : P). fold k ps (empty_parts (seen_begun h header w) (w.full + 1) (o.choices.parts - (w.full + 1)))) (written_is k o h header before w)
    ∙ ap (fold k (fold k before.parts (defined.with_begun (settings o h header) w))) (empty_is h header w (w.full + 1) (o.choices.parts - (w.full + 1)))
    ∙ sym (fold-append k before.parts (defined.with_begun (settings o h header) w) (empty_messages (first_record h header) (w.full + 1) (o.choices.parts - (w.full + 1))))

pub ended_is : {P : Type 0} (k : P → List ℕ → P) (o : Options) (h : Heading) (header : Nodes) (before : Taken P) (w : Packing)
    → run.ended k o (seen k h header before w) ≡ result_map (behind k before) (defined.ended (settings o h header) w)
ended_is {P} k o h header before w = by (refused_for o.wrong w.tally)
  where
    go : (beyond : Option ⊤) → w.beyond ≡ beyond
        → run.ended_at k o.choices.parts (seen k h header before w) w.beyond ≡ result_map (behind k before) (ended_at (settings o h header) w w.beyond)
    go (Some place) e = rw e refl
    go None e =
        rw e (ap (λ (ps : P). Ok (taken ps (counted w.tally))) (all_written_is k o h header before w))

    by : (refused : Option Refusal)
        → run.ended_by k o.choices.parts (seen k h header before w) refused ≡ result_map (behind k before) (ended_by (settings o h header) w refused)
    by (Some refusal) = refl
    by None = go w.beyond refl
