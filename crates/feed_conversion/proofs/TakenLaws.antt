-- What has come of a message, and that the desk takes each part of it.
use Rattle.std.proofs.Common.{◌≡◌, ◌≤◌, ◌<◌, ℕ, zero, suc, ◌+◌, ◌-◌, true, subst, List, [], ◌∷◌, ◌++◌, map, length, refl, sym, ap, ◌∙◌, arith, inl, inr}
use Rattle.std.specs.Prelude.{Option, Some, None, Ok, nat_le}
use Rattle.std.specs.List.{AllByRecursion, flat_map, list_all}
use Rattle.std.specs.Str.{is_utf8}
use Rattle.std.proofs.lemmas.Bool.{and_parts, leb-true, ltb-true}
use Rattle.std.proofs.lemmas.List.{map-append}
use Rattle.csv.specs.Reading.{strip_bom}
use Rattle.csv_records.specs.RecordTexts.{AllFilled, limit, records_of, records_text}
use Rattle.feed_outline.specs.Nodes.{Nodes}
use Rattle.onix_records.specs.Grammar.{IsMessage, most_records}
use Rattle.onix_records.specs.Opening.{opening_of}
use Rattle.onix_records.specs.Row.{row_of}
use Rattle.onix_records.specs.declared.parts.Product.{Product}
use Rattle.onix_records.specs.declared.row.Opening.{Opening}
use Rattle.feed_mapping.specs.SupplyChoices.{SupplyChoices}
use Rattle.feed_mapping.specs.Elements.{Composite}
use Rattle.feed_mapping.specs.Header.{Choices, Heading, heading_in}
use Rattle.feed_mapping.specs.ProductRecords.{Variant, variants}
use Rattle.feed_terms.specs.declared.term.Term.{Term}
use Rattle.onix_records.specs.declared.row.Form.TheVariants.{Two}
use Rattle.feed_mapping.specs.Rows.{HaveCodes, MayCompute, AreOf, AreProducts, message_records, numbered, part_record, references_of, with_number}
use Rattle.feed_conversion.specs.Conversion.{Options, conversion, header_in, products_in, settings}
use Rattle.feed_conversion.proofs.StageLaws.{headed}
use Rattle.feed_conversion.specs.Messages.{empty_messages, fits, message, message_text}
use Rattle.feed_conversion.specs.Packing.{Converted, Settings, Packing, after_products, all_parts, no_packing}
use Rattle.feed_conversion.proofs.Endings.{converted}
use Rattle.feed_conversion.specs.Parts.{AreParts, Placing, IsFirst, IsRight, Placed, part_texts, placed_by, placed_records, references_in, placed_of}
use Rattle.feed_conversion.specs.Taken.{AreTaken, IsTaken}
use Rattle.feed_conversion.specs.Tallies.{counted}
use Rattle.feed_conversion.proofs.FirstRecords.{empty_fits, filled_message, no_mark}
use Rattle.feed_conversion.proofs.PartLaws.{AreFit, Holds, ended_ok, part_there, walk, written_count, written_texts}
use Rattle.feed_conversion.proofs.Utf8Records.{first_utf8, message_utf8}
use Rattle.feed_conversion.proofs.Utf8Texts.{text_utf8}

-- ---- what other laws say

pub record Laws : Type 0 where
  pub read : (rows : List (List (List ℕ))) → AllFilled rows → strip_bom (records_text rows) ≡ records_text rows → records_of (records_text rows) ≡ rows
  pub opening : (c : Choices) (header : Nodes) (h : Heading) → heading_in c header ≡ Ok h → (before : ℕ) → before < c.parts
      → opening_of (part_record h header before) ≡ Some (numbered (h.number + before) h.opening)
  pub rows : (n : ℕ) (o : Opening) (fields : List (List ℕ)) → row_of (numbered n o) fields ≡ row_of o fields
  pub one : (o : Opening) (choices : SupplyChoices) (nodes : Nodes) → MayCompute o choices.terms → AllByRecursion (λ f. AreOf o f.records (references_of nodes)) (variants o choices nodes)
  pub form : (c : Choices) (header : Nodes) (h : Heading) → heading_in c header ≡ Ok h → h.opening.form ≡ Two
  pub none : (o : Opening) → AreProducts o [] []
  pub joined : (o : Opening) (a b : List (List (List ℕ))) (c d : List Product) → AreProducts o a c → AreProducts o b d → AreProducts o (a ++ b) (c ++ d)
  pub message : (o : Opening) (first : List (List ℕ)) (records : List (List (List ℕ))) (products : List Product) → opening_of first ≡ Some o → AreProducts o records products
      → length (message_records first records) ≤ most_records → IsMessage (message_records first records) o.header products

-- what is known of the first records of the parts, the first of which has this number
pub record Firsts (t : Settings) (number : ℕ) : Type 0 where
  pub says : (before : ℕ) → before < t.most → opening_of (t.first before) ≡ Some (numbered (number + before) t.opening)
  pub fits_alone : (before : ℕ) → before < t.most → fits (t.first before) [] ≡ true
  pub utf8 : (before : ℕ) → before < t.most → list_all is_utf8 (t.first before) ≡ true
  pub no_mark : (before : ℕ) (records : List (List (List ℕ))) → strip_bom (records_text (t.first before ∷ records)) ≡ records_text (t.first before ∷ records)

-- ---- one part

same_rows : (l : Laws) (n : ℕ) (o : Opening) (records : List (List (List ℕ))) → map (row_of (numbered n o)) records ≡ map (row_of o) records
same_rows l n o [] = refl
same_rows l n o (r ∷ records) =
    ap (λ x. x ∷ map (row_of (numbered n o)) records) (l.rows n o r) ∙ ap (λ xs. row_of o r ∷ xs) (same_rows l n o records)

part_taken : (l : Laws) (t : Settings) (number : ℕ) → Firsts t number → (k : ℕ) → k < t.most → (records : List (List (List ℕ))) (references : List (List ℕ)) → AreOf t.opening records references
    → fits (t.first k) records ≡ true → IsTaken (number + k) (message_text (t.first k) records) references
unfolding fits
part_taken l t number f k less records references (products, named, are) room =
    let p = and_parts (nat_le (length (message (t.first k) records)) most_records) (nat_le (length (message_text (t.first k) records)) limit) room in
    let few = leb-true (length (message (t.first k) records)) most_records p.0 in
    let here : AreProducts (numbered (number + k) t.opening) records products = record { reads = same_rows l (number + k) t.opening records ∙ are.reads; details = are.details; utf8 = are.utf8 } in
    let header = with_number (number + k) t.opening.header in
    let is : IsMessage (message (t.first k) records) header products = l.message (numbered (number + k) t.opening) (t.first k) records products (f.says k less) here few in
    let same : records_of (message_text (t.first k) records) ≡ message (t.first k) records =
    l.read (message (t.first k) records) (filled_message (message (t.first k) records) header products is) (f.no_mark k _) in
    record {
      utf8 = text_utf8 (message (t.first k) records) (message_utf8 (t.first k) records (f.utf8 k less) are.utf8 few);
      within = leb-true (length (message_text (t.first k) records)) limit p.1;
      header = header;
      products = products;
      message = subst (λ (rs : List (List (List ℕ))). IsMessage rs header products) (sym same) is;
      numbered = refl;
      named = named;
    }

-- ---- several

taken_at : (n m : ℕ) (texts : List (List ℕ)) (references : List (List (List ℕ))) → n ≡ m → AreTaken n texts references → AreTaken m texts references
taken_at n m texts references same are = subst (λ (k : ℕ). AreTaken k texts references) same are

empty_taken : (l : Laws) (t : Settings) (number : ℕ) → Firsts t number → (k more : ℕ) → k + more ≤ t.most → AreTaken (number + k) (empty_messages t.first k more) []
empty_taken l t number f k zero low = tt
empty_taken l t number f k (suc more) low =
    let less : k < t.most = omega (arith, low) in (
      part_taken l t number f k less [] [] ([], refl, l.none t.opening) (f.fits_alone k less),
      taken_at (number + suc k) (suc (number + k)) (empty_messages t.first (suc k) more) [] (omega arith) (empty_taken l t number f (suc k) more (omega (arith, low))),
    )

-- products in parts, each of which is the rows of its own
abbrev IsOwn : Settings → Placed → Type 0
IsOwn t p = AreOf t.opening p.variant.records (references_of p.product.below)

all_append : {A : Type 0} (P : A → Type 0) (xs ys : List A) → AllByRecursion P xs → AllByRecursion P ys → AllByRecursion P (xs ++ ys)
all_append P [] ys f g = g
all_append P (x ∷ xs) ys f g = (f.0, all_append P xs ys f.1 g)

all_front : {A : Type 0} (P : A → Type 0) (xs ys : List A) → AllByRecursion P (xs ++ ys) → AllByRecursion P xs
all_front P [] ys f = tt
all_front P (x ∷ xs) ys f = (f.0, all_front P xs ys f.1)

all_back : {A : Type 0} (P : A → Type 0) (xs ys : List A) → AllByRecursion P (xs ++ ys) → AllByRecursion P ys
all_back P [] ys f = f
all_back P (x ∷ xs) ys f = all_back P xs ys f.1

-- a form of a product is one of its forms
first_own : (t : Settings) (before : ℕ) (f : Variant) (fs : List Variant) (P : Variant → Type 0) → IsFirst t before (Some f) fs → AllByRecursion P fs → P f
first_own t before f [] P is all = absurd cc
first_own t before f (g ∷ fs) P (inl same) all = subst P (sym (ap (found f) same)) all.0
  where
    found : Variant → Option Variant → Variant
    found other None = other
    found other (Some x) = x
first_own t before f (g ∷ fs) P (inr rest) all = first_own t before f fs P rest.1 all.1

fate_own : (l : Laws) (t : Settings) → MayCompute t.opening t.supplies.terms → (c : Composite) (variant : Option Variant) (before : ℕ) → IsFirst t before variant (variants t.opening t.supplies c.below) → AllByRecursion (IsOwn t) (placed_by variant c)
fate_own l t may c None before is = tt
fate_own l t may c (Some f) before is = (first_own t before f (variants t.opening t.supplies c.below) (λ g. AreOf t.opening g.records (references_of c.below)) is (l.one t.opening t.supplies c.below may), tt)

fates_own : (l : Laws) (t : Settings) → MayCompute t.opening t.supplies.terms → (placings : List Placing) → AllByRecursion (IsRight t) placings → AllByRecursion (IsOwn t) (flat_map placed_of placings)
fates_own l t may [] right = tt
fates_own l t may (f ∷ placings) right = all_append (IsOwn t) (placed_of f) (flat_map placed_of placings) (fate_own l t may f.product f.variant right.0.0 right.0.2) (fates_own l t may placings right.1)

-- the products of a part are the rows of its records
part_own : (l : Laws) (t : Settings) (part : List Placed) → AllByRecursion (IsOwn t) part → AreOf t.opening (placed_records part) (references_in part)
part_own l t [] own = ([], refl, l.none t.opening)
part_own l t (p ∷ part) own =
    let (ps, named, are) = own.0 in
    let (qs, others, rest) = part_own l t part own.1 in (
      ps ++ qs,
      map-append (λ (q : Product). q.reference) ps qs ∙ ap (λ (k : List (List ℕ)). k ++ map (λ (q : Product). q.reference) qs) named
          ∙ ap (λ (k : List (List ℕ)). references_of p.product.below ++ k) others,
      l.joined t.opening p.variant.records (placed_records part) ps qs are rest,
    )

parts_taken_from : (l : Laws) (t : Settings) (number : ℕ) → Firsts t number → (k : ℕ) (parts : List (List Placed)) → k + length parts ≤ t.most → AllByRecursion (IsOwn t) (flat_map (λ p. p) parts)
    → AreFit t k parts → AreTaken (number + k) (part_texts t k parts ++ empty_messages t.first (k + length parts) (t.most - (k + length parts))) (map references_in parts)
parts_taken_from l t number f k [] low own fit =
    taken_at (number + (k + 0)) (number + k) (empty_messages t.first (k + 0) (t.most - (k + 0))) [] (omega arith)
    (empty_taken l t number f (k + 0) (t.most - (k + 0)) (omega (arith, low)))
parts_taken_from l t number f k (p ∷ parts) low own fit =
    let less : k < t.most = omega (arith, low) in
    let here : k + 1 + length parts ≡ k + length (p ∷ parts) = omega arith in
    let rest = parts_taken_from l t number f (k + 1) parts (omega (arith, low)) (all_back (IsOwn t) p (flat_map (λ q. q) parts) own) fit.1 in (
      part_taken l t number f k less (placed_records p) (references_in p) (part_own l t p (all_front (IsOwn t) p (flat_map (λ q. q) parts) own)) fit.0,
      taken_at (number + (k + 1)) (suc (number + k)) (part_texts t (k + 1) parts ++ empty_messages t.first (k + length (p ∷ parts)) (t.most - (k + length (p ∷ parts)))) (map references_in parts) (omega arith)
          (subst (λ (n : ℕ). AreTaken (number + (k + 1)) (part_texts t (k + 1) parts ++ empty_messages t.first n (t.most - n)) (map references_in parts)) here rest),
    )

-- ---- the whole message

may_compute : (o : Opening) (terms : Option (List Term)) → o.form ≡ Two → HaveCodes terms → MayCompute o terms
may_compute o None two coded = tt
may_compute o (Some terms) two coded = (two, coded)

whole : (l : Laws) (o : Options) → HaveCodes o.terms → (nodes : Nodes) (made : Converted) (header : Composite) (h : Heading) → header_in nodes ≡ Some header → heading_in o.choices header.below ≡ Ok h
    → (z : Packing) → after_products (settings o h header.below) no_packing (products_in nodes) ≡ z → z.beyond ≡ None
    → converted (all_parts (settings o h header.below) z) (counted z.tally) ≡ made → AreParts o nodes made
whole l o coded nodes made header h counts says z walked none is =
    let t = settings o h header.below in
    let firsts : Firsts t h.number = record {
      says = l.opening o.choices header.below h says;
      fits_alone = λ k less. empty_fits h header.below k (numbered (h.number + k) h.opening) (l.opening o.choices header.below h says k less);
      utf8 = first_utf8 o.choices header.below h says;
      no_mark = no_mark h header.below;
    } in
    let there = part_there o.choices header.below h says in
    let start : Holds t no_packing [] = record {
      more = there;
      parts = [];
      texts = refl;
      count = refl;
      begun = [];
      records = refl;
      stand = refl;
      full = tt;
      fit = (firsts.fits_alone 0 (ltb-true 0 o.choices.parts there), tt);
      wrong = refl;
      right = tt;
    } in
    let all = (walk t (products_in nodes) no_packing (ap (λ (w : Packing). w.beyond) walked ∙ none)).holds [] start in
    let held : Holds t z all.0 = subst (λ (w : Packing). Holds t w all.0) walked all.2 in
    let parts = held.parts ++ held.begun ∷ [] in
    let count : length parts ≡ z.full + 1 = written_count t z all.0 held in
    let less : z.full < t.most = ltb-true z.full t.most held.more in
    let own : AllByRecursion (IsOwn t) (flat_map (λ p. p) parts) = subst (λ (ps : List Placed). AllByRecursion (IsOwn t) ps) (sym held.stand) (fates_own l t (may_compute h.opening o.terms (l.form o.choices header.below h says) coded) all.0 held.right) in
    let texts : made.parts ≡ part_texts t 0 parts ++ empty_messages t.first (length parts) (t.most - length parts) =
    sym (ap (λ (c : Converted). c.parts) is)
    ∙ ap (λ (ts : List (List ℕ)). ts ++ empty_messages t.first (z.full + 1) (t.most - (z.full + 1))) (sym (written_texts t z all.0 held))
    ∙ ap (λ (k : ℕ). part_texts t 0 parts ++ empty_messages t.first k (t.most - k)) (sym count) in
    let zero_there : 0 + length parts ≡ length parts = omega arith in
    let taken = parts_taken_from l t h.number firsts 0 parts (omega (arith, count, less)) own held.fit in record {
      header = header;
      counts = counts;
      heading = h;
      says = says;
      placings = all.0;
      all = all.1;
      right = held.right;
      wrong = held.wrong ∙ ap (λ (c : Converted). c.counted.wrong) is;
      parts = parts;
      stand = held.stand;
      full = held.full;
      texts = texts;
      taken = subst (λ (ts : List (List ℕ)). AreTaken h.number ts (map references_in parts)) (sym texts)
          (taken_at (h.number + 0) h.number (part_texts t 0 parts ++ empty_messages t.first (length parts) (t.most - length parts)) (map references_in parts) (omega arith)
          (subst (λ (n : ℕ). AreTaken (h.number + 0) (part_texts t 0 parts ++ empty_messages t.first n (t.most - n)) (map references_in parts)) zero_there taken));
    }

pub parts_are : (l : Laws) (o : Options) (nodes : Nodes) (made : Converted) → HaveCodes o.terms → conversion o nodes ≡ Ok made → AreParts o nodes made
parts_are l o nodes made coded e =
    let it = headed o nodes made e in
    let t = settings o it.heading it.header.below in
    let (none, is) = ended_ok t (after_products t no_packing (products_in nodes)) made it.comes in
    whole l o coded nodes made it.header it.heading it.counts it.says (after_products t no_packing (products_in nodes)) refl none is
