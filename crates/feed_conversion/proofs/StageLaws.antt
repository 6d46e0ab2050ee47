-- What the program keeps of a message, element by element, comes to what the message is defined to say.
use Rattle.std.proofs.Common.{◌≡◌, ℕ, ◌+◌, Bool, true, false, List, [], ◌∷◌, fold, refl, sym, ap, ◌∙◌, arith}
use Rattle.std.specs.Prelude.{Option, Some, None, Result, Ok, Err, codes, decimal, take, drop}
use Rattle.std.specs.Option.{option_map_or}
use Rattle.std.specs.Str.{bytes_eq}
use Rattle.std.proofs.lemmas.Slice.Eq.{bytes_eq-Decides}
use Rattle.csv_records.specs.RecordTexts.{records_text}
use Rattle.feed_outline.specs.Composites.{has_stranger}
use Rattle.feed_outline.specs.Names.{stranger}
use Rattle.feed_outline.specs.Nodes.{Nodes, Tag, no_nodes, node}
use Rattle.feed_outline.specs.Outline.{Line, part, parts_of}
use Rattle.feed_outline.specs.Outlined.{outlined}
use Rattle.feed_mapping.specs.Elements.{Composite, composite}
use Rattle.feed_mapping.specs.Header.{Heading, heading_in, message_fields}
use Rattle.feed_mapping.specs.declared.header.HeaderRefusal.{HeaderRefusal}
use Rattle.feed_conversion.specs.declared.refusal.Refusal.{Refusal}
use Rattle.feed_conversion.specs.declared.refusal.Refusal.TheVariants as why
use Rattle.feed_conversion.specs.Conversion.{Options, after_header, conversion, header_in, header_refused, products_in, refused_behind, settings}
use Rattle.feed_conversion.specs.Packing.{Converted, Packing, after_products, no_packing}
use Rattle.feed_conversion.specs.Tallies.{no_tally}
use Rattle.feed_conversion.specs.Packing as defined
use Rattle.feed_conversion.specs.private.Stages.{Stored, Stage, State, Taken, after_element, after_nodes, at_stage, begun_by, finished, first_fields, first_state, stored, refused, stage_after_header, stage_after_stranger, with_stored, with_product, within}
use Rattle.feed_conversion.specs.private.Stages as run
use Rattle.feed_conversion.proofs.PackingLaws.{behind, ended_is, product_is, result_map, seen}

abbrev pub after_lines : {P : Type 0} → (P → List ℕ → P) → State P → List Line → State P
after_lines k s lines = after_nodes k s (outlined lines)

-- lines that are the outline of an element tell it
abbrev pub Tell : Type 0
Tell = (name : List ℕ) (tag : Tag) (text : List ℕ) (below : Nodes) → outlined (part name tag text below) ≡ node name tag text below no_nodes

lines_tell : {P : Type 0} (k : P → List ℕ → P) → Tell → (s : State P) (name : List ℕ) (tag : Tag) (text : List ℕ) (below : Nodes)
    → after_lines k s (part name tag text below) ≡ after_element k s (composite name tag text below)
lines_tell k tell s name tag text below = ap (after_nodes k s) (tell name tag text below)

-- no element is both
apart : (name : List ℕ) → bytes_eq name (codes "Product") ≡ true → bytes_eq name (codes "Header") ≡ false
apart name e = ap (λ (n : List ℕ). bytes_eq n (codes "Header")) ((bytes_eq-Decides name (codes "Product")).0 e)

-- ---- refused

element_refused : {P : Type 0} (k : P → List ℕ → P) (s : State P) (e : Refusal) (c : Composite) → s.stage ≡ refused e → (after_element k s c).stage ≡ refused e
element_refused {P} k s e c is =
    go (bytes_eq c.element.name (codes "Header")) refl (bytes_eq c.element.name (codes "Product")) refl (bytes_eq c.element.name stranger) refl
  where
    go : (h : Bool) → bytes_eq c.element.name (codes "Header") ≡ h → (p : Bool) → bytes_eq c.element.name (codes "Product") ≡ p → (x : Bool) → bytes_eq c.element.name stranger ≡ x
        → (after_element k s c).stage ≡ refused e
    go true f p g x i = rw f (ap (λ (stage : Stage). stage_after_header stage s.options c) is)
    go false f true g x i = rw (f, g) (ap (λ (stage : Stage). (with_product k stage s c).stage) is ∙ is)
    go false f false g true i = rw (f, g, i) (ap (λ (stage : Stage). stage_after_stranger stage c) is)
    go false f false g false i = rw (f, g, i) is

refused_stays : {P : Type 0} (k : P → List ℕ → P) → Tell → (s : State P) (e : Refusal) (nodes : Nodes) → s.stage ≡ refused e → (fold (after_lines k) s (parts_of nodes)).stage ≡ refused e
refused_stays k tell s e no_nodes is = is
refused_stays {P} k tell s e (node name tag text below rest) is =
    refused_stays k tell (after_lines k s (part name tag text below)) e rest next
  where
    next : (after_lines k s (part name tag text below)).stage ≡ refused e
    next = ap (λ (t : State P). t.stage) (lines_tell k tell s name tag text below) ∙ element_refused k s e (composite name tag text below) is

-- ---- in its parts

abbrev pub state_of : {P : Type 0} → Options → Stored P → State P
state_of o h = record { options = o; parts = h.parts; stage = within h.begun }

-- a state is that of this work, or refused so
abbrev pub IsAt : {P : Type 0} → (P → List ℕ → P) → Options → Heading → Nodes → Taken P → State P → Option Refusal → Packing → Type 0
IsAt k o h header before s (Some e) w = s.stage ≡ refused e
IsAt k o h header before s None w = s ≡ state_of o (seen k h header before w)

passed : {P : Type 0} (k : P → List ℕ → P) (o : Options) (h : Heading) (header : Nodes) (before : Taken P) (rest : Nodes) (t s : State P) (r : Option Refusal) (w : Packing) → t ≡ s
    → IsAt k o h header before (fold (after_lines k) s (parts_of rest)) r w → IsAt k o h header before (fold (after_lines k) t (parts_of rest)) r w
passed k o h header before rest t s r w is later = rw is later

pub products_are : {P : Type 0} (k : P → List ℕ → P) → Tell → (o : Options) (h : Heading) (header : Nodes) (before : Taken P) (nodes : Nodes) (w : Packing)
    → IsAt k o h header before (fold (after_lines k) (state_of o (seen k h header before w)) (parts_of nodes)) (refused_behind nodes) (after_products (settings o h header) w (products_in nodes))
products_are k tell o h header before no_nodes w = refl
products_are {P} k tell o h header before (node name tag text below rest) w =
    go (bytes_eq name (codes "Product")) refl (bytes_eq name (codes "Header")) refl (bytes_eq name stranger) refl (λ v. products_are k tell o h header before rest v)
  where
    go : (p : Bool) → bytes_eq name (codes "Product") ≡ p → (x : Bool) → bytes_eq name (codes "Header") ≡ x → (y : Bool) → bytes_eq name stranger ≡ y
        → ((v : Packing) → IsAt k o h header before (fold (after_lines k) (state_of o (seen k h header before v)) (parts_of rest)) (refused_behind rest) (after_products (settings o h header) v (products_in rest)))
        → IsAt k o h header before (fold (after_lines k) (state_of o (seen k h header before w)) (parts_of (node name tag text below rest))) (refused_behind (node name tag text below rest))
        (after_products (settings o h header) w (products_in (node name tag text below rest)))
    go true f x g y i later =
        let other : bytes_eq name (codes "Header") ≡ false = apart name f in
        let one : after_element k (state_of o (seen k h header before w)) (composite name tag text below)
        ≡ with_stored (state_of o (seen k h header before w)) (run.after_product k o (seen k h header before w) (composite name tag text below)) = rw (other, f) refl in
        let step : after_lines k (state_of o (seen k h header before w)) (part name tag text below)
        ≡ state_of o (seen k h header before (defined.after_product (settings o h header) w (composite name tag text below))) =
        lines_tell k tell (state_of o (seen k h header before w)) name tag text below ∙ one
        ∙ ap (with_stored (state_of o (seen k h header before w))) (product_is k o h header before w (composite name tag text below)) in
        rw (other, f)
        (passed k o h header before rest (after_lines k (state_of o (seen k h header before w)) (part name tag text below)) (state_of o (seen k h header before (defined.after_product (settings o h header) w (composite name tag text below))))
        (refused_behind rest) (after_products (settings o h header) (defined.after_product (settings o h header) w (composite name tag text below)) (products_in rest)) step (later (defined.after_product (settings o h header) w (composite name tag text below))))
    go false f true g y i later =
        let one : (after_element k (state_of o (seen k h header before w)) (composite name tag text below)).stage ≡ refused (why.SecondHeader tt) = rw g refl in
        let step : (after_lines k (state_of o (seen k h header before w)) (part name tag text below)).stage ≡ refused (why.SecondHeader tt) =
        ap (λ (s : State P). s.stage) (lines_tell k tell (state_of o (seen k h header before w)) name tag text below) ∙ one in
        rw (f, g) (refused_stays k tell (after_lines k (state_of o (seen k h header before w)) (part name tag text below)) (why.SecondHeader tt) rest step)
    go false f false g true i later =
        let one : (after_element k (state_of o (seen k h header before w)) (composite name tag text below)).stage ≡ refused (why.OtherNamespace tt) = rw (g, f, i) refl in
        let step : (after_lines k (state_of o (seen k h header before w)) (part name tag text below)).stage ≡ refused (why.OtherNamespace tt) =
        ap (λ (s : State P). s.stage) (lines_tell k tell (state_of o (seen k h header before w)) name tag text below) ∙ one in
        rw (f, g, i) (refused_stays k tell (after_lines k (state_of o (seen k h header before w)) (part name tag text below)) (why.OtherNamespace tt) rest step)
    go false f false g false i later =
        let one : after_element k (state_of o (seen k h header before w)) (composite name tag text below) ≡ state_of o (seen k h header before w) = rw (g, f, i) refl in
        let step : after_lines k (state_of o (seen k h header before w)) (part name tag text below) ≡ state_of o (seen k h header before w) =
        lines_tell k tell (state_of o (seen k h header before w)) name tag text below ∙ one in
        rw (f, g, i)
        (passed k o h header before rest (after_lines k (state_of o (seen k h header before w)) (part name tag text below)) (state_of o (seen k h header before w))
        (refused_behind rest) (after_products (settings o h header) w (products_in rest)) step (later w))

-- ---- the whole message

abbrev pub start : {P : Type 0} → Options → Taken P → State P
start o before = first_state o before.parts

-- before the first product, with the number of the first part and what the target had taken
abbrev begun_at : {P : Type 0} → Options → Heading → Nodes → ℕ → Taken P → State P
begun_at o h header number before = state_of o (stored (record {
  front = take 6 (first_fields h header);
  back = drop 7 (first_fields h header);
  number = h.number;
  opening = h.opening;
  full = 0;
  count = 1;
  text = records_text ((codes "Message" ∷ message_fields h.sender h.addressee (decimal number) header) ∷ []);
  beyond = None;
  tally = no_tally;
}) before.parts)

begun_is : {P : Type 0} (k : P → List ℕ → P) (o : Options) (h : Heading) (header : Nodes) (before : Taken P) → at_stage (start o before) (within (run.first_begun h header)) ≡ state_of o (seen k h header before no_packing)
begun_is k o h header before =
    let number : h.number ≡ h.number + 0 = omega arith in
    ap (λ (n : ℕ). begun_at o h header n before) number

-- what comes of elements where this refuses them, or nothing does
came : {P : Type 0} (k : P → List ℕ → P) (o : Options) (h : Heading) (header : Nodes) (before : Taken P) (s : State P) (r : Option Refusal) (w : Packing) → IsAt k o h header before s r w
    → finished k s ≡ result_map (behind k before) (option_map_or Err r (defined.ended (settings o h header) w))
came k o h header before s (Some e) w is = ap (λ (stage : Stage). run.finished_at k stage s) is
came k o h header before s None w is = ap (finished k) is ∙ ended_is k o h header before w

-- a message that is refused at once
refused_here : {P : Type 0} (k : P → List ℕ → P) → Tell → (rest : Nodes) (t : State P) (e : Refusal) → t.stage ≡ refused e → finished k (fold (after_lines k) t (parts_of rest)) ≡ Err e
refused_here k tell rest t e is = ap (λ (stage : Stage). run.finished_at k stage (fold (after_lines k) t (parts_of rest))) (refused_stays k tell t e rest is)

-- what comes of a Header with these elements behind it
headed_is : {P : Type 0} (k : P → List ℕ → P) → Tell → (o : Options) (before : Taken P) (c : Composite) (rest : Nodes) (heading : Result Heading HeaderRefusal) (t : State P) → t ≡ at_stage (start o before) (begun_by c heading)
    → finished k (fold (after_lines k) t (parts_of rest)) ≡ result_map (behind k before) (after_header o c rest heading)
headed_is {P} k tell o before c rest (Err refusal) t is = refused_here k tell rest t (header_refused c refusal) (ap (λ (u : State P). u.stage) is)
headed_is {P} k tell o before c rest (Ok h) t is =
    ap (λ (u : State P). finished k (fold (after_lines k) u (parts_of rest))) (is ∙ begun_is k o h c.below before)
    ∙ came k o h c.below before (fold (after_lines k) (state_of o (seen k h c.below before no_packing)) (parts_of rest)) (refused_behind rest)
    (after_products (settings o h c.below) no_packing (products_in rest)) (products_are k tell o h c.below before rest no_packing)

pub conversion_is : {P : Type 0} (k : P → List ℕ → P) → Tell → (o : Options) (before : Taken P) (nodes : Nodes)
    → finished k (fold (after_lines k) (start o before) (parts_of nodes)) ≡ result_map (behind k before) (conversion o nodes)
conversion_is k tell o before no_nodes = refl
conversion_is {P} k tell o before (node name tag text below rest) =
    go (bytes_eq name (codes "Header")) refl (bytes_eq name (codes "Product")) refl (bytes_eq name stranger) refl (has_stranger below) refl (conversion_is k tell o before rest)
  where
    next : State P
    next = after_lines k (start o before) (part name tag text below)

    at_once : (e : Refusal) → (after_element k (start o before) (composite name tag text below)).stage ≡ refused e → finished k (fold (after_lines k) next (parts_of rest)) ≡ Err e
    at_once e is = refused_here k tell rest next e (ap (λ (s : State P). s.stage) (lines_tell k tell (start o before) name tag text below) ∙ is)

    go : (x : Bool) → bytes_eq name (codes "Header") ≡ x → (p : Bool) → bytes_eq name (codes "Product") ≡ p → (y : Bool) → bytes_eq name stranger ≡ y → (z : Bool) → has_stranger below ≡ z
        → finished k (fold (after_lines k) (start o before) (parts_of rest)) ≡ result_map (behind k before) (conversion o rest)
        → finished k (fold (after_lines k) (start o before) (parts_of (node name tag text below rest))) ≡ result_map (behind k before) (conversion o (node name tag text below rest))
    go true g p f y i true j later = rw (g, j) (at_once (why.OtherNamespace tt) (rw (g, j) refl))
    go true g p f y i false j later =
        let one : after_element k (start o before) (composite name tag text below)
        ≡ at_stage (start o before) (begun_by (composite name tag text below) (heading_in o.choices below)) = rw (g, j) refl in
        let told : conversion o (node name tag text below rest) ≡ after_header o (composite name tag text below) rest (heading_in o.choices below) = rw (g, j) refl in
        headed_is k tell o before (composite name tag text below) rest (heading_in o.choices below) next (lines_tell k tell (start o before) name tag text below ∙ one)
        ∙ ap (result_map (behind k before)) (sym told)
    go false g true f y i z j later = rw (g, f) (at_once (why.NoHeader (Some tt)) (rw (g, f) refl))
    go false g false f true i z j later = rw (g, f, i) (at_once (why.OtherNamespace tt) (rw (g, f, i) refl))
    go false g false f false i z j later =
        let one : after_element k (start o before) (composite name tag text below) ≡ start o before = rw (g, f, i) refl in
        let same : conversion o (node name tag text below rest) ≡ conversion o rest = rw (g, f, i) refl in
        ap (λ (s : State P). finished k (fold (after_lines k) s (parts_of rest))) (lines_tell k tell (start o before) name tag text below ∙ one) ∙ later
        ∙ ap (result_map (behind k before)) (sym same)

-- ---- what a message that is converted begins with

-- no element is both
only_header : (name : List ℕ) → bytes_eq name (codes "Header") ≡ true → bytes_eq name (codes "Product") ≡ false
only_header name e = ap (λ (n : List ℕ). bytes_eq n (codes "Product")) ((bytes_eq-Decides name (codes "Header")).0 e)

-- its Header, and what comes of its Products
pub record Headed (o : Options) (nodes : Nodes) (made : Converted) : Type 0 where
  pub header : Composite
  pub counts : header_in nodes ≡ Some header
  pub heading : Heading
  pub says : heading_in o.choices header.below ≡ Ok heading
  pub comes : defined.ended (settings o heading header.below) (after_products (settings o heading header.below) no_packing (products_in nodes)) ≡ Ok made

pub headed : (o : Options) (nodes : Nodes) (made : Converted) → conversion o nodes ≡ Ok made → Headed o nodes made
headed o no_nodes made e = absurd cc
headed o (node name tag text below rest) made e =
    go (bytes_eq name (codes "Header")) refl (bytes_eq name (codes "Product")) refl (bytes_eq name stranger) refl (has_stranger below) refl (heading_in o.choices below) refl (refused_behind rest) refl (headed o rest made)
  where
    go : (x : Bool) → bytes_eq name (codes "Header") ≡ x → (p : Bool) → bytes_eq name (codes "Product") ≡ p → (y : Bool) → bytes_eq name stranger ≡ y → (z : Bool) → has_stranger below ≡ z
        → (heading : Result Heading HeaderRefusal) → heading_in o.choices below ≡ heading → (r : Option Refusal) → refused_behind rest ≡ r
        → (conversion o rest ≡ Ok made → Headed o rest made) → Headed o (node name tag text below rest) made
    go true g p f y i true j heading a r b later = let no = rw (g, j) at e in absurd cc
    go true g p f y i false j (Err refusal) a r b later = let no = rw (g, j, a) at e in absurd cc
    go true g p f y i false j (Ok h) a (Some refusal) b later = let no = rw (g, j, a, b) at e in absurd cc
    go true g p f y i false j (Ok h) a None b later =
        let t = settings o h below in
        let told : conversion o (node name tag text below rest) ≡ defined.ended t (after_products t no_packing (products_in rest)) = rw (g, j, a, b) refl in
        let products : products_in (node name tag text below rest) ≡ products_in rest = rw (only_header name g) refl in record {
          header = composite name tag text below;
          counts = rw g refl;
          heading = h;
          says = a;
          comes = ap (λ (cs : List Composite). defined.ended t (after_products t no_packing cs)) products ∙ sym told ∙ e;
        }
    go false g true f y i z j heading a r b later = let no = rw (g, f) at e in absurd cc
    go false g false f true i z j heading a r b later = let no = rw (g, f, i) at e in absurd cc
    go false g false f false i z j heading a r b later =
        let same : conversion o (node name tag text below rest) ≡ conversion o rest = rw (g, f, i) refl in
        let first : header_in (node name tag text below rest) ≡ header_in rest = rw (g, f) refl in
        let products : products_in (node name tag text below rest) ≡ products_in rest = rw f refl in
        let it = later (sym same ∙ e) in
        let t = settings o it.heading it.header.below in record {
          header = it.header;
          counts = first ∙ it.counts;
          heading = it.heading;
          says = it.says;
          comes = ap (λ (cs : List Composite). defined.ended t (after_products t no_packing cs)) products ∙ it.comes;
        }
