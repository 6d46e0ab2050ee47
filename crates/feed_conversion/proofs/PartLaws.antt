-- The products of a message stand in its parts, one after the other, each in its right form.
use Rattle.std.proofs.Common.{◌≡◌, ◌≤◌, ℕ, ◌+◌, ◌*◌, Bool, cond, count_by, true, false, ltb, subst, List, [], ◌∷◌, ◌++◌, length, length-append, map, refl, sym, ap, ◌∙◌, append-nil, append_assoc, arith, inl, inr}
use Rattle.std.specs.Prelude.{Option, Some, None, Result, Ok, Err, codes, ⊤}
use Rattle.std.specs.List.{AllByRecursion, flat_map}
use Rattle.std.proofs.lemmas.Bool.{ltb-false, ltb-true}
use Rattle.std.proofs.lemmas.Grind.{flat_map-append}
use Rattle.std.proofs.lemmas.List.Sums.{sum_by_push}
use Rattle.std.specs.Prelude.{⊤}
use Rattle.feed_outline.specs.Composites.{text_in}
use Rattle.feed_outline.specs.Nodes.{Nodes}
use Rattle.feed_mapping.specs.Elements.{Composite}
use Rattle.feed_mapping.specs.Header.{◌>>=◌, Choices, Heading, added, addressee_pair, first_number, heading_in, number_in, given_or, sender_in}
use Rattle.feed_mapping.specs.Notes.{wrong}
use Rattle.feed_mapping.specs.ProductRecords.{Variant, has_wrong, variants}
use Rattle.feed_mapping.specs.declared.header.HeaderRefusal.{HeaderRefusal}
use Rattle.feed_mapping.specs.declared.header.HeaderRefusal.TheVariants as denied
use Rattle.feed_mapping.specs.declared.notes.Wrong.TheVariants.{TooLarge}
use Rattle.feed_conversion.specs.declared.refusal.Refusal.{Refusal}
use Rattle.feed_conversion.specs.Messages.{fits, message_text}
use Rattle.feed_conversion.specs.Packing.{Converted, Settings, Packing, after_product, after_products, all_parts, beyond_at, ended, noted, in_next_part, seen, with_variants, with_part, with_begun}
use Rattle.feed_conversion.specs.Parts.{AreFull, Placing, IsFirst, IsFull, IsRight, Placed, is_placed_wrong, notes_by, part_texts, placed, placed_records, placed_of}
use Rattle.feed_conversion.proofs.Endings.{converted, ended_at, ended_by, joined}
use Rattle.feed_conversion.specs.Tallies.{counted, counts_wrong, is_of_others, place_of, refused_for, tallied}
use Rattle.feed_conversion.specs.declared.tally.Tally.{Tally}

-- ---- texts of parts

records_append : (xs ys : List Placed) → placed_records (xs ++ ys) ≡ placed_records xs ++ placed_records ys
records_append xs ys = flat_map-append (λ p. p.variant.records) xs ys

one_record : (p : Placed) → placed_records (p ∷ []) ≡ p.variant.records
one_record p = append-nil p.variant.records

texts_append : (t : Settings) (k : ℕ) (parts : List (List Placed)) (p : List Placed)
    → part_texts t k (parts ++ p ∷ []) ≡ part_texts t k parts ++ message_text (t.first (k + length parts)) (placed_records p) ∷ []
texts_append t k [] p =
    let here : k ≡ k + 0 = omega arith in ap (λ (n : ℕ). message_text (t.first n) (placed_records p) ∷ []) here
texts_append t k (q ∷ parts) p =
    let next : k + 1 + length parts ≡ k + length (q ∷ parts) = omega arith in
    ap (λ (ts : List (List ℕ)). message_text (t.first k) (placed_records q) ∷ ts) (texts_append t (k + 1) parts p)
    ∙ ap (λ (n : ℕ). message_text (t.first k) (placed_records q) ∷ (part_texts t (k + 1) parts ++ message_text (t.first n) (placed_records p) ∷ [])) next

-- ---- full parts

-- one more product in the last part
full-joined : (t : Settings) (k : ℕ) (parts : List (List Placed)) (begun : List Placed) (p : Placed) → AreFull t k (parts ++ begun ∷ []) → AreFull t k (parts ++ (begun ++ p ∷ []) ∷ [])
full-joined t k [] begun p full = tt
full-joined t k (q ∷ []) [] p full = absurd full.0
full-joined t k (q ∷ []) (b ∷ begun) p full = (full.0, tt)
full-joined t k (q ∷ r ∷ parts) begun p full = (full.0, full-joined t (k + 1) (r ∷ parts) begun p full.1)

-- one more part behind one that has no room
full-turned : (t : Settings) (k : ℕ) (parts : List (List Placed)) (begun : List Placed) (p : Placed) → AreFull t k (parts ++ begun ∷ []) → IsFull t (k + length parts) begun (p ∷ [])
    → AreFull t k ((parts ++ begun ∷ []) ++ (p ∷ []) ∷ [])
full-turned t k [] begun p full lacks =
    let here : k + 0 ≡ k = omega arith in (subst (λ (n : ℕ). IsFull t n begun (p ∷ [])) here lacks, tt)
full-turned t k (q ∷ []) begun p full lacks =
    let here : k + length (q ∷ []) ≡ k + 1 = omega arith in (full.0, (subst (λ (n : ℕ). IsFull t n begun (p ∷ [])) here lacks, tt))
full-turned t k (q ∷ r ∷ parts) begun p full lacks =
    let here : k + length (q ∷ r ∷ parts) ≡ k + 1 + length (r ∷ parts) = omega arith in
    (full.0, full-turned t (k + 1) (r ∷ parts) begun p full.1 (subst (λ (n : ℕ). IsFull t n begun (p ∷ [])) here lacks))

-- ---- parts that are not too large

-- each part, the first of which is behind so many, is not too large
abbrev pub AreFit : Settings → ℕ → List (List Placed) → Type 0
AreFit t before [] = ⊤
AreFit t before (part ∷ parts) =
    (fits (t.first before) (placed_records part) ≡ true) × AreFit t (before + 1) parts

fit-joined : (t : Settings) (k : ℕ) (parts : List (List Placed)) (begun : List Placed) (more : List Placed) → AreFit t k (parts ++ begun ∷ []) → fits (t.first (k + length parts)) (placed_records more) ≡ true
    → AreFit t k (parts ++ more ∷ [])
fit-joined t k [] begun more fit own =
    let here : k + 0 ≡ k = omega arith in (subst (λ (n : ℕ). fits (t.first n) (placed_records more) ≡ true) here own, tt)
fit-joined t k (q ∷ parts) begun more fit own =
    let here : k + length (q ∷ parts) ≡ k + 1 + length parts = omega arith in
    (fit.0, fit-joined t (k + 1) parts begun more fit.1 (subst (λ (n : ℕ). fits (t.first n) (placed_records more) ≡ true) here own))

fit-turned : (t : Settings) (k : ℕ) (parts : List (List Placed)) (next : List Placed) → AreFit t k parts → fits (t.first (k + length parts)) (placed_records next) ≡ true
    → AreFit t k (parts ++ next ∷ [])
fit-turned t k [] next fit own =
    let here : k + 0 ≡ k = omega arith in (subst (λ (n : ℕ). fits (t.first n) (placed_records next) ≡ true) here own, tt)
fit-turned t k (q ∷ parts) next fit own =
    let here : k + length (q ∷ parts) ≡ k + 1 + length parts = omega arith in
    (fit.0, fit-turned t (k + 1) parts next fit.1 (subst (λ (n : ℕ). fits (t.first n) (placed_records next) ≡ true) here own))

-- ---- one product

-- this work has come of products that have become of so
pub record Holds (t : Settings) (w : Packing) (placings : List Placing) : Type 0 where
  pub more : ltb w.full t.most ≡ true
  pub parts : List (List Placed)
  pub texts : part_texts t 0 parts ≡ w.parts
  pub count : length parts ≡ w.full
  pub begun : List Placed
  pub records : placed_records begun ≡ w.begun
  pub stand : flat_map (λ p. p) (parts ++ begun ∷ []) ≡ flat_map placed_of placings
  pub full : AreFull t 0 (parts ++ begun ∷ [])
  pub fit : AreFit t 0 (parts ++ begun ∷ [])
  pub wrong : count_by is_placed_wrong placings ≡ w.tally.wrong
  pub right : AllByRecursion (IsRight t) placings

abbrev placing : Composite → Option Variant → Placing
placing c variant = record { product = c; variant = variant }

one_more_wrong : (placings : List Placing) (c : Composite) (variant : Option Variant) (t : Tally) → count_by is_placed_wrong placings ≡ t.wrong
    → count_by is_placed_wrong (placings ++ placing c variant ∷ []) ≡ (tallied t c (notes_by variant)).wrong
one_more_wrong placings c variant t is = sum_by_push (λ f. cond (is_placed_wrong f) 1 0) placings (placing c variant) ∙ go (has_wrong (notes_by variant)) refl (is_of_others (notes_by variant)) refl
  where
    go : (b : Bool) → has_wrong (notes_by variant) ≡ b → (alone : Bool) → is_of_others (notes_by variant) ≡ alone
        → count_by is_placed_wrong placings + cond (counts_wrong (notes_by variant)) 1 0 ≡ (tallied t c (notes_by variant)).wrong
    go true e true a = rw (e, a) (omega (arith, is))
    go false e true a = rw (e, a) (omega (arith, is))
    go true e false a = rw (e, a) (omega (arith, is))
    go false e false a = rw (e, a) (omega (arith, is))

one_more_right : (t : Settings) (placings : List Placing) (f : Placing) → AllByRecursion (IsRight t) placings → IsRight t f → AllByRecursion (IsRight t) (placings ++ f ∷ [])
one_more_right t [] f all is = (is, tt)
one_more_right t (g ∷ placings) f all is = (all.0, one_more_right t placings f all.1 is)

stand_append : (parts : List (List Placed)) (begun : List Placed) → flat_map (λ p. p) (parts ++ begun ∷ []) ≡ flat_map (λ p. p) parts ++ begun
stand_append parts begun =
    flat_map-append (λ (p : List Placed). p) parts (begun ∷ []) ∙ ap (λ (k : List Placed). flat_map (λ p. p) parts ++ k) (append-nil begun)

one_more_stands : (placings : List Placing) (f : Placing) (ps : List Placed) → ps ≡ flat_map placed_of placings → ps ++ placed_of f ≡ flat_map placed_of (placings ++ f ∷ [])
one_more_stands placings f ps is =
    ap (λ (k : List Placed). k ++ placed_of f) is ∙ ap (λ (k : List Placed). flat_map placed_of placings ++ k) (sym (append-nil (placed_of f)))
    ∙ sym (flat_map-append placed_of placings (f ∷ []))

left_holds : (t : Settings) (w : Packing) (placings : List Placing) (c : Composite) → Holds t w placings → IsRight t (placing c None)
    → Holds t (noted c (wrong TooLarge [] ∷ []) w) (placings ++ placing c None ∷ [])
left_holds t w placings c h is = record {
  more = h.more;
  parts = h.parts;
  texts = h.texts;
  count = h.count;
  begun = h.begun;
  records = h.records;
  stand = sym (append-nil (flat_map (λ p. p) (h.parts ++ h.begun ∷ []))) ∙ one_more_stands placings (placing c None) _ h.stand;
  full = h.full;
  fit = h.fit;
  wrong = one_more_wrong placings c None w.tally h.wrong;
  right = one_more_right t placings (placing c None) h.right is;
}

joined_records : (t : Settings) (w : Packing) (placings : List Placing) (h : Holds t w placings) (c : Composite) (f : Variant) → placed_records (h.begun ++ placed c f ∷ []) ≡ w.begun ++ f.records
joined_records t w placings h c f =
    records_append h.begun (placed c f ∷ []) ∙ ap (λ (k : List (List (List ℕ))). k ++ placed_records (placed c f ∷ [])) h.records
    ∙ ap (λ (k : List (List (List ℕ))). w.begun ++ k) (one_record (placed c f))

joined_holds : (t : Settings) (w : Packing) (placings : List Placing) (c : Composite) (f : Variant) → fits (t.first w.full) (w.begun ++ f.records) ≡ true → Holds t w placings → IsRight t (placing c (Some f))
    → Holds t (noted c f.notes (joined w f.records)) (placings ++ placing c (Some f) ∷ [])
joined_holds t w placings c f room h is = record {
  more = h.more;
  parts = h.parts;
  texts = h.texts;
  count = h.count;
  begun = h.begun ++ placed c f ∷ [];
  records = joined_records t w placings h c f;
  stand = stand_append h.parts (h.begun ++ placed c f ∷ []) ∙ sym (append_assoc (flat_map (λ p. p) h.parts) h.begun (placed c f ∷ []))
      ∙ ap (λ (k : List Placed). k ++ placed c f ∷ []) (sym (stand_append h.parts h.begun)) ∙ one_more_stands placings (placing c (Some f)) _ h.stand;
  full = full-joined t 0 h.parts h.begun (placed c f) h.full;
  fit = fit-joined t 0 h.parts h.begun (h.begun ++ placed c f ∷ []) h.fit
      (let there : 0 + length h.parts ≡ w.full = omega (arith, h.count) in
      ap (λ (n : ℕ). fits (t.first n) (placed_records (h.begun ++ placed c f ∷ []))) there ∙ ap (λ (k : List (List (List ℕ))). fits (t.first w.full) k) (joined_records t w placings h c f) ∙ room);
  wrong = one_more_wrong placings c (Some f) w.tally h.wrong;
  right = one_more_right t placings (placing c (Some f)) h.right is;
}

pub written_count : (t : Settings) (w : Packing) (placings : List Placing) (h : Holds t w placings) → length (h.parts ++ h.begun ∷ []) ≡ w.full + 1
written_count t w placings h = length-append h.parts (h.begun ∷ []) ∙ ap (λ (n : ℕ). n + 1) h.count

-- with the part that was begun
pub written_texts : (t : Settings) (w : Packing) (placings : List Placing) (h : Holds t w placings) → part_texts t 0 (h.parts ++ h.begun ∷ []) ≡ with_begun t w
written_texts t w placings h =
    let there : 0 + length h.parts ≡ w.full = omega (arith, h.count) in
    let written_is : with_part t.most w.full (message_text (t.first w.full) w.begun) w.parts ≡ w.parts ++ message_text (t.first w.full) w.begun ∷ [] = rw h.more refl in
    texts_append t 0 h.parts h.begun ∙ ap (λ (ts : List (List ℕ)). ts ++ message_text (t.first (0 + length h.parts)) (placed_records h.begun) ∷ []) h.texts
    ∙ ap (λ (n : ℕ). w.parts ++ message_text (t.first n) (placed_records h.begun) ∷ []) there
    ∙ ap (λ (k : List (List (List ℕ))). w.parts ++ message_text (t.first w.full) k ∷ []) h.records ∙ sym written_is

-- the part that was begun has no room
no_room : (t : Settings) (w : Packing) (placings : List Placing) (h : Holds t w placings) (c : Composite) (f : Variant) → fits (t.first w.full) (w.begun ++ f.records) ≡ false
    → IsFull t (0 + length h.parts) h.begun (placed c f ∷ [])
no_room t w placings h c f lacks =
    let there : 0 + length h.parts ≡ w.full = omega (arith, h.count) in
    ap (λ (n : ℕ). fits (t.first n) (placed_records h.begun ++ f.records)) there ∙ ap (λ (k : List (List (List ℕ))). fits (t.first w.full) (k ++ f.records)) h.records ∙ lacks

turned_holds : (t : Settings) (w : Packing) (placings : List Placing) (c : Composite) (f : Variant) → ltb (w.full + 1) t.most ≡ true → fits (t.first w.full) (w.begun ++ f.records) ≡ false
    → fits (t.first (w.full + 1)) f.records ≡ true → Holds t w placings → IsRight t (placing c (Some f)) → Holds t (noted c f.notes (in_next_part t w (place_of c) f.records)) (placings ++ placing c (Some f) ∷ [])
turned_holds t w placings c f less lacks room h is = record {
  more = less;
  parts = h.parts ++ h.begun ∷ [];
  texts = written_texts t w placings h;
  count = written_count t w placings h;
  begun = placed c f ∷ [];
  records = one_record (placed c f);
  stand = stand_append (h.parts ++ h.begun ∷ []) (placed c f ∷ []) ∙ one_more_stands placings (placing c (Some f)) _ h.stand;
  full = full-turned t 0 h.parts h.begun (placed c f) h.full (no_room t w placings h c f lacks);
  fit = fit-turned t 0 (h.parts ++ h.begun ∷ []) (placed c f ∷ []) h.fit
      (let there : 0 + length (h.parts ++ h.begun ∷ []) ≡ w.full + 1 = omega (arith, written_count t w placings h) in
      ap (λ (n : ℕ). fits (t.first n) (placed_records (placed c f ∷ []))) there ∙ ap (λ (k : List (List (List ℕ))). fits (t.first (w.full + 1)) k) (one_record (placed c f)) ∙ room);
  wrong = one_more_wrong placings c (Some f) w.tally h.wrong;
  right = one_more_right t placings (placing c (Some f)) h.right is;
}

-- ---- all products

abbrev pub value : {A E : Type 0} → A → Result A E → A
value other (Ok x) = x
value other (Err e) = other

pub beyond_none : (most full : ℕ) (earlier : Option ⊤) (place : ⊤) → beyond_at most full earlier place ≡ None → (earlier ≡ None) × (ltb full most ≡ true)
beyond_none most full (Some p) place e = absurd cc
beyond_none most full None place e = (refl, go (ltb full most) refl)
  where
    go : (b : Bool) → ltb full most ≡ b → ltb full most ≡ true
    go true f = f
    go false f = let no = rw f at e in absurd cc

-- with no product beyond after one more, there was none before, and it has become of it what it has
pub record Step (t : Settings) (w : Packing) (c : Composite) (v : Packing) (placings : List Placing) : Type 0 where
  pub none : w.beyond ≡ None
  pub holds : Holds t w placings → (f : Placing) × (f.product ≡ c) × Holds t v (placings ++ f ∷ [])

-- where the forms so far are too large for the next part, one of the others is the first that is not
forms_step : (t : Settings) (w : Packing) (c : Composite) (placings : List Placing) (fs : List Variant)
    → ((f : Option Variant) → IsFirst t (w.full + 1) f fs → ltb w.full t.most ≡ true → IsRight t (placing c f)) → (with_variants t w c fs).beyond ≡ None → Step t w c (with_variants t w c fs) placings
forms_step t w c placings [] right none = record {
  none = none;
  holds = λ h. (placing c None, refl, left_holds t w placings c h (right None refl h.more));
}
forms_step t w c placings (f ∷ fs) right none =
    go (fits (t.first w.full) (w.begun ++ f.records)) refl (fits (t.first (w.full + 1)) f.records) refl none (forms_step t w c placings fs)
  where
    own : ltb w.full t.most ≡ true → IsRight t (placing c (Some f))
    own = right (Some f) (inl refl)

    go : (a : Bool) → fits (t.first w.full) (w.begun ++ f.records) ≡ a → (b : Bool) → fits (t.first (w.full + 1)) f.records ≡ b
        → (with_variants t w c (f ∷ fs)).beyond ≡ None
        → (((g : Option Variant) → IsFirst t (w.full + 1) g fs → ltb w.full t.most ≡ true → IsRight t (placing c g)) → (with_variants t w c fs).beyond ≡ None → Step t w c (with_variants t w c fs) placings)
        → Step t w c (with_variants t w c (f ∷ fs)) placings
    go true here b next last later =
        let before : w.beyond ≡ None = rw here at last in
        rw here (record { none = before; holds = λ h. (placing c (Some f), refl, joined_holds t w placings c f here h (own h.more)) })
    go false here true next last later =
        let now : beyond_at t.most (w.full + 1) w.beyond (place_of c) ≡ None = rw (here, next) at last in
        let before = beyond_none t.most (w.full + 1) w.beyond (place_of c) now in
        rw (here, next) (record { none = before.0; holds = λ h. (placing c (Some f), refl, turned_holds t w placings c f before.1 here next h (own h.more)) })
    go false here false next last later =
        let now : (with_variants t w c fs).beyond ≡ None = rw (here, next) at last in
        rw (here, next) (later (λ g is more. right g (inr (next, is)) more) now)

-- whose SupplyDetails a product has changes nothing of that
seen_holds : (t : Settings) (w : Packing) (c : Composite) (placings : List Placing) → Holds t w placings → Holds t (seen t w c) placings
seen_holds t w c placings h = record {
  more = h.more;
  parts = h.parts;
  texts = h.texts;
  count = h.count;
  begun = h.begun;
  records = h.records;
  stand = h.stand;
  full = h.full;
  fit = h.fit;
  wrong = h.wrong;
  right = h.right;
}

product_step : (t : Settings) (w : Packing) (c : Composite) (placings : List Placing) → (after_product t w c).beyond ≡ None → Step t w c (after_product t w c) placings
product_step t w c placings none =
    let s = forms_step t (seen t w c) c placings (variants t.opening t.supplies c.below) (λ f is more. (w.full + 1, within more, is)) none in
    record { none = s.none; holds = λ h. s.holds (seen_holds t w c placings h) }
  where
    within : ltb w.full t.most ≡ true → w.full + 1 ≤ t.most
    within more = omega (arith, ltb-true w.full t.most more)

-- with no product beyond at the end, there was none before, and it has become of all what it has
pub record Walk (t : Settings) (w : Packing) (cs : List Composite) (z : Packing) : Type 0 where
  pub none : w.beyond ≡ None
  pub holds : (placings : List Placing) → Holds t w placings → (more : List Placing) × (map (λ f. f.product) more ≡ cs) × Holds t z (placings ++ more)

pub walk : (t : Settings) (cs : List Composite) (w : Packing) → (after_products t w cs).beyond ≡ None → Walk t w cs (after_products t w cs)
walk t [] w none = record {
  none = none;
  holds = λ placings h. ([], refl, subst (λ (fs : List Placing). Holds t w fs) (sym (append-nil placings)) h);
}
walk t (c ∷ cs) w none =
    let rest = walk t cs (after_product t w c) none in record {
      none = (product_step t w c [] rest.none).none;
      holds = λ placings h.
          let one = (product_step t w c placings rest.none).holds h in
          let others = rest.holds (placings ++ one.0 ∷ []) one.2 in (
            one.0 ∷ others.0,
            ap (λ (k : List Composite). k ++ map (λ (f : Placing). f.product) others.0) (ap (λ (p : Composite). p ∷ []) one.1) ∙ ap (λ (k : List Composite). c ∷ k) others.1,
            subst (λ (fs : List Placing). Holds t (after_products t w (c ∷ cs)) fs) (append_assoc placings (one.0 ∷ []) others.0) others.2,
          );
    }

-- ---- the whole message

bind_ok : {A B : Type 0} (r : Result A HeaderRefusal) (f : A → Result B HeaderRefusal) (b : B) → (r >>= f) ≡ Ok b → (a : A) × (r ≡ Ok a) × (f a ≡ Ok b)
bind_ok (Ok a) f b e = (a, refl, e)
bind_ok (Err refusal) f b e = absurd cc

-- a message without a part has no heading
no_part : (n : ℕ) → first_number 0 n ≡ Err denied.LastNumberTooGreat
no_part n = let none : n * 0 ≡ 0 = omega arith in rw none refl

pub part_there : (c : Choices) (nodes : Nodes) (h : Heading) → heading_in c nodes ≡ Ok h → ltb 0 c.parts ≡ true
part_there c nodes h e = go (ltb 0 c.parts) refl
  where
    go : (b : Bool) → ltb 0 c.parts ≡ b → ltb 0 c.parts ≡ true
    go true f = f
    go false f =
        let zero_parts : c.parts ≡ 0 = omega (arith, ltb-false 0 c.parts f) in
        let a = bind_ok (sender_in c nodes) _ h e in
        let b = bind_ok (addressee_pair c nodes) _ h a.2 in
        let n = bind_ok (number_in c nodes) _ h b.2 in
        let m = bind_ok (given_or c.number (added c.offset (text_in (codes "MessageNumber") nodes))) (first_number c.parts) n.0 n.1 in
        let no : first_number 0 m.0 ≡ Ok n.0 = ap (λ (k : ℕ). first_number k m.0) (sym zero_parts) ∙ m.2 in
        let other : Err denied.LastNumberTooGreat ≡ Ok n.0 = sym (no_part m.0) ∙ no in absurd cc

-- ended well: no product is beyond the parts
pub ended_ok : (t : Settings) (z : Packing) (made : Converted) → ended t z ≡ Ok made → (z.beyond ≡ None) × (converted (all_parts t z) (counted z.tally) ≡ made)
ended_ok t z made e = by (refused_for t.allowed z.tally) e
  where
    last : (beyond : Option ⊤) → z.beyond ≡ beyond → ended_at t z beyond ≡ Ok made → (z.beyond ≡ None) × (converted (all_parts t z) (counted z.tally) ≡ made)
    last (Some place) b now = absurd cc
    last None b now = (b, ap (value (converted (all_parts t z) (counted z.tally))) now)

    by : (refused : Option Refusal) → ended_by t z refused ≡ Ok made → (z.beyond ≡ None) × (converted (all_parts t z) (counted z.tally) ≡ made)
    by (Some refusal) now = absurd cc
    by None now = last z.beyond refl now
