-- Attributes: what is read is spelled so, what is spelled so is read, and both stay.
use Rattle.std.proofs.Common.{◌≡◌, ℕ, zero, suc, ◌<◌, ◌≤◌, true, false, cond, List, [], ◌∷◌, ◌++◌, length, inl, inr, Ok, Err, refl, sym, ap, subst, ◌∙◌, append_assoc, length-append, arith}
use Rattle.std.specs.Prelude.{◌&&◌}
use Rattle.std.specs.List.{list_all, flat_map}
use Rattle.std.proofs.lemmas.Bool.{eq-eqb, and_parts}
use Rattle.std.proofs.lemmas.Bool.Decides.{nat_tests}
use Rattle.std.proofs.lemmas.List.Concat.{flat_map-cons}
use Rattle.feed_xml.specs.declared.stop.Stop.TheVariants.{Never}
use Rattle.feed_xml.specs.Grammar.{is_space, starts_name, begins_name, is_name, is_filled, is_quote, is_value_byte, refers, Attribute, attribute_text, is_attribute}
use Rattle.feed_xml.specs.Steps.{Step, ◌>>=◌, run, literal}
use Rattle.feed_xml.specs.Grammar.{quote_at}
use Rattle.feed_xml.specs.Reading.{name_at, attribute_at, attributes_within}
use Rattle.feed_xml.proofs.StepLaws.{bind_ok, ok_is, chosen, guard_ok, Stays, stays_bind, stays_then, stays_if}
use Rattle.feed_xml.proofs.PartLaws.{run_takes, run_again, run_stays, run_stops, begins_stays, literal_takes, literal_again, literal_stays, name_takes, name_again, name_stays, name_stops, space_stops}

pub quote_takes : (bytes : List ℕ) (x : ℕ × List ℕ) → quote_at bytes ≡ Ok x → (bytes ≡ x.0 ∷ x.1) × (is_quote x.0 ≡ true)
unfolding quote_at
quote_takes [] x e = absurd cc
quote_takes (b ∷ bytes) x e =
    let made : ℕ × List ℕ = (b, bytes) in
    let g = guard_ok (is_quote b) Never made x e in
    subst (λ (y : ℕ × List ℕ). (b ∷ bytes ≡ y.0 ∷ y.1) × (is_quote y.0 ≡ true)) g.1 (refl, g.0)

quote_again : (quote : ℕ) (rest : List ℕ) → is_quote quote ≡ true → quote_at (quote ∷ rest) ≡ Ok (quote, rest)
unfolding quote_at
quote_again quote rest h = rw h refl

quote_stays : (bytes more : List ℕ) → Stays more (quote_at bytes) (quote_at (bytes ++ more))
unfolding quote_at
quote_stays [] more = tt
quote_stays (b ∷ bytes) more = stays_if more (is_quote b) (Ok (b, bytes)) (Err Never) (Ok (b, bytes ++ more)) (Err Never) refl refl

-- what is read of an attribute behind each of its parts

abbrev after_value : List ℕ → List ℕ → List ℕ → List ℕ → ℕ → List ℕ → List ℕ × List ℕ → Step Attribute
after_value before name left right quote value closing =
    cond (is_filled before && refers value) (Ok (record { before = before; name = name; left = left; right = right; quote = quote; value = value }, closing.1)) (Err Never)

abbrev after_quote : List ℕ → List ℕ → List ℕ → List ℕ → ℕ → List ℕ × List ℕ → Step Attribute
after_quote before name left right quote value = literal (quote ∷ []) value.1 >>= after_value before name left right quote value.0

abbrev after_right : List ℕ → List ℕ → List ℕ → List ℕ → ℕ × List ℕ → Step Attribute
after_right before name left right quote = run (is_value_byte quote.0) quote.1 >>= after_quote before name left right quote.0

abbrev after_equals : List ℕ → List ℕ → List ℕ → List ℕ × List ℕ → Step Attribute
after_equals before name left right = quote_at right.1 >>= after_right before name left right.0

abbrev after_left : List ℕ → List ℕ → List ℕ → List ℕ × List ℕ → Step Attribute
after_left before name left equals = run is_space equals.1 >>= after_equals before name left

abbrev after_name : List ℕ → List ℕ → List ℕ × List ℕ → Step Attribute
after_name before name left = literal (61 ∷ []) left.1 >>= after_left before name left.0

abbrev after_before : List ℕ → List ℕ × List ℕ → Step Attribute
after_before before name = run is_space name.1 >>= after_name before name.0

abbrev ReadsAttribute : List ℕ → List ℕ → Attribute × List ℕ → Type 0
ReadsAttribute before bytes x = (before ++ bytes ≡ attribute_text x.0 ++ x.1) × (list_all is_space before ≡ true → is_attribute x.0 ≡ true)

pub regroup : (before name left right value rest : List ℕ) (quote : ℕ)
    → before ++ (name ++ (left ++ (61 ∷ (right ++ (quote ∷ (value ++ (quote ∷ rest)))))))
    ≡ (before ++ (name ++ (left ++ 61 ∷ (right ++ quote ∷ (value ++ quote ∷ []))))) ++ rest
regroup before name left right value rest quote = simp append_assoc

pub attribute_takes : (before bytes : List ℕ) (x : Attribute × List ℕ) → attribute_at before bytes ≡ Ok x → ReadsAttribute before bytes x
unfolding attribute_at
attribute_takes before bytes x e =
    let n = bind_ok (name_at bytes) (after_before before) x e in
    let l = bind_ok (run is_space n.0.1) (after_name before n.0.0) x n.2 in
    let q = bind_ok (literal (61 ∷ []) l.0.1) (after_left before n.0.0 l.0.0) x l.2 in
    let r = bind_ok (run is_space q.0.1) (after_equals before n.0.0 l.0.0) x q.2 in
    let o = bind_ok (quote_at r.0.1) (after_right before n.0.0 l.0.0 r.0.0) x r.2 in
    let v = bind_ok (run (is_value_byte o.0.0) o.0.1) (after_quote before n.0.0 l.0.0 r.0.0 o.0.0) x o.2 in
    let c = bind_ok (literal (o.0.0 ∷ []) v.0.1) (after_value before n.0.0 l.0.0 r.0.0 o.0.0 v.0.0) x v.2 in
    let tn = name_takes bytes n.0 n.1 in
    let tl = run_takes is_space n.0.1 l.0 l.1 in
    let tq = literal_takes (61 ∷ []) l.0.1 q.0 q.1 in
    let tr = run_takes is_space q.0.1 r.0 r.1 in
    let to = quote_takes r.0.1 o.0 o.1 in
    let tv = run_takes (is_value_byte o.0.0) o.0.1 v.0 v.1 in
    let tc = literal_takes (o.0.0 ∷ []) v.0.1 c.0 c.1 in
    let made : Attribute × List ℕ = (record { before = before; name = n.0.0; left = l.0.0; right = r.0.0; quote = o.0.0; value = v.0.0 }, c.0.1) in
    let g = guard_ok (is_filled before && refers v.0.0) Never made x c.2 in
    let tests = and_parts (is_filled before) (refers v.0.0) g.0 in
    let parts : bytes ≡ n.0.0 ++ (l.0.0 ++ (61 ∷ (r.0.0 ++ (o.0.0 ∷ (v.0.0 ++ (o.0.0 ∷ c.0.1)))))) =
    tn.0 ∙ ap (λ (t : List ℕ). n.0.0 ++ t) (tl.0 ∙ ap (λ (t : List ℕ). l.0.0 ++ t) (tq.0 ∙ ap (λ (t : List ℕ). 61 ∷ t) (tr.0 ∙ ap (λ (t : List ℕ). r.0.0 ++ t) (to.0 ∙ ap (λ (t : List ℕ). o.0.0 ∷ t) (tv.0 ∙ ap (λ (t : List ℕ). v.0.0 ++ t) tc.0))))) in
    subst (ReadsAttribute before bytes) g.1 (
      ap (λ (t : List ℕ). before ++ t) parts ∙ regroup before n.0.0 l.0.0 r.0.0 v.0.0 c.0.1 o.0.0,
      λ spaces. rw (tests.0, spaces, tn.1, tl.1, tr.1, to.1, tv.1, tests.1) refl,
    )

quote_no_space : (b : ℕ) → is_quote b ≡ true → is_space b ≡ false
quote_no_space b h = grind (arith, nat_tests)

quote_ends : (quote : ℕ) → is_value_byte quote quote ≡ false
quote_ends quote = rw (eq-eqb quote quote refl) refl

-- what an attribute's text is behind the white space before it
abbrev pub tail : Attribute → List ℕ → List ℕ
tail a rest = a.name ++ (a.left ++ (61 ∷ (a.right ++ (a.quote ∷ (a.value ++ (a.quote ∷ rest))))))

pub record Fine (a : Attribute) : Type 0 where
  pub filled : is_filled a.before ≡ true
  pub before : list_all is_space a.before ≡ true
  pub name : is_name a.name ≡ true
  pub left : list_all is_space a.left ≡ true
  pub right : list_all is_space a.right ≡ true
  pub quote : is_quote a.quote ≡ true
  pub value : list_all (is_value_byte a.quote) a.value ≡ true
  pub references : refers a.value ≡ true

pub fine : (a : Attribute) → is_attribute a ≡ true → Fine a
fine a h =
    let p0 = and_parts (is_filled a.before && list_all is_space a.before) (is_name a.name && (list_all is_space a.left && (list_all is_space a.right && (is_quote a.quote && (list_all (is_value_byte a.quote) a.value && refers a.value))))) h in
    let p1 = and_parts (is_filled a.before) (list_all is_space a.before) p0.0 in
    let p2 = and_parts (is_name a.name) (list_all is_space a.left && (list_all is_space a.right && (is_quote a.quote && (list_all (is_value_byte a.quote) a.value && refers a.value)))) p0.1 in
    let p3 = and_parts (list_all is_space a.left) (list_all is_space a.right && (is_quote a.quote && (list_all (is_value_byte a.quote) a.value && refers a.value))) p2.1 in
    let p4 = and_parts (list_all is_space a.right) (is_quote a.quote && (list_all (is_value_byte a.quote) a.value && refers a.value)) p3.1 in
    let p5 = and_parts (is_quote a.quote) (list_all (is_value_byte a.quote) a.value && refers a.value) p4.1 in
    let p6 = and_parts (list_all (is_value_byte a.quote) a.value) (refers a.value) p5.1 in
    record { filled = p1.0; before = p1.1; name = p2.0; left = p3.0; right = p4.0; quote = p5.0; value = p6.0; references = p6.1 }

pub attribute_again : (a : Attribute) (rest : List ℕ) → Fine a → attribute_at a.before (tail a rest) ≡ Ok (a, rest)
unfolding attribute_at
attribute_again a rest f =
    let e6 = a.value ++ (a.quote ∷ rest) in
    let e5 = a.quote ∷ e6 in
    let e4 = a.right ++ e5 in
    let e3 = 61 ∷ e4 in
    let e2 = a.left ++ e3 in
    rw (
      name_again a.name e2 f.name (space_stops a.left e3 f.left refl),
      run_again is_space a.left e3 f.left refl,
      literal_again (61 ∷ []) e4,
      run_again is_space a.right e5 f.right (quote_no_space a.quote f.quote),
      quote_again a.quote e6 f.quote,
      run_again (is_value_byte a.quote) a.value (a.quote ∷ rest) f.value (quote_ends a.quote),
      literal_again (a.quote ∷ []) rest,
      f.filled,
      f.references,
    ) refl

attribute_stays : (before bytes more : List ℕ) → Stays more (attribute_at before bytes) (attribute_at before (bytes ++ more))
unfolding attribute_at
attribute_stays before bytes more =
    stays_bind more (name_at bytes) (name_at (bytes ++ more)) (after_before before) (name_stays bytes more)
    (λ n. stays_bind more (run is_space n.1) (run is_space (n.1 ++ more)) (after_name before n.0) (run_stays is_space n.1 more)
    (λ l. stays_bind more (literal (61 ∷ []) l.1) (literal (61 ∷ []) (l.1 ++ more)) (after_left before n.0 l.0) (literal_stays (61 ∷ []) l.1 more)
    (λ q. stays_bind more (run is_space q.1) (run is_space (q.1 ++ more)) (after_equals before n.0 l.0) (run_stays is_space q.1 more)
    (λ r. stays_bind more (quote_at r.1) (quote_at (r.1 ++ more)) (after_right before n.0 l.0 r.0) (quote_stays r.1 more)
    (λ o. stays_bind more (run (is_value_byte o.0) o.1) (run (is_value_byte o.0) (o.1 ++ more)) (after_quote before n.0 l.0 r.0 o.0) (run_stays (is_value_byte o.0) o.1 more)
    (λ v. stays_bind more (literal (o.0 ∷ []) v.1) (literal (o.0 ∷ []) (v.1 ++ more)) (after_value before n.0 l.0 r.0 o.0 v.0) (literal_stays (o.0 ∷ []) v.1 more)
    (λ c. stays_if more (is_filled before && refers v.0) (Ok (record { before = before; name = n.0; left = l.0; right = r.0; quote = o.0; value = v.0 }, c.1)) (Err Never) (Ok (record { before = before; name = n.0; left = l.0; right = r.0; quote = o.0; value = v.0 }, c.1 ++ more)) (Err Never) refl refl)))))))

-- ---- several

abbrev after_first : ℕ → Attribute × List ℕ → Step (List Attribute)
after_first n first = attributes_within n first.1 >>= λ others. Ok (first.0 ∷ others.0, others.1)

abbrev after_space : ℕ → List ℕ → List ℕ × List ℕ → Step (List Attribute)
after_space n bytes space = cond (begins_name space.1) (attribute_at space.0 space.1 >>= after_first n) (Ok ([], bytes))

abbrev pub ReadsAttributes : List ℕ → List Attribute × List ℕ → Type 0
ReadsAttributes bytes x = (bytes ≡ flat_map attribute_text x.0 ++ x.1) × (list_all is_attribute x.0 ≡ true)

pub attributes_take : (n : ℕ) (bytes : List ℕ) (x : List Attribute × List ℕ) → attributes_within n bytes ≡ Ok x → ReadsAttributes bytes x
unfolding attributes_within
attributes_take zero bytes x e = absurd cc
attributes_take (suc n) bytes x e =
    let s = bind_ok (run is_space bytes) (after_space n bytes) x e in
    let ts = run_takes is_space bytes s.0 s.1 in
    elim (chosen (begins_name s.0.1) (attribute_at s.0.0 s.0.1 >>= after_first n) (Ok ([], bytes)) (Ok x) s.2) [
      | inl h ↦
          let a = bind_ok (attribute_at s.0.0 s.0.1) (after_first n) x h.1 in
          let o = bind_ok (attributes_within n a.0.1) (λ others. Ok (a.0.0 ∷ others.0, others.1)) x a.2 in
          let ta = attribute_takes s.0.0 s.0.1 a.0 a.1 in
          let to = attributes_take n a.0.1 o.0 o.1 in
          let made : List Attribute × List ℕ = (a.0.0 ∷ o.0.0, o.0.1) in
          subst (ReadsAttributes bytes) (ok_is made x o.2) (
            ts.0 ∙ ta.0 ∙ ap (λ (t : List ℕ). attribute_text a.0.0 ++ t) to.0 ∙ sym (append_assoc (attribute_text a.0.0) (flat_map attribute_text o.0.0) o.0.1) ∙ ap (λ (t : List ℕ). t ++ o.0.1) (sym (flat_map-cons attribute_text a.0.0 o.0.0)),
            rw (ta.1 ts.1, to.1) refl,
          )
      | inr h ↦
          let made : List Attribute × List ℕ = ([], bytes) in
          subst (ReadsAttributes bytes) (ok_is made x h.1) (refl, refl)
    ]

-- no attribute follows
pub record Ends (rest : List ℕ) : Type 0 where
  pub space : List ℕ
  pub behind : List ℕ
  pub read : run is_space rest ≡ Ok (space, behind)
  pub none : begins_name behind ≡ false

pub attributes_again : (list : List Attribute) (n : ℕ) (rest : List ℕ) → list_all is_attribute list ≡ true → length list < n → Ends rest
    → attributes_within n (flat_map attribute_text list ++ rest) ≡ Ok (list, rest)
unfolding attributes_within
attributes_again list zero rest all enough ends = absurd (omega arith)
attributes_again [] (suc n) rest all enough ends = rw (ends.read, ends.none) refl
attributes_again (a ∷ list) (suc n) rest all enough ends =
    let parts = and_parts (is_attribute a) (list_all is_attribute list) all in
    let f = fine a parts.0 in
    let others = flat_map attribute_text list ++ rest in
    let regrouped : flat_map attribute_text (a ∷ list) ++ rest ≡ a.before ++ tail a others =
    ap (λ (t : List ℕ). t ++ rest) (flat_map-cons attribute_text a list) ∙ append_assoc (attribute_text a) (flat_map attribute_text list) rest
    ∙ sym (regroup a.before a.name a.left a.right a.value others a.quote) in
    let stops = name_stops a.name (a.left ++ (61 ∷ (a.right ++ (a.quote ∷ (a.value ++ (a.quote ∷ others)))))) f.name in
    ap (attributes_within (suc n)) regrouped
    ∙ rw (run_again is_space a.before (tail a others) f.before stops.0, stops.1, attribute_again a others f, attributes_again list n rest parts.1 (omega arith) ends) refl

text_filled : (a : Attribute) → 0 < length (attribute_text a)
text_filled a =
    let e0 = 61 ∷ (a.right ++ a.quote ∷ (a.value ++ a.quote ∷ [])) in
    omega (arith, length-append a.before (a.name ++ (a.left ++ e0)), length-append a.name (a.left ++ e0), length-append a.left e0)

pub shorter : (before bytes : List ℕ) (x : Attribute × List ℕ) → attribute_at before bytes ≡ Ok x → length x.1 < length (before ++ bytes)
shorter before bytes x e =
    let t = attribute_takes before bytes x e in
    omega (arith, ap length t.0, length-append (attribute_text x.0) x.1, text_filled x.0)

pub attributes_stay : (n m : ℕ) (bytes more : List ℕ) → length bytes < n → length (bytes ++ more) < m
    → Stays more (attributes_within n bytes) (attributes_within m (bytes ++ more))
unfolding attributes_within
attributes_stay zero m bytes more short long = absurd (omega (arith, short))
attributes_stay (suc n) zero bytes more short long = absurd (omega (arith, long))
attributes_stay (suc n) (suc m) bytes more short long =
    stays_then more (run is_space bytes) (run is_space (bytes ++ more)) (after_space n bytes) (after_space m (bytes ++ more)) (run_stays is_space bytes more)
    (λ s read.
    rw (begins_stays is_space s.1 more (run_stops is_space bytes s read))
    (stays_if more (begins_name s.1) (attribute_at s.0 s.1 >>= after_first n) (Ok ([], bytes)) (attribute_at s.0 (s.1 ++ more) >>= after_first m) (Ok ([], bytes ++ more))
    (stays_then more (attribute_at s.0 s.1) (attribute_at s.0 (s.1 ++ more)) (after_first n) (after_first m) (attribute_stays s.0 s.1 more)
    (λ a found.
    let whole : length bytes ≡ length (s.0 ++ s.1) = ap length (run_takes is_space bytes s read).0 in
    let less : length a.1 < length (s.0 ++ s.1) = shorter s.0 s.1 a found in
    stays_bind more (attributes_within n a.1) (attributes_within m (a.1 ++ more)) (λ others. Ok (a.0 ∷ others.0, others.1))
    (attributes_stay n m a.1 more (omega arith) (omega (arith, length-append a.1 more, length-append bytes more))) (λ others. refl)))
    refl))

-- each attribute has a byte at least
pub at_most : (list : List Attribute) → length list ≤ length (flat_map attribute_text list)
at_most [] = omega arith
at_most (a ∷ list) = rw flat_map-cons (omega (arith, at_most list, text_filled a, length-append (attribute_text a) (flat_map attribute_text list)))

pub ends_at : (b : ℕ) (rest : List ℕ) → is_space b ≡ false → starts_name b ≡ false → Ends (b ∷ rest)
unfolding run
ends_at b rest h k = record { space = []; behind = b ∷ rest; read = rw h refl; none = k }
