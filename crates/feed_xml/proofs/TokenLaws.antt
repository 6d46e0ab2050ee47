-- Tokens: what is read is spelled so, what is spelled so is read, and both stay.
use Rattle.std.proofs.Common.{◌≡◌, ℕ, suc, ◌<◌, length, length-append, Bool, true, false, cond, eqb, List, [], ◌∷◌, ◌++◌, inl, inr, Option, Some, None, Ok, Err, refl, sym, ap, subst, ◌∙◌, append_assoc, arith}
use Rattle.std.specs.Prelude.{◌&&◌}
use Rattle.std.specs.List.{list_all, flat_map}
use Rattle.std.proofs.lemmas.List.Concat.{flat_map-cons}
use Rattle.std.proofs.lemmas.Bool.{eqb-true, and_parts, not-true}
use Rattle.std.proofs.lemmas.Bool.Decides.{nat_tests}
use Rattle.feed_xml.specs.declared.stop.Stop.TheVariants.{Never}
use Rattle.std.specs.Prelude.{codes}
use Rattle.std.specs.Str.{bytes_eq}
use Rattle.std.proofs.lemmas.Slice.Eq.{bytes_eq-Decides}
use Rattle.feed_xml.specs.Grammar.{target_of, is_named, is_space, starts_name, is_name_byte, is_name, is_filled, is_plain, is_free, is_reference, is_reference_byte, is_instruction, is_declaration, Attribute, attribute_text, is_attribute, Token, raw, reference, opening, bracket, cdata, comment, instruction, declaration, doctype, start, empty, end, spelling, is_token}
use Rattle.feed_xml.specs.Steps.{Step, ◌>>=◌, run, literal, until, skim}
use Rattle.feed_xml.specs.Reading.{doctype_at, name_at, attributes_at, end_at, close_at, start_at, instruction_at, comment_at, opening_at, declaration_at, reference_at, markup_at, outside_at, section_at, token_at}
use Rattle.feed_xml.specs.Sections.{section_around, section_byte}
use Rattle.feed_xml.proofs.StepLaws.{bind_ok, ok_is, chosen, guard_ok, Stays, stays_bind, stays_if}
use Rattle.feed_xml.proofs.AttributeLaws.{attributes_take, attributes_again, attributes_stay, Ends, at_most, fine}
use Rattle.feed_xml.specs.declared.skim.Skim.TheVariants.{Outside}
use Rattle.feed_xml.specs.Skims.{is_skimmed}
use Rattle.feed_xml.proofs.SkimLaws.{skim_takes, skim_again, skim_stays}
use Rattle.feed_xml.proofs.PartLaws.{Stops, run_takes, run_again, run_stays, literal_takes, literal_again, literal_stays, name_takes, name_bytes, name_again, name_stays, space_stops, space_no_name, until_takes, until_again, until_stays, reference_refers}

-- the bytes behind a front, which stand in this section, if in one, are a token and what follows it
abbrev pub ReadsIn : Option ℕ → List ℕ → Token × List ℕ → Type 0
ReadsIn section bytes x = (bytes ≡ spelling x.0 ++ x.1) × (is_token x.0 ≡ true) × (section_around x.0 ≡ section)

abbrev Reads : List ℕ → Token × List ℕ → Type 0
Reads = ReadsIn None

end_takes : (bytes : List ℕ) (x : Token × List ℕ) → end_at bytes ≡ Ok x → Reads (60 ∷ 47 ∷ bytes) x
unfolding end_at
end_takes bytes x e =
    let a = bind_ok (name_at bytes) (λ name. run is_space name.1 >>= λ space. literal (62 ∷ []) space.1 >>= λ close. Ok (end name.0 space.0, close.1)) x e in
    let b = bind_ok (run is_space a.0.1) (λ space. literal (62 ∷ []) space.1 >>= λ close. Ok (end a.0.0 space.0, close.1)) x a.2 in
    let c = bind_ok (literal (62 ∷ []) b.0.1) (λ close. Ok (end a.0.0 b.0.0, close.1)) x b.2 in
    let t0 = name_takes bytes a.0 a.1 in
    let t1 = run_takes is_space a.0.1 b.0 b.1 in
    let t2 = literal_takes (62 ∷ []) b.0.1 c.0 c.1 in
    let made : Token × List ℕ = (end a.0.0 b.0.0, c.0.1) in
    subst (Reads (60 ∷ 47 ∷ bytes)) (ok_is made x c.2)
    (ap (λ (l : List ℕ). 60 ∷ 47 ∷ l) (t0.0 ∙ ap (λ (l : List ℕ). a.0.0 ++ l) (t1.0 ∙ ap (λ (l : List ℕ). b.0.0 ++ l) t2.0) ∙ simp append_assoc), rw (t0.1, t1.1) refl, refl)

end_again : (name space rest : List ℕ) → is_name name ≡ true → list_all is_space space ≡ true
    → end_at ((name ++ (space ++ 62 ∷ [])) ++ rest) ≡ Ok (end name space, rest)
unfolding end_at
end_again name space rest n s =
    let regrouped : (name ++ (space ++ 62 ∷ [])) ++ rest ≡ name ++ (space ++ 62 ∷ rest) = simp append_assoc in
    ap end_at regrouped ∙ rw (name_again name (space ++ 62 ∷ rest) n (space_stops space (62 ∷ rest) s refl), run_again is_space space (62 ∷ rest) s refl, literal_again (62 ∷ []) rest) refl

end_stays : (bytes more : List ℕ) → Stays more (end_at bytes) (end_at (bytes ++ more))
unfolding end_at
end_stays bytes more =
    stays_bind more (name_at bytes) (name_at (bytes ++ more)) (λ name. run is_space name.1 >>= λ space. literal (62 ∷ []) space.1 >>= λ close. Ok (end name.0 space.0, close.1)) (name_stays bytes more)
    (λ name. stays_bind more (run is_space name.1) (run is_space (name.1 ++ more)) (λ space. literal (62 ∷ []) space.1 >>= λ close. Ok (end name.0 space.0, close.1)) (run_stays is_space name.1 more)
    (λ space. stays_bind more (literal (62 ∷ []) space.1) (literal (62 ∷ []) (space.1 ++ more)) (λ close. Ok (end name.0 space.0, close.1)) (literal_stays (62 ∷ []) space.1 more) (λ close. refl)))

-- ---- start tags

abbrev tag_text : List ℕ → List Attribute → List ℕ → List ℕ → List ℕ
tag_text name attributes space rest = 60 ∷ (name ++ (flat_map attribute_text attributes ++ (space ++ rest)))

record FineTag (n : List ℕ) (list : List Attribute) (w : List ℕ) : Type 0 where
  name : is_name n ≡ true
  attributes : list_all is_attribute list ≡ true
  space : list_all is_space w ≡ true

close_takes : (name : List ℕ) (attributes : List Attribute) (space bytes : List ℕ) (x : Token × List ℕ) → FineTag name attributes space
    → close_at name attributes space bytes ≡ Ok x → Reads (tag_text name attributes space bytes) x
unfolding close_at
close_takes name attributes space [] x f e = absurd cc
close_takes name attributes space (b ∷ bytes) x f e =
    elim (chosen (eqb b 47) (literal (62 ∷ []) bytes >>= λ y. Ok (empty name attributes space, y.1)) (literal (62 ∷ []) (b ∷ bytes) >>= λ y. Ok (start name attributes space, y.1)) (Ok x) e) [
      | inl h ↦
          let a = bind_ok (literal (62 ∷ []) bytes) (λ y. Ok (empty name attributes space, y.1)) x h.1 in
          let t = literal_takes (62 ∷ []) bytes a.0 a.1 in
          let made : Token × List ℕ = (empty name attributes space, a.0.1) in
          subst (Reads (tag_text name attributes space (b ∷ bytes))) (ok_is made x a.2)
          (ap (tag_text name attributes space) (ap (λ (l : List ℕ). b ∷ l) t.0 ∙ ap (λ (k : ℕ). k ∷ 62 ∷ a.0.1) (eqb-true b 47 h.0)) ∙ simp append_assoc, rw (f.name, f.attributes, f.space) refl, refl)
      | inr h ↦
          let a = bind_ok (literal (62 ∷ []) (b ∷ bytes)) (λ y. Ok (start name attributes space, y.1)) x h.1 in
          let t = literal_takes (62 ∷ []) (b ∷ bytes) a.0 a.1 in
          let made : Token × List ℕ = (start name attributes space, a.0.1) in
          subst (Reads (tag_text name attributes space (b ∷ bytes))) (ok_is made x a.2)
          (ap (tag_text name attributes space) t.0 ∙ simp append_assoc, rw (f.name, f.attributes, f.space) refl, refl)
    ]

abbrev behind_space : List ℕ → List Attribute → List ℕ × List ℕ → Step Token
behind_space name attributes space = close_at name attributes space.0 space.1

abbrev behind_attributes : List ℕ → List Attribute × List ℕ → Step Token
behind_attributes name attributes = run is_space attributes.1 >>= behind_space name attributes.0

abbrev behind_name : List ℕ × List ℕ → Step Token
behind_name name = attributes_at name.1 >>= behind_attributes name.0

start_takes : (bytes : List ℕ) (x : Token × List ℕ) → start_at bytes ≡ Ok x → Reads (60 ∷ bytes) x
unfolding start_at attributes_at
start_takes bytes x e =
    let n = bind_ok (name_at bytes) behind_name x e in
    let a = bind_ok (attributes_at n.0.1) (behind_attributes n.0.0) x n.2 in
    let s = bind_ok (run is_space a.0.1) (behind_space n.0.0 a.0.0) x a.2 in
    let tn = name_takes bytes n.0 n.1 in
    let ta = attributes_take (suc (length n.0.1)) n.0.1 a.0 a.1 in
    let ts = run_takes is_space a.0.1 s.0 s.1 in
    let whole : 60 ∷ bytes ≡ tag_text n.0.0 a.0.0 s.0.0 s.0.1 =
    ap (λ (l : List ℕ). 60 ∷ l) (tn.0 ∙ ap (λ (l : List ℕ). n.0.0 ++ l) (ta.0 ∙ ap (λ (l : List ℕ). flat_map attribute_text a.0.0 ++ l) ts.0)) in
    let f : FineTag n.0.0 a.0.0 s.0.0 = record { name = tn.1; attributes = ta.1; space = ts.1 } in
    let read = close_takes n.0.0 a.0.0 s.0.0 s.0.1 x f s.2 in
    (whole ∙ read.0, read.1, read.2)

filled_stops : (before rest : List ℕ) → is_filled before ≡ true → list_all is_space before ≡ true → Stops is_name_byte (before ++ rest)
filled_stops [] rest filled all = absurd cc
filled_stops (b ∷ before) rest filled all = space_no_name b (and_parts (is_space b) (list_all is_space before) all).0

attributes_stop : (list : List Attribute) (rest : List ℕ) → list_all is_attribute list ≡ true → Stops is_name_byte rest → Stops is_name_byte (flat_map attribute_text list ++ rest)
attributes_stop [] rest all h = h
attributes_stop (a ∷ list) rest all h =
    let f = fine a (and_parts (is_attribute a) (list_all is_attribute list) all).0 in
    let regrouped : a.before ++ ((a.name ++ (a.left ++ 61 ∷ (a.right ++ a.quote ∷ (a.value ++ a.quote ∷ [])))) ++ (flat_map attribute_text list ++ rest)) ≡ flat_map attribute_text (a ∷ list) ++ rest =
    sym (append_assoc a.before (a.name ++ (a.left ++ 61 ∷ (a.right ++ a.quote ∷ (a.value ++ a.quote ∷ [])))) (flat_map attribute_text list ++ rest))
    ∙ sym (append_assoc (attribute_text a) (flat_map attribute_text list) rest) ∙ ap (λ (l : List ℕ). l ++ rest) (sym (flat_map-cons attribute_text a list)) in
    subst (Stops is_name_byte) regrouped (filled_stops a.before ((a.name ++ (a.left ++ 61 ∷ (a.right ++ a.quote ∷ (a.value ++ a.quote ∷ [])))) ++ (flat_map attribute_text list ++ rest)) f.filled f.before)

-- the tag is read up to what closes it
start_reads : (name : List ℕ) (attributes : List Attribute) (space : List ℕ) (b : ℕ) (rest : List ℕ) → FineTag name attributes space → is_space b ≡ false → is_name_byte b ≡ false → starts_name b ≡ false
    → start_at (name ++ (flat_map attribute_text attributes ++ (space ++ b ∷ rest))) ≡ close_at name attributes space (b ∷ rest)
unfolding start_at attributes_at
start_reads name attributes space b rest f no_space no_name no_start =
    let behind = space ++ b ∷ rest in
    let stops : Stops is_name_byte (flat_map attribute_text attributes ++ behind) = attributes_stop attributes behind f.attributes (space_stops space (b ∷ rest) f.space no_name) in
    let spaces : run is_space behind ≡ Ok (space, b ∷ rest) = run_again is_space space (b ∷ rest) f.space no_space in
    let ends : Ends behind = record { space = space; behind = b ∷ rest; read = spaces; none = no_start } in
    let few : length attributes < suc (length (flat_map attribute_text attributes ++ behind)) = omega (arith, at_most attributes, length-append (flat_map attribute_text attributes) behind) in
    rw (
      name_again name (flat_map attribute_text attributes ++ behind) f.name stops,
      attributes_again attributes (suc (length (flat_map attribute_text attributes ++ behind))) behind f.attributes few ends,
      spaces,
    ) refl

start_again : (name : List ℕ) (attributes : List Attribute) (space rest : List ℕ) → FineTag name attributes space
    → start_at ((name ++ (flat_map attribute_text attributes ++ (space ++ 62 ∷ []))) ++ rest) ≡ Ok (start name attributes space, rest)
unfolding close_at
start_again name attributes space rest f =
    let regrouped : (name ++ (flat_map attribute_text attributes ++ (space ++ 62 ∷ []))) ++ rest ≡ name ++ (flat_map attribute_text attributes ++ (space ++ 62 ∷ rest)) = simp append_assoc in
    ap start_at regrouped ∙ start_reads name attributes space 62 rest f refl refl refl ∙ rw (literal_again (62 ∷ []) rest) refl

empty_again : (name : List ℕ) (attributes : List Attribute) (space rest : List ℕ) → FineTag name attributes space
    → start_at ((name ++ (flat_map attribute_text attributes ++ (space ++ 47 ∷ 62 ∷ []))) ++ rest) ≡ Ok (empty name attributes space, rest)
unfolding close_at
empty_again name attributes space rest f =
    let regrouped : (name ++ (flat_map attribute_text attributes ++ (space ++ 47 ∷ 62 ∷ []))) ++ rest ≡ name ++ (flat_map attribute_text attributes ++ (space ++ 47 ∷ 62 ∷ rest)) = simp append_assoc in
    ap start_at regrouped ∙ start_reads name attributes space 47 (62 ∷ rest) f refl refl refl ∙ rw (literal_again (62 ∷ []) rest) refl

close_stays : (name : List ℕ) (attributes : List Attribute) (space bytes more : List ℕ) → Stays more (close_at name attributes space bytes) (close_at name attributes space (bytes ++ more))
unfolding close_at
close_stays name attributes space [] more = tt
close_stays name attributes space (b ∷ bytes) more =
    stays_if more (eqb b 47) (literal (62 ∷ []) bytes >>= λ y. Ok (empty name attributes space, y.1)) (literal (62 ∷ []) (b ∷ bytes) >>= λ y. Ok (start name attributes space, y.1))
    (literal (62 ∷ []) (bytes ++ more) >>= λ y. Ok (empty name attributes space, y.1)) (literal (62 ∷ []) (b ∷ (bytes ++ more)) >>= λ y. Ok (start name attributes space, y.1))
    (stays_bind more (literal (62 ∷ []) bytes) (literal (62 ∷ []) (bytes ++ more)) (λ y. Ok (empty name attributes space, y.1)) (literal_stays (62 ∷ []) bytes more) (λ y. refl))
    (stays_bind more (literal (62 ∷ []) (b ∷ bytes)) (literal (62 ∷ []) (b ∷ (bytes ++ more))) (λ y. Ok (start name attributes space, y.1)) (literal_stays (62 ∷ []) (b ∷ bytes) more) (λ y. refl))

start_stays : (bytes more : List ℕ) → Stays more (start_at bytes) (start_at (bytes ++ more))
unfolding start_at attributes_at
start_stays bytes more =
    stays_bind more (name_at bytes) (name_at (bytes ++ more)) behind_name (name_stays bytes more)
    (λ n. stays_bind more (attributes_at n.1) (attributes_at (n.1 ++ more)) (behind_attributes n.0) (attributes_stay (suc (length n.1)) (suc (length (n.1 ++ more))) n.1 more (omega arith) (omega arith))
    (λ a. stays_bind more (run is_space a.1) (run is_space (a.1 ++ more)) (behind_space n.0 a.0) (run_stays is_space a.1 more)
    (λ s. close_stays n.0 a.0 s.0 s.1 more)))

-- ---- instructions, comments, sections, references

abbrev judged : List ℕ × List ℕ → Step Token
judged body = cond (is_instruction body.0) (Ok (instruction body.0, body.1)) (cond (is_declaration body.0) (Ok (declaration body.0, body.1)) (Err Never))

instruction_takes : (bytes : List ℕ) (x : Token × List ℕ) → instruction_at bytes ≡ Ok x → Reads (60 ∷ 63 ∷ bytes) x
unfolding instruction_at
instruction_takes bytes x e =
    let a = bind_ok (until (63 ∷ 62 ∷ []) bytes) judged x e in
    let t = until_takes (63 ∷ 62 ∷ []) bytes a.0 a.1 in
    let spelled = ap (λ (l : List ℕ). 60 ∷ 63 ∷ l) (t.0 ∙ sym (append_assoc a.0.0 (63 ∷ 62 ∷ []) a.0.1)) in
    elim (chosen (is_instruction a.0.0) (Ok (instruction a.0.0, a.0.1)) (cond (is_declaration a.0.0) (Ok (declaration a.0.0, a.0.1)) (Err Never)) (Ok x) a.2) [
      | inl h ↦
          let made : Token × List ℕ = (instruction a.0.0, a.0.1) in
          subst (Reads (60 ∷ 63 ∷ bytes)) (ok_is made x h.1) (spelled, rw (h.0, t.1) refl, refl)
      | inr h ↦
          let made : Token × List ℕ = (declaration a.0.0, a.0.1) in
          let g = guard_ok (is_declaration a.0.0) Never made x h.1 in
          subst (Reads (60 ∷ 63 ∷ bytes)) g.1 (spelled, rw (g.0, t.1) refl, refl)
    ]

instruction_again : (body rest : List ℕ) → is_instruction body ≡ true → is_free (63 ∷ 62 ∷ []) body ≡ true → instruction_at ((body ++ 63 ∷ 62 ∷ []) ++ rest) ≡ Ok (instruction body, rest)
unfolding instruction_at
instruction_again body rest h free = ap instruction_at (append_assoc body (63 ∷ 62 ∷ []) rest) ∙ rw (until_again 63 (62 ∷ []) body rest free, h) refl

-- a declaration is no other instruction
no_instruction : (body : List ℕ) → is_declaration body ≡ true → is_instruction body ≡ false
no_instruction body h =
    let p = and_parts (bytes_eq (target_of body).0 (codes "xml")) _ h in
    let target : (target_of body).0 ≡ codes "xml" = (bytes_eq-Decides (target_of body).0 (codes "xml")).0 p.0 in
    rw target refl

declaration_again : (body rest : List ℕ) → is_declaration body ≡ true → is_free (63 ∷ 62 ∷ []) body ≡ true → instruction_at ((body ++ 63 ∷ 62 ∷ []) ++ rest) ≡ Ok (declaration body, rest)
unfolding instruction_at
declaration_again body rest h free = ap instruction_at (append_assoc body (63 ∷ 62 ∷ []) rest) ∙ rw (until_again 63 (62 ∷ []) body rest free, no_instruction body h, h) refl

instruction_stays : (bytes more : List ℕ) → Stays more (instruction_at bytes) (instruction_at (bytes ++ more))
unfolding instruction_at
instruction_stays bytes more =
    stays_bind more (until (63 ∷ 62 ∷ []) bytes) (until (63 ∷ 62 ∷ []) (bytes ++ more)) judged (until_stays (63 ∷ 62 ∷ []) bytes more)
    (λ body. stays_if more (is_instruction body.0) (Ok (instruction body.0, body.1)) (cond (is_declaration body.0) (Ok (declaration body.0, body.1)) (Err Never)) (Ok (instruction body.0, body.1 ++ more)) (cond (is_declaration body.0) (Ok (declaration body.0, body.1 ++ more)) (Err Never)) refl
    (stays_if more (is_declaration body.0) (Ok (declaration body.0, body.1)) (Err Never) (Ok (declaration body.0, body.1 ++ more)) (Err Never) refl refl))

comment_takes : (bytes : List ℕ) (x : Token × List ℕ) → comment_at bytes ≡ Ok x → Reads (60 ∷ 33 ∷ bytes) x
unfolding comment_at
comment_takes bytes x e =
    let a = bind_ok (literal (45 ∷ 45 ∷ []) bytes) (λ m. until (45 ∷ 45 ∷ []) m.1 >>= λ body. literal (62 ∷ []) body.1 >>= λ close. Ok (comment body.0, close.1)) x e in
    let b = bind_ok (until (45 ∷ 45 ∷ []) a.0.1) (λ body. literal (62 ∷ []) body.1 >>= λ close. Ok (comment body.0, close.1)) x a.2 in
    let c = bind_ok (literal (62 ∷ []) b.0.1) (λ close. Ok (comment b.0.0, close.1)) x b.2 in
    let ta = literal_takes (45 ∷ 45 ∷ []) bytes a.0 a.1 in
    let tb = until_takes (45 ∷ 45 ∷ []) a.0.1 b.0 b.1 in
    let tc = literal_takes (62 ∷ []) b.0.1 c.0 c.1 in
    let made : Token × List ℕ = (comment b.0.0, c.0.1) in
    subst (Reads (60 ∷ 33 ∷ bytes)) (ok_is made x c.2)
    (ap (λ (l : List ℕ). 60 ∷ 33 ∷ l) (ta.0 ∙ ap (λ (l : List ℕ). 45 ∷ 45 ∷ l) (tb.0 ∙ ap (λ (l : List ℕ). b.0.0 ++ 45 ∷ 45 ∷ l) tc.0 ∙ sym (append_assoc b.0.0 (45 ∷ 45 ∷ 62 ∷ []) c.0.1))), tb.1, refl)

comment_again : (body rest : List ℕ) → is_free (45 ∷ 45 ∷ []) body ≡ true → comment_at (45 ∷ 45 ∷ ((body ++ 45 ∷ 45 ∷ 62 ∷ []) ++ rest)) ≡ Ok (comment body, rest)
unfolding comment_at
comment_again body rest free =
    let inside : until (45 ∷ 45 ∷ []) ((body ++ 45 ∷ 45 ∷ 62 ∷ []) ++ rest) ≡ Ok (body, 62 ∷ rest) =
    ap (until (45 ∷ 45 ∷ [])) (append_assoc body (45 ∷ 45 ∷ 62 ∷ []) rest) ∙ until_again 45 (45 ∷ []) body (62 ∷ rest) free in
    rw (literal_again (45 ∷ 45 ∷ []) ((body ++ 45 ∷ 45 ∷ 62 ∷ []) ++ rest), inside, literal_again (62 ∷ []) rest) refl

comment_stays : (bytes more : List ℕ) → Stays more (comment_at bytes) (comment_at (bytes ++ more))
unfolding comment_at
comment_stays bytes more =
    stays_bind more (literal (45 ∷ 45 ∷ []) bytes) (literal (45 ∷ 45 ∷ []) (bytes ++ more)) (λ m. until (45 ∷ 45 ∷ []) m.1 >>= λ body. literal (62 ∷ []) body.1 >>= λ close. Ok (comment body.0, close.1)) (literal_stays (45 ∷ 45 ∷ []) bytes more)
    (λ m. stays_bind more (until (45 ∷ 45 ∷ []) m.1) (until (45 ∷ 45 ∷ []) (m.1 ++ more)) (λ body. literal (62 ∷ []) body.1 >>= λ close. Ok (comment body.0, close.1)) (until_stays (45 ∷ 45 ∷ []) m.1 more)
    (λ body. stays_bind more (literal (62 ∷ []) body.1) (literal (62 ∷ []) (body.1 ++ more)) (λ close. Ok (comment body.0, close.1)) (literal_stays (62 ∷ []) body.1 more) (λ close. refl)))

abbrev cdata_mark : List ℕ
cdata_mark = 91 ∷ 67 ∷ 68 ∷ 65 ∷ 84 ∷ 65 ∷ 91 ∷ []

opening_takes : (bytes : List ℕ) (x : Token × List ℕ) → opening_at bytes ≡ Ok x → Reads (60 ∷ 33 ∷ bytes) x
unfolding opening_at
opening_takes bytes x e =
    let a = bind_ok (literal cdata_mark bytes) (λ m. Ok (opening, m.1)) x e in
    let ta = literal_takes cdata_mark bytes a.0 a.1 in
    let made : Token × List ℕ = (opening, a.0.1) in
    subst (Reads (60 ∷ 33 ∷ bytes)) (ok_is made x a.2) (ap (λ (l : List ℕ). 60 ∷ 33 ∷ l) ta.0, refl, refl)

opening_again : (rest : List ℕ) → opening_at (cdata_mark ++ rest) ≡ Ok (opening, rest)
unfolding opening_at
opening_again rest = rw (literal_again cdata_mark rest) refl

opening_stays : (bytes more : List ℕ) → Stays more (opening_at bytes) (opening_at (bytes ++ more))
unfolding opening_at
opening_stays bytes more =
    stays_bind more (literal cdata_mark bytes) (literal cdata_mark (bytes ++ more)) (λ m. Ok (opening, m.1)) (literal_stays cdata_mark bytes more) (λ m. refl)

abbrev doctype_mark : List ℕ
doctype_mark = 68 ∷ 79 ∷ 67 ∷ 84 ∷ 89 ∷ 80 ∷ 69 ∷ []

abbrev named : List ℕ × List ℕ → Step Token
named body = cond (is_named body.0) (Ok (doctype body.0, body.1)) (Err Never)

doctype_takes : (bytes : List ℕ) (x : Token × List ℕ) → doctype_at bytes ≡ Ok x → Reads (60 ∷ 33 ∷ bytes) x
unfolding doctype_at
doctype_takes bytes x e =
    let a = bind_ok (literal doctype_mark bytes) (λ m. skim Outside m.1 >>= named) x e in
    let b = bind_ok (skim Outside a.0.1) named x a.2 in
    let ta = literal_takes doctype_mark bytes a.0 a.1 in
    let tb = skim_takes Outside a.0.1 b.0 b.1 in
    let made : Token × List ℕ = (doctype b.0.0, b.0.1) in
    let g = guard_ok (is_named b.0.0) Never made x b.2 in
    subst (Reads (60 ∷ 33 ∷ bytes)) g.1
    (ap (λ (l : List ℕ). 60 ∷ 33 ∷ l) (ta.0 ∙ ap (λ (l : List ℕ). doctype_mark ++ l) (tb.0 ∙ sym (append_assoc b.0.0 (62 ∷ []) b.0.1))), rw (g.0, tb.1) refl, refl)

doctype_again : (body rest : List ℕ) → is_named body ≡ true → is_skimmed Outside body ≡ true → doctype_at (doctype_mark ++ ((body ++ 62 ∷ []) ++ rest)) ≡ Ok (doctype body, rest)
unfolding doctype_at
doctype_again body rest n h =
    let inside : skim Outside ((body ++ 62 ∷ []) ++ rest) ≡ Ok (body, rest) = ap (skim Outside) (append_assoc body (62 ∷ []) rest) ∙ skim_again Outside body rest h in
    rw (literal_again doctype_mark ((body ++ 62 ∷ []) ++ rest), inside, n) refl

doctype_stays : (bytes more : List ℕ) → Stays more (doctype_at bytes) (doctype_at (bytes ++ more))
unfolding doctype_at
doctype_stays bytes more =
    stays_bind more (literal doctype_mark bytes) (literal doctype_mark (bytes ++ more)) (λ m. skim Outside m.1 >>= named) (literal_stays doctype_mark bytes more)
    (λ m. stays_bind more (skim Outside m.1) (skim Outside (m.1 ++ more)) named (skim_stays Outside m.1 more)
    (λ body. stays_if more (is_named body.0) (Ok (doctype body.0, body.1)) (Err Never) (Ok (doctype body.0, body.1 ++ more)) (Err Never) refl refl))

declaration_takes : (bytes : List ℕ) (x : Token × List ℕ) → declaration_at bytes ≡ Ok x → Reads (60 ∷ 33 ∷ bytes) x
unfolding declaration_at
declaration_takes [] x e = absurd cc
declaration_takes (b ∷ bytes) x e =
    elim (chosen (eqb b 45) (comment_at (b ∷ bytes)) (cond (eqb b 68) (doctype_at (b ∷ bytes)) (opening_at (b ∷ bytes))) (Ok x) e) [
      | inl h ↦ comment_takes (b ∷ bytes) x h.1
      | inr h ↦
          elim (chosen (eqb b 68) (doctype_at (b ∷ bytes)) (opening_at (b ∷ bytes)) (Ok x) h.1) [
            | inl k ↦ doctype_takes (b ∷ bytes) x k.1
            | inr k ↦ opening_takes (b ∷ bytes) x k.1
          ]
    ]

declaration_stays : (bytes more : List ℕ) → Stays more (declaration_at bytes) (declaration_at (bytes ++ more))
unfolding declaration_at
declaration_stays [] more = tt
declaration_stays (b ∷ bytes) more =
    stays_if more (eqb b 45) (comment_at (b ∷ bytes)) (cond (eqb b 68) (doctype_at (b ∷ bytes)) (opening_at (b ∷ bytes))) (comment_at (b ∷ (bytes ++ more))) (cond (eqb b 68) (doctype_at (b ∷ (bytes ++ more))) (opening_at (b ∷ (bytes ++ more)))) (comment_stays (b ∷ bytes) more)
    (stays_if more (eqb b 68) (doctype_at (b ∷ bytes)) (opening_at (b ∷ bytes)) (doctype_at (b ∷ (bytes ++ more))) (opening_at (b ∷ (bytes ++ more))) (doctype_stays (b ∷ bytes) more) (opening_stays (b ∷ bytes) more))

reference_takes : (bytes : List ℕ) (x : Token × List ℕ) → reference_at bytes ≡ Ok x → Reads (38 ∷ bytes) x
unfolding reference_at
reference_takes bytes x e =
    let a = bind_ok (run is_reference_byte bytes) (λ body. literal (59 ∷ []) body.1 >>= λ close. cond (is_reference body.0) (Ok (reference body.0, close.1)) (Err Never)) x e in
    let b = bind_ok (literal (59 ∷ []) a.0.1) (λ close. cond (is_reference a.0.0) (Ok (reference a.0.0, close.1)) (Err Never)) x a.2 in
    let ta = run_takes is_reference_byte bytes a.0 a.1 in
    let tb = literal_takes (59 ∷ []) a.0.1 b.0 b.1 in
    let made : Token × List ℕ = (reference a.0.0, b.0.1) in
    let g = guard_ok (is_reference a.0.0) Never made x b.2 in
    subst (Reads (38 ∷ bytes)) g.1 (ap (λ (l : List ℕ). 38 ∷ l) (ta.0 ∙ ap (λ (l : List ℕ). a.0.0 ++ l) tb.0 ∙ sym (append_assoc a.0.0 (59 ∷ []) b.0.1)), g.0, refl)

reference_again : (body rest : List ℕ) → is_reference body ≡ true → reference_at ((body ++ 59 ∷ []) ++ rest) ≡ Ok (reference body, rest)
unfolding reference_at
reference_again body rest h =
    ap reference_at (append_assoc body (59 ∷ []) rest) ∙ rw (run_again is_reference_byte body (59 ∷ rest) (reference_refers body h) refl, literal_again (59 ∷ []) rest, h) refl

reference_stays : (bytes more : List ℕ) → Stays more (reference_at bytes) (reference_at (bytes ++ more))
unfolding reference_at
reference_stays bytes more =
    stays_bind more (run is_reference_byte bytes) (run is_reference_byte (bytes ++ more)) (λ body. literal (59 ∷ []) body.1 >>= λ close. cond (is_reference body.0) (Ok (reference body.0, close.1)) (Err Never)) (run_stays is_reference_byte bytes more)
    (λ body. stays_bind more (literal (59 ∷ []) body.1) (literal (59 ∷ []) (body.1 ++ more)) (λ close. cond (is_reference body.0) (Ok (reference body.0, close.1)) (Err Never)) (literal_stays (59 ∷ []) body.1 more)
    (λ close. stays_if more (is_reference body.0) (Ok (reference body.0, close.1)) (Err Never) (Ok (reference body.0, close.1 ++ more)) (Err Never) refl refl))

-- ---- all of them

markup_takes : (bytes : List ℕ) (x : Token × List ℕ) → markup_at bytes ≡ Ok x → Reads (60 ∷ bytes) x
unfolding markup_at
markup_takes [] x e = absurd cc
markup_takes (b ∷ bytes) x e =
    elim (chosen (eqb b 47) (end_at bytes) (cond (eqb b 33) (declaration_at bytes) (cond (eqb b 63) (instruction_at bytes) (start_at (b ∷ bytes)))) (Ok x) e) [
      | inl h ↦ subst (λ (k : ℕ). Reads (60 ∷ k ∷ bytes) x) (sym (eqb-true b 47 h.0)) (end_takes bytes x h.1)
      | inr h ↦
          elim (chosen (eqb b 33) (declaration_at bytes) (cond (eqb b 63) (instruction_at bytes) (start_at (b ∷ bytes))) (Ok x) h.1) [
            | inl k ↦ subst (λ (k : ℕ). Reads (60 ∷ k ∷ bytes) x) (sym (eqb-true b 33 k.0)) (declaration_takes bytes x k.1)
            | inr k ↦
                elim (chosen (eqb b 63) (instruction_at bytes) (start_at (b ∷ bytes)) (Ok x) k.1) [
                  | inl m ↦ subst (λ (k : ℕ). Reads (60 ∷ k ∷ bytes) x) (sym (eqb-true b 63 m.0)) (instruction_takes bytes x m.1)
                  | inr m ↦ start_takes (b ∷ bytes) x m.1
                ]
          ]
    ]

markup_stays : (bytes more : List ℕ) → Stays more (markup_at bytes) (markup_at (bytes ++ more))
unfolding markup_at
markup_stays [] more = tt
markup_stays (b ∷ bytes) more =
    stays_if more (eqb b 47) (end_at bytes) (cond (eqb b 33) (declaration_at bytes) (cond (eqb b 63) (instruction_at bytes) (start_at (b ∷ bytes))))
    (end_at (bytes ++ more)) (cond (eqb b 33) (declaration_at (bytes ++ more)) (cond (eqb b 63) (instruction_at (bytes ++ more)) (start_at (b ∷ (bytes ++ more))))) (end_stays bytes more)
    (stays_if more (eqb b 33) (declaration_at bytes) (cond (eqb b 63) (instruction_at bytes) (start_at (b ∷ bytes))) (declaration_at (bytes ++ more)) (cond (eqb b 63) (instruction_at (bytes ++ more)) (start_at (b ∷ (bytes ++ more)))) (declaration_stays bytes more)
    (stays_if more (eqb b 63) (instruction_at bytes) (start_at (b ∷ bytes)) (instruction_at (bytes ++ more)) (start_at (b ∷ (bytes ++ more))) (instruction_stays bytes more) (start_stays (b ∷ bytes) more)))

-- a name begins no other markup
name_no_mark : (b : ℕ) → starts_name b ≡ true → (eqb b 47 ≡ false) × (eqb b 33 ≡ false) × (eqb b 63 ≡ false)
name_no_mark b h = (grind (arith, nat_tests), grind (arith, nat_tests), grind (arith, nat_tests))

markup_is_start : (name rest : List ℕ) → is_name name ≡ true → markup_at (name ++ rest) ≡ start_at (name ++ rest)
unfolding markup_at
markup_is_start [] rest h = absurd cc
markup_is_start (b ∷ name) rest h =
    let no = name_no_mark b (name_bytes (b ∷ name) h).0 in
    rw (no.0, no.1, no.2) refl

outside_takes : (bytes : List ℕ) (x : Token × List ℕ) → outside_at bytes ≡ Ok x → Reads bytes x
unfolding outside_at
outside_takes [] x e = absurd cc
outside_takes (b ∷ bytes) x e =
    elim (chosen (eqb b 60) (markup_at bytes) (cond (eqb b 38) (reference_at bytes) (Ok (raw b, bytes))) (Ok x) e) [
      | inl h ↦ subst (λ (k : ℕ). Reads (k ∷ bytes) x) (sym (eqb-true b 60 h.0)) (markup_takes bytes x h.1)
      | inr h ↦
          elim (chosen (eqb b 38) (reference_at bytes) (Ok (raw b, bytes)) (Ok x) h.1) [
            | inl k ↦ subst (λ (k : ℕ). Reads (k ∷ bytes) x) (sym (eqb-true b 38 k.0)) (reference_takes bytes x k.1)
            | inr k ↦
                let made : Token × List ℕ = (raw b, bytes) in
                subst (Reads (b ∷ bytes)) (ok_is made x k.1) (refl, rw (h.0, k.0) refl, refl)
          ]
    ]

-- a byte of a section
byte_reads : (n b : ℕ) (bytes : List ℕ) → ReadsIn (Some n) (b ∷ bytes) (section_byte n b, bytes)
byte_reads n b bytes = go (eqb b 93) refl
  where
    go : (t : Bool) → eqb b 93 ≡ t → ReadsIn (Some n) (b ∷ bytes) (cond t (bracket n) (cdata n b), bytes)
    go true e = (ap (λ (k : ℕ). k ∷ bytes) (eqb-true b 93 e), refl, refl)
    go false e = (refl, rw e refl, refl)

section_takes : (n : ℕ) (bytes : List ℕ) (x : Token × List ℕ) → section_at n bytes ≡ Ok x → ReadsIn (Some n) bytes x
unfolding section_at
section_takes n [] x e = absurd cc
section_takes n (b ∷ bytes) x e =
    let made : Token × List ℕ = (section_byte n b, bytes) in
    subst (ReadsIn (Some n) (b ∷ bytes)) (ok_is made x e) (byte_reads n b bytes)

pub token_takes : (section : Option ℕ) (bytes : List ℕ) (x : Token × List ℕ) → token_at section bytes ≡ Ok x → ReadsIn section bytes x
unfolding token_at
token_takes None bytes x e = outside_takes bytes x e
token_takes (Some n) bytes x e = section_takes n bytes x e

fine_tag : (name : List ℕ) (attributes : List Attribute) (space : List ℕ) → (is_name name && (list_all is_attribute attributes && list_all is_space space)) ≡ true → FineTag name attributes space
fine_tag name attributes space h =
    let p = and_parts (is_name name) (list_all is_attribute attributes && list_all is_space space) h in
    let q = and_parts (list_all is_attribute attributes) (list_all is_space space) p.1 in
    record { name = p.0; attributes = q.0; space = q.1 }

plain_tests : (b : ℕ) → is_plain b ≡ true → (eqb b 60 ≡ false) × (eqb b 38 ≡ false)
plain_tests b h = (grind (arith, nat_tests), grind (arith, nat_tests))

pub token_again : (token : Token) (rest : List ℕ) → is_token token ≡ true → token_at (section_around token) (spelling token ++ rest) ≡ Ok (token, rest)
unfolding token_at outside_at section_at markup_at declaration_at
token_again (raw b) rest h =
    let t = plain_tests b h in
    rw (t.0, t.1) refl
token_again (reference body) rest h = reference_again body rest h
token_again opening rest h = opening_again rest
token_again (bracket n) rest h = refl
token_again (cdata n b) rest h = rw (not-true (eqb b 93) h) refl
token_again (comment body) rest h = comment_again body rest h
token_again (instruction body) rest h =
    let p = and_parts (is_instruction body) (is_free (63 ∷ 62 ∷ []) body) h in
    instruction_again body rest p.0 p.1
token_again (declaration body) rest h =
    let p = and_parts (is_declaration body) (is_free (63 ∷ 62 ∷ []) body) h in
    declaration_again body rest p.0 p.1
token_again (doctype body) rest h =
    let p = and_parts (is_named body) (is_skimmed Outside body) h in
    doctype_again body rest p.0 p.1
token_again (start name attributes space) rest h =
    let f = fine_tag name attributes space h in
    ap markup_at (append_assoc name (flat_map attribute_text attributes ++ (space ++ 62 ∷ [])) rest) ∙ markup_is_start name ((flat_map attribute_text attributes ++ (space ++ 62 ∷ [])) ++ rest) f.name
    ∙ ap start_at (sym (append_assoc name (flat_map attribute_text attributes ++ (space ++ 62 ∷ [])) rest)) ∙ start_again name attributes space rest f
token_again (empty name attributes space) rest h =
    let f = fine_tag name attributes space h in
    ap markup_at (append_assoc name (flat_map attribute_text attributes ++ (space ++ 47 ∷ 62 ∷ [])) rest) ∙ markup_is_start name ((flat_map attribute_text attributes ++ (space ++ 47 ∷ 62 ∷ [])) ++ rest) f.name
    ∙ ap start_at (sym (append_assoc name (flat_map attribute_text attributes ++ (space ++ 47 ∷ 62 ∷ [])) rest)) ∙ empty_again name attributes space rest f
token_again (end name space) rest h =
    let p = and_parts (is_name name) (list_all is_space space) h in
    end_again name space rest p.0 p.1

outside_stays : (bytes more : List ℕ) → Stays more (outside_at bytes) (outside_at (bytes ++ more))
unfolding outside_at
outside_stays [] more = tt
outside_stays (b ∷ bytes) more =
    stays_if more (eqb b 60) (markup_at bytes) (cond (eqb b 38) (reference_at bytes) (Ok (raw b, bytes))) (markup_at (bytes ++ more)) (cond (eqb b 38) (reference_at (bytes ++ more)) (Ok (raw b, bytes ++ more))) (markup_stays bytes more)
    (stays_if more (eqb b 38) (reference_at bytes) (Ok (raw b, bytes)) (reference_at (bytes ++ more)) (Ok (raw b, bytes ++ more)) (reference_stays bytes more) refl)

section_stays : (n : ℕ) (bytes more : List ℕ) → Stays more (section_at n bytes) (section_at n (bytes ++ more))
unfolding section_at
section_stays n [] more = tt
section_stays n (b ∷ bytes) more = refl

pub token_stays : (section : Option ℕ) (bytes more : List ℕ) → Stays more (token_at section bytes) (token_at section (bytes ++ more))
unfolding token_at
token_stays None bytes more = outside_stays bytes more
token_stays (Some n) bytes more = section_stays n bytes more
