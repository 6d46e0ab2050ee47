-- Tokens are the only reading of their bytes, so what was read is the front of every document that the bytes may be.
use Rattle.std.proofs.Common.{◌≡◌, ℕ, Bool, true, false, List, [], ◌∷◌, ◌++◌, length, drop, Option, Some, None, Result, Ok, Err, refl, sym, ap, subst, ◌∙◌, append_assoc, append-nil, length-append, arith}
use Rattle.std.specs.Prelude.{◌&&◌}
use Rattle.std.specs.List.{list_all, flat_map}
use Rattle.std.proofs.lemmas.Bool.{and_parts, eqb-true}
use Rattle.std.proofs.lemmas.List.Concat.{flat_map-cons}
use Rattle.std.proofs.lemmas.List.Folds.{list_all-append}
use Rattle.std.proofs.lemmas.Grind.{flat_map-append}
use Rattle.feed_xml.specs.declared.stop.Stop.{Stop}
use Rattle.feed_xml.specs.declared.stop.Stop.TheVariants.{Never}
use Rattle.feed_xml.specs.declared.nesting.Nesting.{Nesting}
use Rattle.feed_xml.specs.declared.place.Place.{Place}
use Rattle.feed_xml.specs.declared.place.Prolog.{Prolog}
use Rattle.feed_xml.specs.declared.place.Tail.{Tail}
use Rattle.feed_xml.specs.declared.place.Tail.TheVariants.{Text, Section}
use Rattle.feed_xml.specs.Grammar.{Token, raw, cdata, spelling, is_token, is_filled}
use Rattle.feed_xml.specs.Reading.{token_at}
use Rattle.feed_xml.specs.Pieces.{Begins, HasNoToken, Explains}
use Rattle.feed_xml.specs.Sections.{AreIn, section_behind}
use Rattle.feed_xml.proofs.PlaceLaws.{placed_in, steps-append, past_is}
use Rattle.feed_xml.specs.private.Places.{section_of, steps, is_clear, is_nothing, is_closed, is_past, is_last, Completes, IsComplete, IsNeverComplete, first_place, last_nesting, last_place}
use Rattle.feed_xml.specs.Documents.{IsNoText}
use Rattle.std.specs.Prelude.{IfSome, not, OnOk}
use Rattle.std.specs.Io.KnownBytes.{Consumes, IsAtEnd}
use Rattle.feed_xml.specs.private.Windows.{Advances, IsTold, is_whole}
use Rattle.feed_xml.specs.declared.texts.Part.{Part}
use Rattle.feed_xml.specs.declared.texts.Part.TheVariants.{Whole, One, Two, Three}
use Rattle.feed_xml.specs.Texts.{follow, is_start}
use Rattle.feed_xml.proofs.TextLaws.{follow-append, text_follows, text_is}
use Rattle.feed_xml.proofs.StepLaws.{ok_is}
use Rattle.feed_xml.proofs.TokenLaws.{token_again}
use Rattle.feed_xml.proofs.PieceLaws.{spelling_filled}

abbrev read_as : Token → List ℕ → Result (Token × List ℕ) Stop
read_as token rest = Ok (token, rest)

same_token : (t u : Token) (r s : List ℕ) → read_as t r ≡ read_as u s → (t ≡ u) × (r ≡ s)
same_token t u r s e =
    let pair : Token × List ℕ = (t, r) in
    let other : Token × List ℕ = (u, s) in
    let same = ok_is pair other e in
    (ap (λ (x : Token × List ℕ). x.0) same, ap (λ (x : Token × List ℕ). x.1) same)

pub record Front (done all : List Token) (rest : List ℕ) : Type 0 where
  pub others : List Token
  pub parts : all ≡ done ++ others
  pub spelled : rest ≡ flat_map spelling others
  pub each : list_all is_token others ≡ true

-- what begins with the spelling of some tokens is spelled by no others
pub front_is : (section : Option ℕ) (done all : List Token) (rest : List ℕ) → list_all is_token done ≡ true → list_all is_token all ≡ true → AreIn section done → AreIn section all
    → flat_map spelling done ++ rest ≡ flat_map spelling all → Front done all rest
front_is section [] all rest d a i j e = record { others = all; parts = refl; spelled = e; each = a }
front_is section (t ∷ done) [] rest d a i j e =
    absurd (omega (arith, ap length (ap (λ (l : List ℕ). l ++ rest) (sym (flat_map-cons spelling t done)) ∙ e), length-append (spelling t ++ flat_map spelling done) rest, length-append (spelling t) (flat_map spelling done), spelling_filled t))
front_is section (t ∷ done) (u ∷ all) rest d a i j e =
    let dp = and_parts (is_token t) (list_all is_token done) d in
    let ap' = and_parts (is_token u) (list_all is_token all) a in
    let left : flat_map spelling (t ∷ done) ++ rest ≡ spelling t ++ (flat_map spelling done ++ rest) =
    ap (λ (l : List ℕ). l ++ rest) (flat_map-cons spelling t done) ∙ append_assoc (spelling t) (flat_map spelling done) rest in
    let same : spelling t ++ (flat_map spelling done ++ rest) ≡ spelling u ++ flat_map spelling all = sym left ∙ e ∙ flat_map-cons spelling u all in
    let both : read_as t (flat_map spelling done ++ rest) ≡ read_as u (flat_map spelling all) =
    sym (token_again t (flat_map spelling done ++ rest) dp.0) ∙ ap (λ (s : Option ℕ). token_at s (spelling t ++ (flat_map spelling done ++ rest))) i.0 ∙ ap (token_at section) same
    ∙ ap (λ (s : Option ℕ). token_at s (spelling u ++ flat_map spelling all)) (sym j.0) ∙ token_again u (flat_map spelling all) ap'.0 in
    let parts = same_token t u (flat_map spelling done ++ rest) (flat_map spelling all) both in
    let others_in : AreIn (section_behind t) all = subst (λ (v : Token). AreIn (section_behind v) all) (sym parts.0) j.1 in
    let more = front_is (section_behind t) done all rest dp.1 ap'.1 i.1 others_in parts.1 in
    record { others = more.others; parts = ap (λ (v : Token). v ∷ all) (sym parts.0) ∙ ap (λ (l : List Token). t ∷ l) more.parts; spelled = more.spelled; each = more.each }

pub at_start : (bytes : List ℕ) (p : Place) → Advances bytes [] bytes p p
at_start bytes p = record { spelled = refl; each = refl; leads = refl }

pub advance_more : (bytes rest left : List ℕ) (tokens others : List Token) (p q r : Place) → Advances bytes tokens rest p q → Begins (section_of q.tail) rest others left → steps q others ≡ Some r
    → Advances bytes (tokens ++ others) left p r
advance_more bytes rest left tokens others p q r a b leads = record {
  spelled =
      a.spelled ∙ ap (λ (l : List ℕ). flat_map spelling tokens ++ l) b.spelled ∙ sym (append_assoc (flat_map spelling tokens) (flat_map spelling others) left)
      ∙ ap (λ (l : List ℕ). l ++ left) (sym (flat_map-append spelling tokens others));
  each = list_all-append is_token tokens others ∙ rw (a.each, b.each) refl;
  leads = steps-append p tokens others ∙ rw a.leads leads;
}

-- what completes a document goes on from where it was read to
pub completes_rest : (bytes rest more : List ℕ) (tokens all : List Token) (p q : Place) → Advances bytes tokens rest p q → Completes p (bytes ++ more) all
    → (others : List Token) × Completes q (rest ++ more) others
completes_rest bytes rest more tokens all p q a c =
    let whole : flat_map spelling tokens ++ (rest ++ more) ≡ flat_map spelling all =
    sym (append_assoc (flat_map spelling tokens) rest more) ∙ ap (λ (l : List ℕ). l ++ more) (sym a.spelled) ∙ c.spelled in
    let f = front_is (section_of p.tail) tokens all (rest ++ more) a.each c.each (placed_in p tokens q a.leads) (placed_in p all last_place c.ends) whole in
    let ends : steps p (tokens ++ f.others) ≡ Some last_place = ap (steps p) (sym f.parts) ∙ c.ends in
    let split : steps p (tokens ++ f.others) ≡ steps q f.others = steps-append p tokens f.others ∙ rw a.leads refl in
    (f.others, record { spelled = f.spelled; each = f.each; ends = sym split ∙ ends })

none_ends : (q : Place) (rest : List ℕ) (others : List Token) → Completes q rest others → HasNoToken (section_of q.tail) rest → others ≡ []
none_ends q rest [] c absent = refl
none_ends q rest (t ∷ others) c absent =
    let parts = and_parts (is_token t) (list_all is_token others) c.each in
    let within = placed_in q (t ∷ others) last_place c.ends in
    absurd (absent t (flat_map spelling others) parts.0 within.0 (c.spelled ∙ flat_map-cons spelling t others))

-- without a token and without bytes only the last place is an end
pub at_end : (q : Place) (rest : List ℕ) (others : List Token) → Completes q rest others → HasNoToken (section_of q.tail) rest → (rest ≡ []) × (q ≡ last_place)
at_end q rest others c absent =
    let none = none_ends q rest others c absent in
    let ends : steps q [] ≡ Some last_place = ap (steps q) (sym none) ∙ c.ends in
    (c.spelled ∙ ap (flat_map spelling) none, some_is q last_place ends)
  where
    some_is : (x y : Place) → steps x [] ≡ Some y → x ≡ y
    some_is x y e = cc

never_filled : (section : Option ℕ) (rest more : List ℕ) → Explains section Never rest → rest ++ more ≡ [] → ⊥
never_filled None [] more absent e = absent (120 ∷ []) (raw 120) [] refl refl refl
never_filled None (b ∷ rest) more absent e = absurd cc
never_filled (Some n) [] more absent e = absent (120 ∷ []) (cdata n 120) [] refl refl refl
never_filled (Some n) (b ∷ rest) more absent e = absurd cc

pub never_completes : (bytes rest : List ℕ) (tokens : List Token) (p q : Place) → Advances bytes tokens rest p q → Explains (section_of q.tail) Never rest
    → (more : List ℕ) (all : List Token) → ¬ (Completes p (bytes ++ more) all)
never_completes bytes rest tokens p q a absent more all c =
    let d = completes_rest bytes rest more tokens all p q a c in
    let e = at_end q (rest ++ more) d.0 d.1 (absent more) in
    never_filled (section_of q.tail) rest more absent e.0

pub misplaced : (bytes rest left : List ℕ) (tokens others : List Token) (p q : Place) → Advances bytes tokens rest p q → Begins (section_of q.tail) rest others left → steps q others ≡ None
    → (more : List ℕ) (all : List Token) → ¬ (Completes p (bytes ++ more) all)
misplaced bytes rest left tokens others p q a b none more all c =
    let d = completes_rest bytes rest more tokens all p q a c in
    let whole : flat_map spelling others ++ (left ++ more) ≡ flat_map spelling d.0 =
    sym (append_assoc (flat_map spelling others) left more) ∙ ap (λ (l : List ℕ). l ++ more) (sym b.spelled) ∙ d.1.spelled in
    let f = front_is (section_of q.tail) others d.0 (left ++ more) b.each d.1.each b.within (placed_in q d.0 last_place d.1.ends) whole in
    let ends : steps q (others ++ f.others) ≡ Some last_place = ap (steps q) (sym f.parts) ∙ d.1.ends in
    let split : steps q (others ++ f.others) ≡ None = steps-append q others f.others ∙ rw none refl in
    absurd (cc (sym split ∙ ends))

-- ---- over a reader

pub advance_further : (bytes window rest : List ℕ) (tokens others : List Token) (p q r : Place) → Advances bytes tokens window p q → Advances window others rest q r
    → Advances bytes (tokens ++ others) rest p r
advance_further bytes window rest tokens others p q r a b = record {
  spelled =
      a.spelled ∙ ap (λ (l : List ℕ). flat_map spelling tokens ++ l) b.spelled ∙ sym (append_assoc (flat_map spelling tokens) (flat_map spelling others) rest)
      ∙ ap (λ (l : List ℕ). l ++ rest) (sym (flat_map-append spelling tokens others));
  each = list_all-append is_token tokens others ∙ rw (a.each, b.each) refl;
  leads = steps-append p tokens others ∙ rw a.leads b.leads;
}

pub advance_longer : (bytes rest piece : List ℕ) (tokens : List Token) (p q : Place) → Advances bytes tokens rest p q → Advances (bytes ++ piece) tokens (rest ++ piece) p q
advance_longer bytes rest piece tokens p q a = record {
  spelled = ap (λ (l : List ℕ). l ++ piece) a.spelled ∙ append_assoc (flat_map spelling tokens) rest piece;
  each = a.each;
  leads = a.leads;
}

completes_of : (bytes : List ℕ) (tokens : List Token) → IsComplete bytes tokens → Completes first_place bytes tokens
completes_of bytes tokens d = record { spelled = d.spelled; each = d.each; ends = d.ends }

-- the input begins with what was read, which begins no document
pub known_malformed : (a b : Option (List ℕ)) (bytes window : List ℕ) (tokens : List Token) (q : Place) → Consumes a b bytes → Advances bytes tokens window first_place q
    → ((more : List ℕ) (all : List Token) → ¬ (Completes q (window ++ more) all)) → IfSome a IsNeverComplete
known_malformed None b bytes window tokens q c adv none = tt
known_malformed (Some x) None bytes window tokens q c adv none = absurd c
known_malformed (Some x) (Some y) bytes window tokens q c adv none =
    λ all document.
    let whole : Completes first_place (bytes ++ y) all = subst (λ (l : List ℕ). Completes first_place l all) c (completes_of x all document) in
    let d = completes_rest bytes window y tokens all first_place q adv whole in
    none y d.0 d.1

pub known_told : (a b : Option (List ℕ)) (bytes : List ℕ) → Consumes a b bytes → IsAtEnd b → IsTold a bytes
known_told None b bytes c end_here = tt
known_told (Some x) None bytes c end_here = absurd c
known_told (Some x) (Some y) bytes c end_here = c ∙ ap (λ (l : List ℕ). bytes ++ l) end_here ∙ append-nil bytes

same_part : (p q : Part) → Some p ≡ Some q → p ≡ q
same_part p q e = cc

start_is : (part : Part) → is_start part ≡ true → part ≡ Whole
start_is Whole h = refl
start_is (One value least) h = absurd cc
start_is (Two value least) h = absurd cc
start_is (Three value) h = absurd cc

-- all of the input was read, and does not end as a document does
pub known_cut : (a b : Option (List ℕ)) (bytes window : List ℕ) (tokens : List Token) (q : Place) (part : Part) → Consumes a b bytes → IsAtEnd b → Advances bytes tokens window first_place q
    → follow Whole bytes ≡ Some part → HasNoToken (section_of q.tail) window → is_whole window q part ≡ false → IfSome a IsNeverComplete
known_cut None b bytes window tokens q part c end_here adv at_part none cut = tt
known_cut (Some x) None bytes window tokens q part c end_here adv at_part none cut = absurd c
known_cut (Some x) (Some y) bytes window tokens q part c end_here adv at_part none cut =
    λ all document.
    let told : x ≡ bytes ++ [] = c ∙ ap (λ (l : List ℕ). bytes ++ l) end_here in
    let whole : Completes first_place (bytes ++ []) all = subst (λ (l : List ℕ). Completes first_place l all) told (completes_of x all document) in
    let d = completes_rest bytes window [] tokens all first_place q adv whole in
    let rest : Completes q window d.0 = subst (λ (l : List ℕ). Completes q l d.0) (append-nil window) d.1 in
    let e = at_end q window d.0 rest none in
    let text : follow Whole bytes ≡ Some Whole = ap (follow Whole) (sym (append-nil bytes) ∙ sym told) ∙ text_follows x document.text in
    let start : part ≡ Whole = same_part part Whole (sym at_part ∙ text) in
    let ends : is_whole window q part ≡ true = ap (λ (l : List ℕ). is_whole l q part) e.0 ∙ ap (λ (p : Place). is_whole [] p part) e.1 ∙ ap (is_whole [] last_place) start in
    absurd (cc (sym cut ∙ ends))

-- all of the input was read, and ends within a character
pub known_half : (a b : Option (List ℕ)) (bytes : List ℕ) (part : Part) → Consumes a b bytes → IsAtEnd b → follow Whole bytes ≡ Some part → is_start part ≡ false → IfSome a IsNoText
known_half None b bytes part c end_here at_part half = tt
known_half (Some x) b bytes part c end_here at_part half =
    λ text.
    let told : x ≡ bytes = known_told (Some x) b bytes c end_here in
    let start : part ≡ Whole = same_part part Whole (sym at_part ∙ ap (follow Whole) (sym told) ∙ text_follows x text) in
    absurd (cc (sym half ∙ ap is_start start))

-- the input begins with bytes that begin no text
pub known_garbled : (a b : Option (List ℕ)) (bytes : List ℕ) → Consumes a b bytes → follow Whole bytes ≡ None → IfSome a IsNoText
known_garbled None b bytes c none = tt
known_garbled (Some x) None bytes c none = absurd c
known_garbled (Some x) (Some y) bytes c none =
    λ text.
    let whole : follow Whole (bytes ++ y) ≡ Some Whole = ap (follow Whole) (sym c) ∙ text_follows x text in
    let split : follow Whole (bytes ++ y) ≡ None = follow-append Whole bytes y ∙ rw none refl in
    absurd (cc (sym split ∙ whole))

not_filled : (bytes : List ℕ) → not (is_filled bytes) ≡ true → bytes ≡ []
not_filled [] h = refl
not_filled (b ∷ bytes) h = absurd cc

abbrev nested_so : List (List ℕ) → Bool → Nesting
nested_so open_names was_begun = record { names = open_names; begun = was_begun }

closed_is : (p : Nesting) → is_closed p ≡ true → p ≡ last_nesting
closed_is p h =
    let parts = and_parts p.begun (is_nothing p.names) h in
    ap (λ (b : Bool). nested_so p.names b) parts.0 ∙ ap (λ (l : List (List ℕ)). nested_so l true) (nothing p.names parts.1)
  where
    nothing : (l : List (List ℕ)) → is_nothing l ≡ true → l ≡ []
    nothing [] k = refl
    nothing (x ∷ l) k = absurd cc

clear_is : (t : Tail) → is_clear t ≡ true → t ≡ Text 0
clear_is (Text n) h = ap (λ (k : ℕ). Text k) (eqb-true n 0 h)
clear_is (Section n) h = absurd cc

abbrev place_so : Nesting → Tail → Prolog → Place
place_so elements tail prolog = record { nesting = elements; tail = tail; prolog = prolog }

last_is : (q : Place) → is_last q ≡ true → q ≡ last_place
last_is q h =
    let parts = and_parts (is_closed q.nesting) (is_clear q.tail && is_past q.prolog) h in
    let others = and_parts (is_clear q.tail) (is_past q.prolog) parts.1 in
    ap (λ (n : Nesting). place_so n q.tail q.prolog) (closed_is q.nesting parts.0)
    ∙ ap (λ (t : Tail). place_so last_nesting t q.prolog) (clear_is q.tail others.0)
    ∙ ap (λ (p : Prolog). place_so last_nesting (Text 0) p) (past_is q.prolog others.1)

pub whole_document : (bytes window : List ℕ) (tokens : List Token) (q : Place) (part : Part) → Advances bytes tokens window first_place q → follow Whole bytes ≡ Some part → is_whole window q part ≡ true
    → IsComplete bytes tokens
whole_document bytes window tokens q part adv at_part whole =
    let all = and_parts (is_start part) (not (is_filled window) && is_last q) whole in
    let parts = and_parts (not (is_filled window)) (is_last q) all.1 in
    record {
      text = text_is bytes (at_part ∙ ap (λ (p : Part). Some p) (start_is part all.0));
      spelled = adv.spelled ∙ ap (λ (l : List ℕ). flat_map spelling tokens ++ l) (not_filled window parts.0) ∙ append-nil (flat_map spelling tokens);
      each = adv.each;
      ends = adv.leads ∙ ap (λ (p : Place). Some p) (last_is q parts.1);
    }

-- a turn of the loop: the window was shown, its tokens were handed on, and its front was dropped
pub a_round : (text window shown behind : List ℕ) (n : ℕ) (tokens others : List Token) (p q r : Place) → Advances text tokens window p q → shown ≡ window
    → Advances shown others (drop n shown) q r → behind ≡ drop n window → Advances text (tokens ++ others) behind p r
a_round text window shown behind n tokens others p q r a is b dropped =
    let same : drop n shown ≡ behind = ap (drop n) is ∙ sym dropped in
    let c : Advances window others (drop n shown) q r = subst (λ (l : List ℕ). Advances l others (drop n shown) q r) is b in
    let d : Advances window others behind q r = subst (λ (l : List ℕ). Advances window others l q r) same c in
    advance_further text window behind tokens others p q r a d

pub a_none : (section : Option ℕ) (window shown behind : List ℕ) (n : ℕ) → shown ≡ window → behind ≡ drop n window → HasNoToken section (drop n shown) → HasNoToken section behind
a_none section window shown behind n is dropped none =
    let same : drop n shown ≡ behind = ap (drop n) is ∙ sym dropped in
    subst (HasNoToken section) same none

pub ok_then : {T E : Type 0} {P Q : Type 0} (r : Result T E) → OnOk r P → (P → Q) → OnOk r Q
ok_then (Ok x) h f = f h
ok_then (Err e) h f = tt

-- an empty read adds nothing
pub nothing_read : (after before piece : List ℕ) → after ≡ before ++ piece → piece ≡ [] → after ≡ before
nothing_read after before piece is none = is ∙ ap (λ (l : List ℕ). before ++ l) none ∙ append-nil before

no_text : (tokens : List Token) → [] ≡ flat_map spelling tokens → tokens ≡ []
no_text [] e = refl
no_text (t ∷ tokens) e = absurd (omega (arith, ap length (e ∙ flat_map-cons spelling t tokens), length-append (spelling t) (flat_map spelling tokens), spelling_filled t))

-- a text is a document in one way at most
pub only_one : (bytes : List ℕ) (a b : List Token) → IsComplete bytes a → IsComplete bytes b → a ≡ b
only_one bytes a b x y =
    let f = front_is None a b [] x.each y.each (placed_in first_place a last_place x.ends) (placed_in first_place b last_place y.ends) (append-nil (flat_map spelling a) ∙ sym x.spelled ∙ y.spelled) in
    sym (f.parts ∙ ap (λ (l : List Token). a ++ l) (no_text f.others f.spelled) ∙ append-nil a)
