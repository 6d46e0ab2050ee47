-- Where the reading of a document stands.
use Rattle.std.proofs.Common.{append-nil, ◌≡◌, ℕ, ◌+◌, ◌-◌, true, false, List, [], ◌++◌, length, take, drop, Option, Some, None, refl, sym, ap, subst, ◌∙◌, append_assoc, take-append-drop, take-add, take_at, drop_at}
use Rattle.std.specs.Prelude.{IfSome, option_and_then}
use Rattle.std.specs.Io.KnownBytes.{Consumes, IsAtEnd, prepend_known}
use Rattle.std.proofs.KnownBytes.{Consumes-trans, prepend_known-nil}
use Rattle.feed_xml.specs.declared.place.Place.{Place}
use Rattle.feed_xml.specs.declared.texts.Part.{Part}
use Rattle.feed_xml.specs.declared.texts.Part.TheVariants.{Whole}
use Rattle.feed_xml.specs.private.Windows.{Advances, Grows, IsTold, is_whole}
use Rattle.feed_xml.specs.Grammar.{Token}
use Rattle.feed_xml.specs.private.Bounds.{MeetsFrom, IsLongAt}
use Rattle.feed_xml.specs.Pieces.{HasNoToken}
use Rattle.feed_xml.specs.private.Places.{Completes, IsComplete, IsNeverComplete, first_place, section_of}
use Rattle.feed_xml.specs.Documents.{IsNoText}
use Rattle.feed_xml.specs.Texts.{follow, is_start, IsSmall}
use Rattle.feed_xml.proofs.Runs.{rest_is}
use Rattle.feed_xml.proofs.DocumentLaws.{at_start, advance_longer, a_round, known_malformed, known_told, known_cut, known_garbled, known_half, nothing_read, whole_document}
use Rattle.feed_xml.proofs.LimitLaws.{Lasts, known_limit, long_lasts}
use Rattle.feed_xml.proofs.TextLaws.{follow-append}

-- all that was read is a text up to here; or it is none, by the bytes behind it
abbrev pub Reaches : Option Part → List ℕ → List ℕ → Type 0
Reaches (Some part) text bad = (bad ≡ []) × (follow Whole text ≡ Some part)
Reaches None text bad = follow Whole (text ++ bad) ≡ None

-- The text so far is what was told without what is left: these tokens, to a place, and then the window. Behind it stand the bytes that are none of a text.
pub record State (told left : Option (List ℕ)) (window : List ℕ) (tokens : List Token) (place : Place) (part : Option Part) : Type 0 where
  pub text : List ℕ
  pub bad : List ℕ
  pub read : Consumes told (prepend_known bad left) text
  pub advances : Advances text tokens window first_place place
  pub at_part : Reaches part text bad

pub at_first : (told : Option (List ℕ)) (place : Place) → place ≡ first_place → State told told [] [] place (Some Whole)
at_first told place is = record {
  text = [];
  bad = [];
  read = none_read told;
  advances = subst (λ (p : Place). Advances [] [] [] first_place p) (sym is) (at_start [] first_place);
  at_part = (refl, refl);
}
  where
    none_read : (a : Option (List ℕ)) → Consumes a (prepend_known [] a) []
    none_read None = tt
    none_read (Some x) = refl

set_apart : (a b : Option (List ℕ)) (text bad : List ℕ) → Consumes a b (text ++ bad) → Consumes a (prepend_known bad b) text
set_apart None b text bad c = tt
set_apart (Some x) None text bad c = absurd c
set_apart (Some x) (Some y) text bad c = c ∙ append_assoc text bad y

put_back : (a b : Option (List ℕ)) (text bad : List ℕ) → Consumes a (prepend_known bad b) text → Consumes a b (text ++ bad)
put_back None b text bad c = tt
put_back (Some x) None text bad c = absurd c
put_back (Some x) (Some y) text bad c = c ∙ sym (append_assoc text bad y)

-- without bytes that are none of a text
pub nothing_bad : (a b : Option (List ℕ)) (text bad : List ℕ) → bad ≡ [] → Consumes a (prepend_known bad b) text → Consumes a b text
nothing_bad a b text bad none c = subst (λ (o : Option (List ℕ)). Consumes a o text) (ap (λ (l : List ℕ). prepend_known l b) none ∙ prepend_known-nil b) c

-- more was read
pub reads_on : (told left later : Option (List ℕ)) (before window : List ℕ) (tokens : List Token) (place : Place) (part : Part) (piece : List ℕ) (next : Option Part)
    → State told left before tokens place (Some part) → Consumes left later piece → Grows before window part piece next → State told later window tokens place next
reads_on told left later before window tokens place part piece (Some q) s c g = record {
  text = s.text ++ piece;
  bad = [];
  read =
      subst (λ (o : Option (List ℕ)). Consumes told o (s.text ++ piece)) (sym (prepend_known-nil later))
      (Consumes-trans told left later s.text piece (nothing_bad told left s.text s.bad s.at_part.0 s.read) c);
  advances = subst (λ (l : List ℕ). Advances (s.text ++ piece) tokens l first_place place) (sym g.0) (advance_longer s.text before piece tokens first_place place s.advances);
  at_part = (refl, follow-append Whole s.text piece ∙ ap (option_and_then (λ (p : Part). follow p piece)) s.at_part.1 ∙ g.1);
}
reads_on told left later before window tokens place part piece None s c g =
    let all = Consumes-trans told left later s.text piece (nothing_bad told left s.text s.bad s.at_part.0 s.read) c in
    let parts : s.text ++ piece ≡ (s.text ++ g.0) ++ g.1 = ap (λ (l : List ℕ). s.text ++ l) g.2 ∙ sym (append_assoc s.text g.0 g.1) in
    record {
      text = s.text ++ g.0;
      bad = g.1;
      read = set_apart told later (s.text ++ g.0) g.1 (subst (Consumes told later) parts all);
      advances = subst (λ (l : List ℕ). Advances (s.text ++ g.0) tokens l first_place place) (sym g.3) (advance_longer s.text before g.0 tokens first_place place s.advances);
      at_part = ap (follow Whole) (sym parts) ∙ follow-append Whole s.text piece ∙ ap (option_and_then (λ (p : Part). follow p piece)) s.at_part.1 ∙ g.4;
    }

-- tokens were handed on
pub hands_on : (told left : Option (List ℕ)) (window shown behind : List ℕ) (n : ℕ) (tokens others : List Token) (q r : Place) (part : Option Part) → State told left window tokens q part
    → shown ≡ window → Advances shown others (drop n shown) q r → behind ≡ drop n window → State told left behind (tokens ++ others) r part
hands_on told left window shown behind n tokens others q r part s is b dropped = record {
  text = s.text;
  bad = s.bad;
  read = s.read;
  advances = a_round s.text window shown behind n tokens others first_place q r s.advances is b dropped;
  at_part = s.at_part;
}

pub none_follows : (told left : Option (List ℕ)) (window shown : List ℕ) (tokens : List Token) (q : Place) (part : Option Part) → State told left window tokens q part → shown ≡ window
    → ((more : List ℕ) (all : List Token) → ¬ (Completes q (shown ++ more) all)) → IfSome told IsNeverComplete
none_follows told left window shown tokens q part s is none =
    known_malformed told (prepend_known s.bad left) s.text window tokens q s.read s.advances
    (subst (λ (l : List ℕ). (more : List ℕ) (all : List Token) → ¬ (Completes q (l ++ more) all)) is none)

pub goes_beyond : (Limit : Place → List ℕ → Type 0) (told left : Option (List ℕ)) (window shown : List ℕ) (tokens : List Token) (q : Place) (part : Option Part) → Lasts Limit
    → (others : List Token) → State told left window tokens q part → shown ≡ window → MeetsFrom Limit q others shown → IfSome told (MeetsFrom Limit first_place (tokens ++ others))
goes_beyond Limit told left window shown tokens q part lasts others s is m =
    known_limit Limit told (prepend_known s.bad left) s.text window tokens q lasts s.read others s.advances (subst (MeetsFrom Limit q others) is m)

pub is_garbled : (told left : Option (List ℕ)) (window : List ℕ) (tokens : List Token) (q : Place) (part : Option Part) → part ≡ None → State told left window tokens q part
    → IfSome told IsNoText
is_garbled told left window tokens q (Some p) is s = absurd cc
is_garbled told left window tokens q None is s = known_garbled told left (s.text ++ s.bad) (put_back told left s.text s.bad s.read) s.at_part

pub is_cut : (told left : Option (List ℕ)) (window : List ℕ) (tokens : List Token) (q : Place) (part : Part) → State told left window tokens q (Some part) → IsAtEnd left → HasNoToken (section_of q.tail) window
    → is_whole window q part ≡ false → IfSome told IsNeverComplete
is_cut told left window tokens q part s last none cut =
    known_cut told left s.text window tokens q part (nothing_bad told left s.text s.bad s.at_part.0 s.read) last s.advances s.at_part.1 none cut

pub is_read : (told left : Option (List ℕ)) (window : List ℕ) (tokens : List Token) (q : Place) (part : Part) → State told left window tokens q (Some part) → IsAtEnd left
    → is_whole window q part ≡ true → (text : List ℕ) × IsTold told text × IsComplete text tokens
is_read told left window tokens q part s last whole =
    (s.text, known_told told left s.text (nothing_bad told left s.text s.bad s.at_part.0 s.read) last, whole_document s.text window tokens q part s.advances s.at_part.1 whole)

-- a window that is too long
pub too_long : (told left : Option (List ℕ)) (window : List ℕ) (tokens : List Token) (q : Place) (part : Option Part) → State told left window tokens q part → IsLongAt q window
    → IfSome told (MeetsFrom IsLongAt first_place tokens)
too_long told left window tokens q part s long =
    subst (λ (ts : List Token). IfSome told (MeetsFrom IsLongAt first_place ts)) (append-nil tokens)
    (goes_beyond IsLongAt told left window window tokens q part long_lasts [] s refl (record { rest = window; place = q; leads = at_start window q; meets = long }))

-- an end without bytes
pub same_window : (before window piece : List ℕ) (part next : Part) → Grows before window part piece (Some next) → piece ≡ [] → window ≡ before
same_window before window piece part next g e = nothing_read window before piece g.0 e

pub small_part : (before window piece : List ℕ) (part : Part) (next : Option Part) → Grows before window part piece next → IfSome next IsSmall
small_part before window piece part None g = tt
small_part before window piece part (Some q) g = g.2

-- a piece behind the old bytes
pub kept : (old piece window new : List ℕ) (start : ℕ) (part : Part) (next : Option Part) → window ≡ old ++ piece → start ≡ length old
    → Grows (take start window) new part (drop start window) next → Grows old new part piece next
kept old piece window new start part next is from g =
    let t : take start window ≡ old = ap (take start) is ∙ take_at old piece start (sym from) in
    let d : drop start window ≡ piece = ap (drop start) is ∙ drop_at old piece start (sym from) in
    subst (λ (l : List ℕ). Grows old new part l next) d (subst (λ (l : List ℕ). Grows l new part (drop start window) next) t g)

-- a piece that is none of a text, of which so many bytes are kept
pub cut : (items shown new : List ℕ) (start whole : ℕ) (part : Part) → shown ≡ items → follow part (take (length shown - start) (drop start shown)) ≡ None
    → new ≡ take (start + whole) items → Grows (take start items) new part (drop start items) None
cut items shown new start whole part is none kept_so =
    let piece = drop start items in
    let same : take (length shown - start) (drop start shown) ≡ piece = rest_is shown start ∙ ap (drop start) is in (
      take whole piece,
      drop whole piece,
      sym (take-append-drop whole piece),
      kept_so ∙ take-add start whole items,
      ap (follow part) (sym same) ∙ none,
    )

-- ---- a turn

-- the same where the part is known by an equation
pub reads_on_at : (told left later : Option (List ℕ)) (before window : List ℕ) (tokens : List Token) (place : Place) (was : Option Part) (part : Part) (piece : List ℕ) (next : Option Part)
    → State told left before tokens place was → was ≡ Some part → Consumes left later piece → Grows before window part piece next → State told later window tokens place next
reads_on_at told left later before window tokens place was part piece next s is c g =
    reads_on told left later before window tokens place part piece next (subst (λ (o : Option Part). State told left before tokens place o) is s) c g

-- the last turn
pub ends_whole : (told left later : Option (List ℕ)) (before window shown : List ℕ) (tokens : List Token) (place : Place) (was : Option Part) (part : Part) (piece : List ℕ) (next : Option Part) (last : Part)
    → State told left before tokens place was → was ≡ Some part → Consumes left later piece → Grows before window part piece next → next ≡ Some last → IsAtEnd later → shown ≡ window
    → is_whole shown place last ≡ true → (text : List ℕ) × IsTold told text × IsComplete text tokens
ends_whole told left later before window shown tokens place was part piece next last s is c g found end_here same whole =
    let t = reads_on_at told left later before window tokens place was part piece next s is c g in
    is_read told later window tokens place last (subst (λ (o : Option Part). State told later window tokens place o) found t) end_here (ap (λ (l : List ℕ). is_whole l place last) (sym same) ∙ whole)

pub ends_cut : (told left later : Option (List ℕ)) (before window shown : List ℕ) (tokens : List Token) (place : Place) (was : Option Part) (part : Part) (piece : List ℕ) (next : Option Part) (last : Part)
    → State told left before tokens place was → was ≡ Some part → Consumes left later piece → Grows before window part piece next → next ≡ Some last → IsAtEnd later → shown ≡ window
    → piece ≡ [] → HasNoToken (section_of place.tail) before → is_whole shown place last ≡ false → IfSome told IsNeverComplete
ends_cut told left later before window shown tokens place was part piece next last s is c g found end_here same ending_is none not_whole =
    let t = reads_on_at told left later before window tokens place was part piece next s is c g in
    let grows = subst (Grows before window part piece) found g in
    let kept_window = same_window before window piece part last grows ending_is in
    is_cut told later window tokens place last (subst (λ (o : Option Part). State told later window tokens place o) found t) end_here (subst (HasNoToken (section_of place.tail)) (sym kept_window) none)
    (ap (λ (l : List ℕ). is_whole l place last) (sym same) ∙ not_whole)

pub last_state : (told left later : Option (List ℕ)) (before window : List ℕ) (tokens : List Token) (place : Place) (was : Option Part) (part : Part) (piece : List ℕ) (next : Option Part) (last : Part)
    → State told left before tokens place was → was ≡ Some part → Consumes left later piece → Grows before window part piece next → next ≡ Some last → piece ≡ [] → State told later before tokens place (Some last)
last_state told left later before window tokens place was part piece next last s is c g found ending_is =
    let t = reads_on_at told left later before window tokens place was part piece next s is c g in
    let same = same_window before window piece part last (subst (Grows before window part piece) found g) ending_is in
    subst (λ (l : List ℕ). State told later l tokens place (Some last)) same (subst (λ (o : Option Part). State told later window tokens place o) found t)

pub ends_half : (told left later : Option (List ℕ)) (before window : List ℕ) (tokens : List Token) (place : Place) (was : Option Part) (part : Part) (piece : List ℕ) (next : Option Part) (last : Part)
    → State told left before tokens place was → was ≡ Some part → Consumes left later piece → Grows before window part piece next → next ≡ Some last → IsAtEnd later
    → piece ≡ [] → is_start last ≡ false → IfSome told IsNoText
ends_half told left later before window tokens place was part piece next last s is c g found end_here ending_is half =
    let t = last_state told left later before window tokens place was part piece next last s is c g found ending_is in
    known_half told later t.text last (nothing_bad told later t.text t.bad t.at_part.0 t.read) end_here t.at_part.1 half
