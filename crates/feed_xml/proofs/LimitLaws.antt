-- Where what was read goes beyond what is taken, so does the input.
use Rattle.std.proofs.Common.{◌≡◌, ◌<◌, ℕ, List, [], ◌∷◌, ◌++◌, length, Option, Some, None, true, sym, ap, subst, ◌∙◌, append_assoc, append-nil}
use Rattle.std.specs.Prelude.{IfSome}
use Rattle.std.specs.List.{flat_map, list_all}
use Rattle.std.proofs.lemmas.Bool.{and_parts}
use Rattle.std.specs.Io.KnownBytes.{Consumes}
use Rattle.std.proofs.lemmas.List.Concat.{flat_map-cons}
use Rattle.feed_xml.specs.declared.place.Place.{Place}
use Rattle.feed_xml.specs.private.Windows.{Advances}
use Rattle.feed_xml.specs.Grammar.{Token, spelling, is_token}
use Rattle.feed_xml.specs.private.Bounds.{MeetsFrom, IsDeepAt, IsLargeAt, IsLongAt}
use Rattle.feed_xml.specs.Limits.{Follows}
use Rattle.feed_xml.specs.Pieces.{Begins, HasNoToken}
use Rattle.feed_xml.specs.private.Places.{first_place, section_of}
use Rattle.feed_xml.proofs.DocumentLaws.{advance_further, advance_longer}

-- what holds of the rest holds of it with more behind it
abbrev pub Lasts : (Place → List ℕ → Type 0) → Type 0
Lasts Limit = (p : Place) (rest more : List ℕ) → Limit p rest → Limit p (rest ++ more)

follows_lasts : (tag : Token) (rest more : List ℕ) → Follows tag rest → Follows tag (rest ++ more)
follows_lasts tag rest more h =
    (h.0 ++ more, ap (λ (l : List ℕ). l ++ more) h.1 ∙ append_assoc (spelling tag) h.0 more, h.2)

pub deep_lasts : Lasts IsDeepAt
deep_lasts p rest more h = (h.0, h.1, follows_lasts h.0 rest more h.2, h.3)

pub large_lasts : Lasts IsLargeAt
large_lasts p rest more h = (h.0, follows_lasts h.0 rest more h.1, h.2)

pub begins_lasts : Lasts (λ place rest. Unit {0})
begins_lasts p rest more h = tt

pub long_lasts : Lasts IsLongAt
long_lasts p rest more h = (h.0, h.1 ++ more, ap (λ (l : List ℕ). l ++ more) h.2 ∙ append_assoc h.0 h.1 more, h.3, h.4)

pub known_limit : (Limit : Place → List ℕ → Type 0) (a b : Option (List ℕ)) (text window : List ℕ) (tokens : List Token) (q : Place) → Lasts Limit → Consumes a b text
    → (others : List Token) → Advances text tokens window first_place q → MeetsFrom Limit q others window → IfSome a (MeetsFrom Limit first_place (tokens ++ others))
known_limit Limit None b text window tokens q lasts c others adv m = tt
known_limit Limit (Some x) None text window tokens q lasts c others adv m = absurd c
known_limit Limit (Some x) (Some y) text window tokens q lasts c others adv m =
    let whole : MeetsFrom Limit first_place (tokens ++ others) (text ++ y) = record {
      rest = m.rest ++ y;
      place = m.place;
      leads = advance_longer text m.rest y (tokens ++ others) first_place m.place (advance_further text window m.rest tokens others first_place q m.place adv m.leads);
      meets = lasts m.place m.rest y m.meets;
    } in
    subst (MeetsFrom Limit first_place (tokens ++ others)) (sym c) whole

-- a piece that is a token
pub piece_follows : (section : Option ℕ) (rest next : List ℕ) (tokens : List Token) (tag : Token)
    → Begins section rest tokens next → tokens ≡ tag ∷ [] → Follows tag rest
piece_follows section rest next tokens tag b is =
    let spelled : flat_map spelling tokens ≡ spelling tag =
    ap (flat_map spelling) is ∙ flat_map-cons spelling tag [] ∙ append-nil (spelling tag) in
    let each : list_all is_token (tag ∷ []) ≡ true = ap (list_all is_token) (sym is) ∙ b.each in
    (next, b.spelled ∙ ap (λ (l : List ℕ). l ++ next) spelled, (and_parts _ _ each).0)

-- a window without a token
pub long_window : (q : Place) (window : List ℕ) → 4194304 < length window → HasNoToken (section_of q.tail) window → IsLongAt q window
long_window q window long none = (window, [], sym (append-nil window), long, none)
