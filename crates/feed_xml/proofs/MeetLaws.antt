-- What is met at a place is met behind the tokens that lead there.
use Rattle.std.proofs.Common.{◌≡◌, ◌∙◌, ℕ, suc, ◌-◌, ◌≤◌, Bool, true, false, cond, List, [], ◌∷◌, length, Option, Some, None, refl, sym, ap, subst, fold, arith}
use Rattle.std.specs.Prelude.{not, ◌&&◌, option_map, option_and_then}
use Rattle.std.specs.Str.{bytes_eq}
use Rattle.feed_xml.specs.declared.nesting.Nesting.{Nesting}
use Rattle.feed_xml.specs.declared.place.Place.{Place}
use Rattle.feed_xml.specs.EncodingNames.{OfText}
use Rattle.feed_xml.specs.Grammar.{is_space, Token, raw, reference, opening, bracket, cdata, comment, instruction, declaration, doctype, start, empty, end}
use Rattle.feed_xml.specs.Limits.{Bound, Meets, BeginsWith, open_behind, IsDeep, IsLarge, IsLong}
use Rattle.feed_xml.specs.Pieces.{HasNoToken}
use Rattle.feed_xml.specs.private.Bounds.{PlaceBound, MeetsFrom, BeginsAt, IsDeepAt, IsLargeAt, IsLongAt}
use Rattle.feed_xml.specs.private.Places.{closed, is_closed, is_nothing, nested, nests, first_nesting, first_place, steps}
use Rattle.feed_xml.proofs.PlaceLaws.{parts_of, placed_in, same_section}

-- ---- how many elements are open

-- the same number as before
unless : (b : Bool) (p n : Nesting) → cond b None (Some p) ≡ Some n → length p.names ≡ length n.names
unless true p n e = absurd cc
unless false p n e = ap (λ (o : Option Nesting). length (names_in o)) e
  where
    names_in : Option Nesting → List (List ℕ)
    names_in (Some x) = x.names
    names_in None = []

ended : (name space : List ℕ) (p n : Nesting) (l : List (List ℕ)) → option_map (λ outer. record { names = outer; begun = p.begun }) (closed name l) ≡ Some n → open_behind (length l) (end name space) ≡ length n.names
ended name space p n [] e = absurd cc
ended name space p n (inner ∷ outer) e = go (bytes_eq inner name) e
  where
    go : (b : Bool) → option_map (λ outer. record { names = outer; begun = p.begun }) (cond b (Some outer) None) ≡ Some n → suc (length outer) - 1 ≡ length n.names
    go false e = absurd cc
    go true e = omega (arith, unless false (record { names = outer; begun = p.begun }) n e)

open_one : (p n : Nesting) (t : Token) → nested p t ≡ Some n → open_behind (length p.names) t ≡ length n.names
open_one p n (raw b) e = unless (is_nothing p.names && not (is_space b)) p n e
open_one p n (reference body) e = unless (is_nothing p.names) p n e
open_one p n opening e = unless (is_nothing p.names) p n e
open_one p n (bracket i) e = unless (is_nothing p.names) p n e
open_one p n (cdata i b) e = unless (is_nothing p.names) p n e
open_one p n (comment body) e = unless false p n e
open_one p n (instruction body) e = unless false p n e
open_one p n (declaration body) e = unless p.begun p n e
open_one p n (doctype body) e = unless p.begun p n e
open_one p n (start name attributes space) e = unless (is_closed p) (record { names = name ∷ p.names; begun = true }) n e
open_one p n (empty name attributes space) e = unless (is_closed p) (record { names = p.names; begun = true }) n e
open_one p n (end name space) e = ended name space p n p.names e

open_all : (tokens : List Token) (p n : Nesting) → nests p tokens ≡ Some n → fold open_behind (length p.names) tokens ≡ length n.names
open_all [] p n e = unless false p n e
open_all (t ∷ tokens) p n e = go (λ q f. open_all tokens q n f) (nested p t) refl e
  where
    go : ((q : Nesting) → nests q tokens ≡ Some n → fold open_behind (length q.names) tokens ≡ length n.names) → (o : Option Nesting) → nested p t ≡ o → option_and_then (λ q. nests q tokens) o ≡ Some n → fold open_behind (length p.names) (t ∷ tokens) ≡ length n.names
    go then None is f = absurd cc
    go then (Some q) is f = ap (λ (k : ℕ). fold open_behind k tokens) (open_one p q t is) ∙ then q f

-- ---- what is met

-- what is met at each place that tokens lead to
abbrev Tells : PlaceBound → Bound → Type 0
Tells At Limit = (tokens : List Token) (p : Place) (rest : List ℕ) → steps first_place tokens ≡ Some p → At p rest → Limit tokens rest

meets_of : (At : PlaceBound) (Limit : Bound) → Tells At Limit → (tokens : List Token) (bytes : List ℕ) → MeetsFrom At first_place tokens bytes → Meets Limit tokens bytes
meets_of At Limit tells tokens bytes m =
    (m.rest, m.leads.spelled, m.leads.each, placed_in first_place tokens m.place m.leads.leads, tells tokens m.place m.rest m.leads.leads m.meets)

deep : Tells IsDeepAt IsDeep
deep tokens p rest leads h =
    let open_are = open_all tokens first_nesting p.nesting (parts_of first_place tokens p leads).nesting in
    (h.0, h.1, h.2, subst (λ (n : ℕ). 1000 ≤ n) (sym open_are) h.3)

large : Tells IsLargeAt IsLarge
large tokens p rest leads h = h

long : Tells IsLongAt IsLong
long tokens p rest leads h = (h.0, h.1, h.2, h.3, subst (λ (o : Option ℕ). HasNoToken o h.0) (same_section tokens p leads) h.4)

begins : Tells (λ p rest. Unit {0}) (λ tokens rest. Unit {0})
begins tokens p rest leads h = tt

-- the same of the text that a reader has left
pub of_all : (P Q : List ℕ → Type 0) (bytes : Option (List ℕ)) → ((text : List ℕ) → P text → Q text) → OfText P bytes → OfText Q bytes
of_all P Q None f h = tt
of_all P Q (Some x) f h = (h.0, h.1, f h.0 h.2)

pub deep_text : (tokens : List Token) (bytes : Option (List ℕ)) → OfText (MeetsFrom IsDeepAt first_place tokens) bytes → OfText (Meets IsDeep tokens) bytes
deep_text tokens bytes h = of_all _ _ bytes (meets_of IsDeepAt IsDeep deep tokens) h

pub large_text : (tokens : List Token) (bytes : Option (List ℕ)) → OfText (MeetsFrom IsLargeAt first_place tokens) bytes → OfText (Meets IsLarge tokens) bytes
large_text tokens bytes h = of_all _ _ bytes (meets_of IsLargeAt IsLarge large tokens) h

pub long_text : (tokens : List Token) (bytes : Option (List ℕ)) → OfText (MeetsFrom IsLongAt first_place tokens) bytes → OfText (Meets IsLong tokens) bytes
long_text tokens bytes h = of_all _ _ bytes (meets_of IsLongAt IsLong long tokens) h

pub begins_text : (tokens : List Token) (bytes : Option (List ℕ)) → OfText (BeginsAt first_place tokens) bytes → OfText (BeginsWith tokens) bytes
begins_text tokens bytes h = of_all _ _ bytes (meets_of (λ p rest. Unit {0}) (λ tokens rest. Unit {0}) begins tokens) h
