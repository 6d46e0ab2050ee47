-- The tokens of a document are those of a tree.
use Rattle.std.proofs.Common.{◌≡◌, ℕ, zero, suc, ◌<◌, Bool, true, false, cond, List, [], ◌∷◌, ◌++◌, length, Option, Some, None, refl, sym, ap, ◌∙◌, append_assoc, length-append, arith}
use Rattle.std.specs.Prelude.{not, option_map, option_and_then}
use Rattle.std.specs.Str.{bytes_eq}
use Rattle.std.specs.List.{AllByRecursion, list_all}
use Rattle.std.proofs.lemmas.Slice.Eq.{bytes_eq-Decides}
use Rattle.feed_xml.specs.declared.nesting.Nesting.{Nesting}
use Rattle.feed_xml.specs.declared.place.Prolog.{Prolog}
use Rattle.feed_xml.specs.declared.place.Prolog.TheVariants.{Front, Open, Closed}
use Rattle.feed_xml.specs.Documents.{IsDocument, IsNoDocument}
use Rattle.feed_xml.specs.Grammar.{Attribute, is_space, is_token, Token, raw, reference, opening, bracket, cdata, comment, instruction, declaration, doctype, start, empty, end}
use Rattle.feed_xml.specs.private.Places.{nested, nests, first_nesting, last_nesting, first_place, last_place, further, ordered, prolog_after, steps, IsComplete, IsNeverComplete}
use Rattle.feed_xml.specs.Tree.{Content, nothing, leaf, element, tokens_of, IsLeaf, HasLeaves}
use Rattle.feed_xml.specs.Trees.{IsMisc, AreTyped, IsProlog, IsRoot, IsTree, AreDocument}
use Rattle.feed_xml.proofs.KindLaws.{by_misc, by_prolog, by_root, by_typed}
use Rattle.feed_xml.proofs.PlaceLaws.{nests-append, prolog-append, parts_of, steps_of}

abbrev inside_of : List (List ℕ) → Nesting
inside_of names = record { names = names; begun = true }

abbrev ends_well : Option Nesting → Type 0
ends_well o = o ≡ Some last_nesting

record Inside (n : List ℕ) (os : List (List ℕ)) (ts : List Token) : Type 0 where
  content : Content
  closing : List ℕ
  rest : List Token
  parts : ts ≡ tokens_of content ++ end n closing ∷ rest
  leaves : HasLeaves content
  goes_on : ends_well (nests (inside_of os) rest)

add_leaf : (n : List ℕ) (os : List (List ℕ)) (t : Token) (ts : List Token) → IsLeaf t → Inside n os ts → Inside n os (t ∷ ts)
add_leaf n os t ts h i = record {
  content = leaf t i.content;
  closing = i.closing;
  rest = i.rest;
  parts = ap (λ (l : List Token). t ∷ l) i.parts;
  leaves = (h, i.leaves);
  goes_on = i.goes_on;
}

nesting_is : (p : Nesting) → ends_well (Some p) → p ≡ last_nesting
nesting_is p h = cc

none_ends : ends_well None → ⊥
none_ends h = cc

inside_ends : (fuel : ℕ) (ts : List Token) (n : List ℕ) (os : List (List ℕ)) → length ts < fuel → ends_well (nests (inside_of (n ∷ os)) ts) → Inside n os ts
inside_ends zero ts n os lt h = absurd (omega (arith, lt))
inside_ends (suc fuel) [] n os lt h =
    let e : n ∷ os ≡ [] = ap (λ (p : Nesting). p.names) (nesting_is (inside_of (n ∷ os)) h) in
    absurd cc
inside_ends (suc fuel) (raw b ∷ ts) n os lt h = add_leaf n os (raw b) ts tt (inside_ends fuel ts n os (omega (arith, lt)) h)
inside_ends (suc fuel) (reference body ∷ ts) n os lt h = add_leaf n os (reference body) ts tt (inside_ends fuel ts n os (omega (arith, lt)) h)
inside_ends (suc fuel) (opening ∷ ts) n os lt h = add_leaf n os opening ts tt (inside_ends fuel ts n os (omega (arith, lt)) h)
inside_ends (suc fuel) (bracket count ∷ ts) n os lt h = add_leaf n os (bracket count) ts tt (inside_ends fuel ts n os (omega (arith, lt)) h)
inside_ends (suc fuel) (cdata count byte ∷ ts) n os lt h = add_leaf n os (cdata count byte) ts tt (inside_ends fuel ts n os (omega (arith, lt)) h)
inside_ends (suc fuel) (comment body ∷ ts) n os lt h = add_leaf n os (comment body) ts tt (inside_ends fuel ts n os (omega (arith, lt)) h)
inside_ends (suc fuel) (instruction body ∷ ts) n os lt h = add_leaf n os (instruction body) ts tt (inside_ends fuel ts n os (omega (arith, lt)) h)
inside_ends (suc fuel) (declaration body ∷ ts) n os lt h = absurd (none_ends h)
inside_ends (suc fuel) (doctype body ∷ ts) n os lt h = absurd (none_ends h)
inside_ends (suc fuel) (empty name attributes space ∷ ts) n os lt h = add_leaf n os (empty name attributes space) ts tt (inside_ends fuel ts n os (omega (arith, lt)) h)
inside_ends (suc fuel) (start name attributes space ∷ ts) n os lt h =
    let i = inside_ends fuel ts name (n ∷ os) (omega (arith, lt)) h in
    let shorter : length i.rest < fuel = omega (arith, lt, ap length i.parts, length-append (tokens_of i.content) (end name i.closing ∷ i.rest)) in
    let j = inside_ends fuel i.rest n os shorter i.goes_on in
    record {
      content = element name attributes space i.content i.closing j.content;
      closing = j.closing;
      rest = j.rest;
      parts =
          ap (λ (l : List Token). start name attributes space ∷ l)
          (i.parts ∙ ap (λ (l : List Token). tokens_of i.content ++ end name i.closing ∷ l) j.parts
          ∙ sym (append_assoc (tokens_of i.content) (end name i.closing ∷ tokens_of j.content) (end n j.closing ∷ j.rest)));
      leaves = (i.leaves, j.leaves);
      goes_on = j.goes_on;
    }
inside_ends (suc fuel) (end name space ∷ ts) n os lt h = go (bytes_eq n name) refl h
  where
    after : Bool → Option Nesting
    after t = option_and_then (λ q. nests q ts) (option_map (λ outer. inside_of outer) (cond t (Some os) None))

    go : (t : Bool) → bytes_eq n name ≡ t → ends_well (option_and_then (λ q. nests q ts) (option_map (λ outer. inside_of outer) (cond t (Some os) None))) → Inside n os (end name space ∷ ts)
    go true e k =
        let same : n ≡ name = (bytes_eq-Decides n name).0 e in
        record {
          content = nothing;
          closing = space;
          rest = ts;
          parts = ap (λ (m : List ℕ). end m space ∷ ts) (sym same);
          leaves = tt;
          goes_on = k;
        }
    go false e k = absurd (none_ends k)

-- behind the root
misc_behind : (ts : List Token) → ends_well (nests last_nesting ts) → AllByRecursion IsMisc ts
misc_behind [] h = tt
misc_behind (raw b ∷ ts) h = go (is_space b) refl h (misc_behind ts)
  where
    go : (t : Bool) → is_space b ≡ t → ends_well (option_and_then (λ q. nests q ts) (cond (not t) None (Some last_nesting))) → (ends_well (nests last_nesting ts) → AllByRecursion IsMisc ts) → AllByRecursion IsMisc (raw b ∷ ts)
    go true e k rest = (e, rest k)
    go false e k rest = absurd (none_ends k)
misc_behind (reference body ∷ ts) h = absurd (none_ends h)
misc_behind (opening ∷ ts) h = absurd (none_ends h)
misc_behind (bracket count ∷ ts) h = absurd (none_ends h)
misc_behind (cdata count byte ∷ ts) h = absurd (none_ends h)
misc_behind (comment body ∷ ts) h = (tt, misc_behind ts h)
misc_behind (instruction body ∷ ts) h = (tt, misc_behind ts h)
misc_behind (declaration body ∷ ts) h = absurd (none_ends h)
misc_behind (doctype body ∷ ts) h = absurd (none_ends h)
misc_behind (empty name attributes space ∷ ts) h = absurd (none_ends h)
misc_behind (start name attributes space ∷ ts) h = absurd (none_ends h)
misc_behind (end name space ∷ ts) h = absurd (none_ends h)

-- a tree behind tokens of which this holds
record Trunk (P : List Token → Type 0) (tokens : List Token) : Type 0 where
  name : List ℕ
  inside : Content
  before : List Token
  root : List Token
  behind : List Token
  parts : tokens ≡ before ++ (root ++ behind)
  is_root : IsRoot root name inside
  leaves : HasLeaves inside
  prolog : P before
  misc : AllByRecursion IsMisc behind

grow : (P Q : List Token → Type 0) (t : Token) (ts : List Token) → ((l : List Token) → P l → Q (t ∷ l)) → Trunk P ts → Trunk Q (t ∷ ts)
grow P Q t ts more s = record {
  name = s.name;
  inside = s.inside;
  before = t ∷ s.before;
  root = s.root;
  behind = s.behind;
  parts = ap (λ (l : List Token). t ∷ l) s.parts;
  is_root = s.is_root;
  leaves = s.leaves;
  prolog = more s.before s.prolog;
  misc = s.misc;
}

empty_root : (P : List Token → Type 0) (name : List ℕ) (attributes : List Attribute) (space : List ℕ) (ts : List Token) → P [] → ends_well (nests last_nesting ts) → Trunk P (empty name attributes space ∷ ts)
empty_root P name attributes space ts none h = record {
  name = name;
  inside = nothing;
  before = [];
  root = empty name attributes space ∷ [];
  behind = ts;
  parts = refl;
  is_root = (refl, refl, refl);
  leaves = tt;
  prolog = none;
  misc = misc_behind ts h;
}

start_root : (P : List Token → Type 0) (name : List ℕ) (attributes : List Attribute) (space : List ℕ) (ts : List Token) → P [] → ends_well (nests (inside_of (name ∷ [])) ts) → Trunk P (start name attributes space ∷ ts)
start_root P name attributes space ts none h =
    let i = inside_ends (suc (length ts)) ts name [] (omega arith) h in
    record {
      name = name;
      inside = i.content;
      before = [];
      root = start name attributes space ∷ (tokens_of i.content ++ end name i.closing ∷ []);
      behind = i.rest;
      parts = ap (λ (l : List Token). start name attributes space ∷ l) (i.parts ∙ sym (append_assoc (tokens_of i.content) (end name i.closing ∷ []) i.rest));
      is_root = (refl, (i.closing, refl));
      leaves = i.leaves;
      prolog = none;
      misc = misc_behind i.rest i.goes_on;
    }

-- outside of the root a byte of a text is white space
space_first : (A : Type 0) (b : ℕ) (ts : List Token) → nests first_nesting (raw b ∷ ts) ≡ Some last_nesting
    → (is_space b ≡ true → ends_well (nests first_nesting ts) → A) → A
space_first A b ts h then = go (is_space b) refl h
  where
    go : (t : Bool) → is_space b ≡ t → ends_well (option_and_then (λ q. nests q ts) (cond (not t) None (Some first_nesting))) → A
    go true e k = then e k
    go false e k = absurd (none_ends k)

abbrev closes_with : Option Prolog → Type 0
closes_with o = o ≡ Some Closed

none_closes : closes_with None → ⊥
none_closes h = cc

not_begun : (A : Type 0) → ends_well (nests first_nesting []) → A
not_begun A h =
    let e : false ≡ true = ap (λ (p : Nesting). p.begun) (nesting_is first_nesting h) in
    absurd cc

past_type : (ts : List Token) → ends_well (nests first_nesting ts) → closes_with (prolog_after Closed ts) → Trunk (AllByRecursion IsMisc) ts
past_type [] h o = not_begun _ h
past_type (raw b ∷ ts) h o = space_first _ b ts h (λ e k. grow _ _ (raw b) ts (λ l m. (e, m)) (past_type ts k o))
past_type (reference body ∷ ts) h o = absurd (none_ends h)
past_type (opening ∷ ts) h o = absurd (none_ends h)
past_type (bracket count ∷ ts) h o = absurd (none_ends h)
past_type (cdata count byte ∷ ts) h o = absurd (none_ends h)
past_type (comment body ∷ ts) h o = grow _ _ (comment body) ts (λ l m. (tt, m)) (past_type ts h o)
past_type (instruction body ∷ ts) h o = grow _ _ (instruction body) ts (λ l m. (tt, m)) (past_type ts h o)
past_type (declaration body ∷ ts) h o = absurd (none_closes o)
past_type (doctype body ∷ ts) h o = absurd (none_closes o)
past_type (empty name attributes space ∷ ts) h o = empty_root _ name attributes space ts tt h
past_type (start name attributes space ∷ ts) h o = start_root _ name attributes space ts tt h
past_type (end name space ∷ ts) h o = absurd (none_ends h)

past_front : (ts : List Token) → ends_well (nests first_nesting ts) → closes_with (prolog_after Open ts) → Trunk AreTyped ts
past_front [] h o = not_begun _ h
past_front (raw b ∷ ts) h o = space_first _ b ts h (λ e k. grow _ _ (raw b) ts (λ l m. (e, m)) (past_front ts k o))
past_front (reference body ∷ ts) h o = absurd (none_ends h)
past_front (opening ∷ ts) h o = absurd (none_ends h)
past_front (bracket count ∷ ts) h o = absurd (none_ends h)
past_front (cdata count byte ∷ ts) h o = absurd (none_ends h)
past_front (comment body ∷ ts) h o = grow _ _ (comment body) ts (λ l m. (tt, m)) (past_front ts h o)
past_front (instruction body ∷ ts) h o = grow _ _ (instruction body) ts (λ l m. (tt, m)) (past_front ts h o)
past_front (declaration body ∷ ts) h o = absurd (none_closes o)
past_front (doctype body ∷ ts) h o = grow (AllByRecursion IsMisc) _ (doctype body) ts (λ l m. m) (past_type ts h o)
past_front (empty name attributes space ∷ ts) h o = empty_root _ name attributes space ts tt h
past_front (start name attributes space ∷ ts) h o = start_root _ name attributes space ts tt h
past_front (end name space ∷ ts) h o = absurd (none_ends h)

from_front : (ts : List Token) → ends_well (nests first_nesting ts) → closes_with (prolog_after Front ts) → Trunk IsProlog ts
from_front [] h o = not_begun _ h
from_front (raw b ∷ ts) h o = space_first _ b ts h (λ e k. grow AreTyped _ (raw b) ts (λ l m. (e, m)) (past_front ts k o))
from_front (reference body ∷ ts) h o = absurd (none_ends h)
from_front (opening ∷ ts) h o = absurd (none_ends h)
from_front (bracket count ∷ ts) h o = absurd (none_ends h)
from_front (cdata count byte ∷ ts) h o = absurd (none_ends h)
from_front (comment body ∷ ts) h o = grow AreTyped _ (comment body) ts (λ l m. (tt, m)) (past_front ts h o)
from_front (instruction body ∷ ts) h o = grow AreTyped _ (instruction body) ts (λ l m. (tt, m)) (past_front ts h o)
from_front (declaration body ∷ ts) h o = grow AreTyped _ (declaration body) ts (λ l m. m) (past_front ts h o)
from_front (doctype body ∷ ts) h o = grow (AllByRecursion IsMisc) _ (doctype body) ts (λ l m. m) (past_type ts h o)
from_front (empty name attributes space ∷ ts) h o = empty_root _ name attributes space ts tt h
from_front (start name attributes space ∷ ts) h o = start_root _ name attributes space ts tt h
from_front (end name space ∷ ts) h o = absurd (none_ends h)

-- ---- and back

-- where these tokens lead, those behind them go on
then_go : (p q : Nesting) (xs ys : List Token) → nests p xs ≡ Some q → nests p (xs ++ ys) ≡ nests q ys
then_go p q xs ys h = nests-append p xs ys ∙ rw h refl

-- what is a leaf leaves the elements around it open, behind the root's tag
leaf_stays : (t : Token) → IsLeaf t → ((n : List ℕ) (os : List (List ℕ)) → nested (inside_of (n ∷ os)) t ≡ Some (inside_of (n ∷ os))) × (ordered Closed t ≡ Some Closed)
leaf_stays (raw b) h = (λ n os. refl, refl)
leaf_stays (reference body) h = (λ n os. refl, refl)
leaf_stays opening h = (λ n os. refl, refl)
leaf_stays (bracket count) h = (λ n os. refl, refl)
leaf_stays (cdata count byte) h = (λ n os. refl, refl)
leaf_stays (comment body) h = (λ n os. refl, refl)
leaf_stays (instruction body) h = (λ n os. refl, refl)
leaf_stays (declaration body) h = absurd h
leaf_stays (doctype body) h = absurd h
leaf_stays (start name attributes space) h = absurd h
leaf_stays (empty name attributes space) h = (λ n os. refl, refl)
leaf_stays (end name space) h = absurd h

closes : (name closing : List ℕ) (os : List (List ℕ)) → nested (inside_of (name ∷ os)) (end name closing) ≡ Some (inside_of os)
closes name closing os =
    let same : bytes_eq name name ≡ true = (bytes_eq-Decides name name).1 refl in
    rw same refl

-- what stands in an element leaves it open
content_stays : (c : Content) (n : List ℕ) (os : List (List ℕ)) → HasLeaves c → nests (inside_of (n ∷ os)) (tokens_of c) ≡ Some (inside_of (n ∷ os))
content_stays nothing n os h = refl
content_stays (leaf t rest) n os h = rw ((leaf_stays t h.0).0 n os) (content_stays rest n os h.1)
content_stays (element name attributes space inside closing rest) n os h =
    then_go (inside_of (name ∷ n ∷ os)) (inside_of (name ∷ n ∷ os)) (tokens_of inside) (end name closing ∷ tokens_of rest) (content_stays inside name (n ∷ os) h.0)
    ∙ rw (closes name closing (n ∷ os)) (content_stays rest n os h.1)

-- what stands around the root changes nothing
record Passed (t : Token) : Type 0 where
  before : nested first_nesting t ≡ Some first_nesting
  behind : nested last_nesting t ≡ Some last_nesting
  order : (p : Prolog) → ordered p t ≡ Some (further p)

passed : (t : Token) → IsMisc t → Passed t
passed =
    by_misc Passed (λ b h. record { before = rw h refl; behind = rw h refl; order = λ p. refl })
    (λ body. record { before = refl; behind = refl; order = λ p. refl })
    (λ body. record { before = refl; behind = refl; order = λ p. refl })

record Stays (p : Prolog) (ts : List Token) : Type 0 where
  nesting : nests first_nesting ts ≡ Some first_nesting
  last : Prolog
  order : prolog_after p ts ≡ Some last

one_more : (p : Prolog) (t : Token) (ts : List Token) → IsMisc t → Stays (further p) ts → Stays p (t ∷ ts)
one_more p t ts h s = record {
  nesting = ap (option_and_then (λ q. nests q ts)) (passed t h).before ∙ s.nesting;
  last = s.last;
  order = ap (option_and_then (λ q. prolog_after q ts)) ((passed t h).order p) ∙ s.order;
}

misc_first : (ts : List Token) → AllByRecursion IsMisc ts → Stays Closed ts
misc_first [] h = record { nesting = refl; last = Closed; order = refl }
misc_first (t ∷ ts) h = one_more Closed t ts h.0 (misc_first ts h.1)

typed_first : (ts : List Token) → AreTyped ts → Stays Front ts × Stays Open ts
typed_first =
    by_typed (λ ts. Stays Front ts × Stays Open ts) (record { nesting = refl; last = Front; order = refl }, record { nesting = refl; last = Open; order = refl })
    (λ body ts h.
    let s = misc_first ts h in
    (record { nesting = s.nesting; last = s.last; order = s.order }, record { nesting = s.nesting; last = s.last; order = s.order }))
    (λ t ts h s. (one_more Front t ts h s.1, one_more Open t ts h s.1))

prolog_first : (ts : List Token) → IsProlog ts → Stays Front ts
prolog_first =
    by_prolog (Stays Front)
    (λ body ts h. let s = (typed_first ts h).1 in record { nesting = s.nesting; last = s.last; order = s.order })
    (λ ts h. (typed_first ts h).0)

misc_stays : (ts : List Token) → AllByRecursion IsMisc ts → nests last_nesting ts ≡ Some last_nesting
misc_stays [] h = refl
misc_stays (t ∷ ts) h = ap (option_and_then (λ q. nests q ts)) (passed t h.0).behind ∙ misc_stays ts h.1

root_ends : (root : List Token) (name : List ℕ) (inside : Content) → HasLeaves inside → IsRoot root name inside → nests first_nesting root ≡ Some last_nesting
root_ends root name inside l =
    by_root name inside (λ root. nests first_nesting root ≡ Some last_nesting)
    (λ n attributes space tokens h.
    ap (nests (inside_of (n ∷ []))) h.1.1 ∙ ap (λ (m : List ℕ). nests (inside_of (m ∷ [])) (tokens_of inside ++ end name h.1.0 ∷ [])) h.0
    ∙ then_go (inside_of (name ∷ [])) (inside_of (name ∷ [])) (tokens_of inside) (end name h.1.0 ∷ []) (content_stays inside name [] l)
    ∙ rw (closes name h.1.0 []) refl)
    (λ n attributes space tokens h. ap (nests last_nesting) h.2) root

-- behind the root's tag
past_go : (p q : Prolog) (xs ys : List Token) → prolog_after p xs ≡ Some q → prolog_after p (xs ++ ys) ≡ prolog_after q ys
past_go p q xs ys h = prolog-append p xs ys ∙ rw h refl

content_past : (c : Content) → HasLeaves c → prolog_after Closed (tokens_of c) ≡ Some Closed
content_past nothing h = refl
content_past (leaf t rest) h = rw (leaf_stays t h.0).1 (content_past rest h.1)
content_past (element name attributes space inside closing rest) h =
    past_go Closed Closed (tokens_of inside) (end name closing ∷ tokens_of rest) (content_past inside h.0)
    ∙ content_past rest h.1

misc_past : (ts : List Token) → AllByRecursion IsMisc ts → prolog_after Closed ts ≡ Some Closed
misc_past [] h = refl
misc_past (t ∷ ts) h = ap (option_and_then (λ q. prolog_after q ts)) ((passed t h.0).order Closed) ∙ misc_past ts h.1

root_past : (p : Prolog) (root : List Token) (name : List ℕ) (inside : Content) → HasLeaves inside → IsRoot root name inside → prolog_after p root ≡ Some Closed
root_past p root name inside l =
    by_root name inside (λ root. prolog_after p root ≡ Some Closed)
    (λ n attributes space tokens h. ap (prolog_after Closed) h.1.1 ∙ past_go Closed Closed (tokens_of inside) (end name h.1.0 ∷ []) (content_past inside l))
    (λ n attributes space tokens h. ap (prolog_after Closed) h.2) root

tree_nests : (tokens : List Token) (name : List ℕ) (inside : Content) → IsTree tokens name inside → nests first_nesting tokens ≡ Some last_nesting
tree_nests tokens name inside t =
    ap (nests first_nesting) t.parts ∙ then_go first_nesting first_nesting t.before (t.root ++ t.behind) (prolog_first t.before t.prolog).nesting
    ∙ then_go first_nesting last_nesting t.root t.behind (root_ends t.root name inside t.leaves t.is_root) ∙ misc_stays t.behind t.misc

tree_order : (tokens : List Token) (name : List ℕ) (inside : Content) → IsTree tokens name inside → prolog_after Front tokens ≡ Some Closed
tree_order tokens name inside t =
    let s = prolog_first t.before t.prolog in
    ap (prolog_after Front) t.parts ∙ past_go Front s.last t.before (t.root ++ t.behind) s.order
    ∙ past_go s.last Closed t.root t.behind (root_past s.last t.root name inside t.leaves t.is_root) ∙ misc_past t.behind t.misc

-- ---- documents

-- the tokens of a document lead to its end
pub leads_through : (tokens : List Token) → AreDocument tokens → steps first_place tokens ≡ Some last_place
leads_through tokens d =
    steps_of first_place tokens last_place (record {
      distinct = d.distinct;
      nesting = tree_nests tokens d.name d.inside d.tree;
      tail = d.apart;
      order = tree_order tokens d.name d.inside d.tree;
    })

-- tokens that lead to the end of one are those of a document
pub are_document : (tokens : List Token) → list_all is_token tokens ≡ true → steps first_place tokens ≡ Some last_place → AreDocument tokens
are_document tokens each ends =
    let parts = parts_of first_place tokens last_place ends in
    let s = from_front tokens parts.nesting parts.order in
    record {
      each = each;
      distinct = parts.distinct;
      apart = parts.tail;
      name = s.name;
      inside = s.inside;
      tree = record {
        before = s.before;
        root = s.root;
        behind = s.behind;
        parts = s.parts;
        is_root = s.is_root;
        leaves = s.leaves;
        prolog = s.prolog;
        misc = s.misc;
      };
    }

pub complete_of : (bytes : List ℕ) (tokens : List Token) → IsDocument bytes tokens → IsComplete bytes tokens
complete_of bytes tokens d = record { text = d.text; spelled = d.spelled; each = d.are.each; ends = leads_through tokens d.are }

pub document_of : (bytes : List ℕ) (tokens : List Token) → IsComplete bytes tokens → IsDocument bytes tokens
document_of bytes tokens c = record { text = c.text; spelled = c.spelled; are = are_document tokens c.each c.ends }

pub never_document : (bytes : List ℕ) → IsNeverComplete bytes → IsNoDocument bytes
never_document bytes none tokens d = none tokens (complete_of bytes tokens d)
