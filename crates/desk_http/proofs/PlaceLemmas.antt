-- The router's key of a path is that of the place whose path it is.
use Rattle.std.proofs.Common.{◌≡◌, ◌≢◌, ℕ, suc, List, [], ◌∷◌, ◌++◌, length, drop, take, Option, Some, None, Bool, true, false, cond, refl, sym, ap, ◌∙◌, arith, nat_eq, ◌==◌, ltb, ◌&&◌, codes, All, ◌⊎◌, inl, inr, take-append-drop}
use Rattle.std.specs.List.{starts_with}
use Rattle.std.specs.Cmp.Lexicographic.{bytes_decides}
use Rattle.std.proofs.lemmas.Bool.{lt-ltb, ltb-true, eqb-false, ne_eqb, and_parts}
use Rattle.std.proofs.lemmas.List.Elements.{All-head, All-tail, All-nil, All-cons}
use Rattle.matchit.specs.Rows.{Rows, prepend}
use Rattle.matchit.specs.Seek.{slash, same_text, or_else}
use Rattle.std.specs.Prelude.{option_map}
use Rattle.desk_http.specs.declared.routes.Route.{Route}
use Rattle.desk_http.specs.Keys.{route_at, part_at, route_of_key, key_of, before_slash, from_slash, behind_part, article_tails, series_tails, message_rows, key_at}
use Rattle.desk_http.specs.Paths.{IsSegment}
use Rattle.desk_http.proofs.Places.{Place, messages, price, choice, calendar, gaps, catalogue, path_text, HasSegment, key_of_place, PlaceAt, IsPathOf, route_of, part_of}
use Rattle.desk_http.proofs.WalkLemmas.{both_sides}

sides : (part rest : List ℕ) → All (λ b. b ≢ 47) part
    → (before_slash (part ++ slash ∷ rest) ≡ part) × (from_slash (part ++ slash ∷ rest) ≡ slash ∷ rest)
sides [] rest all = (refl, refl)
sides (b ∷ part) rest all =
    let n : (b == slash) ≡ false = ne_eqb b slash (All-head (λ x. x ≢ 47) b part all) in
    let r = sides part rest (All-tail (λ x. x ≢ 47) b part all) in
    (rw n (ap (λ l. b ∷ l) r.0), rw n r.1)

at_part : (tails : Rows) (part rest : List ℕ) → IsSegment part
    → behind_part tails (part ++ slash ∷ rest) ≡ key_of (slash ∷ rest) (prepend (slash ∷ []) tails)
at_part tails part rest is =
    let s = sides part rest is.no_slash in
    rw (s.0, s.1, lt-ltb 0 (length part) is.some, lt-ltb 0 (suc (length rest)) (omega arith)) refl

abbrev second_keys : List ℕ → Option ℕ
second_keys path = or_else (key_of path message_rows)
    (cond (starts_with nat_eq path (codes "/series/")) (behind_part series_tails (drop 8 path)) None)

pub key_of_path : (place : Place) → HasSegment place → key_at (path_text place) ≡ Some (key_of_place place)
key_of_path messages h = refl
key_of_path (price isbn) h = ap (λ k. or_else k (second_keys (path_text (price isbn)))) (at_part article_tails isbn (codes "price") h)
key_of_path (choice isbn) h = ap (λ k. or_else k (second_keys (path_text (choice isbn)))) (at_part article_tails isbn (codes "choice") h)
key_of_path (calendar isbn) h = ap (λ k. or_else k (second_keys (path_text (calendar isbn)))) (at_part article_tails isbn (codes "calendar") h)
key_of_path (gaps name) h = at_part series_tails name (codes "gaps") h
key_of_path (catalogue name) h = at_part series_tails name (codes "catalogue") h

-- ---- the other direction

or_else_some : (a b : Option ℕ) (k : ℕ) → or_else a b ≡ Some k → (a ≡ Some k) ⊎ (b ≡ Some k)
or_else_some None b k e = inr e
or_else_some (Some x) b k e = inl e

cond_some : (v : Bool) (a : Option ℕ) (k : ℕ) → cond v a None ≡ Some k → (v ≡ true) × (a ≡ Some k)
cond_some true a k e = (refl, e)
cond_some false a k e = absurd (cc)

before_has_none : (p : List ℕ) → All (λ b. b ≢ 47) (before_slash p)
before_has_none [] = All-nil (λ b. b ≢ 47)
before_has_none (b ∷ p) = by (b == slash) refl (before_has_none p)
  where
    by : (v : Bool) → (b == slash) ≡ v → All (λ x. x ≢ 47) (before_slash p) → All (λ x. x ≢ 47) (cond (b == slash) [] (b ∷ before_slash p))
    by true e rest = rw e (All-nil (λ x. x ≢ 47))
    by false e rest = rw e (All-cons (λ x. x ≢ 47) b (before_slash p) (eqb-false b slash e) rest)

front_is : (w path : List ℕ) → starts_with nat_eq path w ≡ true → path ≡ w ++ drop (length w) path
front_is w path e =
    let same : w ≡ take (length w) path = (bytes_decides w (take (length w) path)).0 e in
    sym (take-append-drop (length w) path) ∙ ap (λ l. l ++ drop (length w) path) (sym same)

-- the parts of a path with one segment
part_of_key : (tails : Rows) (p : List ℕ) (k : ℕ) → behind_part tails p ≡ Some k
    → IsSegment (before_slash p) × (key_of (from_slash p) (prepend (slash ∷ []) tails) ≡ Some k)
part_of_key tails p k e =
    let c = cond_some (ltb 0 (length (before_slash p)) && ltb 0 (length (from_slash p))) (key_of (from_slash p) (prepend (slash ∷ []) tails)) k e in
    let b = and_parts (ltb 0 (length (before_slash p))) (ltb 0 (length (from_slash p))) c.0 in
    (record { some = ltb-true 0 (length (before_slash p)) b.0; no_slash = before_has_none p }, c.1)

row_of_key : (t : List ℕ) (key k : ℕ) (rows : Rows) (x : List ℕ) → cond (same_text t x) (Some key) (key_of x rows) ≡ Some k
    → ((t ≡ x) × (key ≡ k)) ⊎ (key_of x rows ≡ Some k)
row_of_key t key k rows x e = by (same_text t x) refl
  where
    by : (v : Bool) → same_text t x ≡ v → ((t ≡ x) × (key ≡ k)) ⊎ (key_of x rows ≡ Some k)
    by true f = inl ((bytes_decides t x).0 f, (let g : Some key ≡ Some k = rw f at e in cc))
    by false f = inr (rw f at e)

tail_at : (w p t : List ℕ) (path : List ℕ) → path ≡ w ++ p → t ≡ from_slash p → path ≡ w ++ (before_slash p ++ t)
tail_at w p t path e f = e ∙ ap (λ l. w ++ l) (both_sides p ∙ ap (λ l. before_slash p ++ l) (sym f))

article_at : (path p : List ℕ) (k : ℕ) → path ≡ codes "/articles/" ++ p → behind_part article_tails p ≡ Some k → PlaceAt path k
unfolding PlaceAt
article_at path p k e h =
    let b = part_of_key article_tails p k h in
    let part = before_slash p in
    elim (row_of_key (codes "/calendar") 0 k ((codes "/choice", 1) ∷ (codes "/price", 2) ∷ []) (from_slash p) b.1) [
      | inl x ↦ (calendar part, record { text = tail_at (codes "/articles/") p (codes "/calendar") path e x.0; segment = b.0 }, x.1)
      | inr y ↦ elim (row_of_key (codes "/choice") 1 k ((codes "/price", 2) ∷ []) (from_slash p) y) [
        | inl x ↦ (choice part, record { text = tail_at (codes "/articles/") p (codes "/choice") path e x.0; segment = b.0 }, x.1)
        | inr z ↦ elim (row_of_key (codes "/price") 2 k [] (from_slash p) z) [
          | inl x ↦ (price part, record { text = tail_at (codes "/articles/") p (codes "/price") path e x.0; segment = b.0 }, x.1)
          | inr n ↦ absurd (cc)
        ]
      ]
    ]

series_at : (path p : List ℕ) (k : ℕ) → path ≡ codes "/series/" ++ p → behind_part series_tails p ≡ Some k → PlaceAt path k
unfolding PlaceAt
series_at path p k e h =
    let b = part_of_key series_tails p k h in
    let part = before_slash p in
    elim (row_of_key (codes "/catalogue") 4 k ((codes "/gaps", 5) ∷ []) (from_slash p) b.1) [
      | inl x ↦ (catalogue part, record { text = tail_at (codes "/series/") p (codes "/catalogue") path e x.0; segment = b.0 }, x.1)
      | inr y ↦ elim (row_of_key (codes "/gaps") 5 k [] (from_slash p) y) [
        | inl x ↦ (gaps part, record { text = tail_at (codes "/series/") p (codes "/gaps") path e x.0; segment = b.0 }, x.1)
        | inr n ↦ absurd (cc)
      ]
    ]

pub place_of_key : (path : List ℕ) (k : ℕ) → key_at path ≡ Some k → PlaceAt path k
unfolding PlaceAt
place_of_key path k e =
    elim (or_else_some (cond (starts_with nat_eq path (codes "/articles/")) (behind_part article_tails (drop 10 path)) None) (second_keys path) k e) [
      | inl a ↦
          let c = cond_some (starts_with nat_eq path (codes "/articles/")) (behind_part article_tails (drop 10 path)) k a in
          article_at path (drop 10 path) k (front_is (codes "/articles/") path c.0) c.1
      | inr b ↦ elim (or_else_some (key_of path message_rows) (cond (starts_with nat_eq path (codes "/series/")) (behind_part series_tails (drop 8 path)) None) k b) [
        | inl m ↦ elim (row_of_key (codes "/messages") 3 k [] path m) [
          | inl x ↦ (messages, record { text = sym x.0; segment = tt }, x.1)
          | inr n ↦ absurd (cc)
        ]
        | inr s ↦
            let c = cond_some (starts_with nat_eq path (codes "/series/")) (behind_part series_tails (drop 8 path)) k s in
            series_at path (drop 8 path) k (front_is (codes "/series/") path c.0) c.1
      ]
    ]

-- ---- in the words of routes

route_key : (place : Place) → route_of place ≡ route_of_key (key_of_place place)
route_key messages = refl
route_key (price isbn) = refl
route_key (choice isbn) = refl
route_key (calendar isbn) = refl
route_key (gaps name) = refl
route_key (catalogue name) = refl

pub route_of_path : (place : Place) → HasSegment place → route_at (path_text place) ≡ Some (route_of place)
route_of_path place h = ap (option_map route_of_key) (key_of_path place h) ∙ ap Some (sym (route_key place))

part_before : (part rest : List ℕ) → IsSegment part → before_slash (part ++ slash ∷ rest) ≡ part
part_before part rest is = (sides part rest is.no_slash).0

pub part_of_path : (place : Place) → HasSegment place → part_at (route_of place) (path_text place) ≡ part_of place
part_of_path messages h = refl
part_of_path (price isbn) h = part_before isbn (codes "price") h
part_of_path (choice isbn) h = part_before isbn (codes "choice") h
part_of_path (calendar isbn) h = part_before isbn (codes "calendar") h
part_of_path (gaps name) h = part_before name (codes "gaps") h
part_of_path (catalogue name) h = part_before name (codes "catalogue") h

pub place_of_route : (path : List ℕ) (route : Route) → route_at path ≡ Some route
    → (place : Place) × IsPathOf path place × (route_of place ≡ route)
unfolding PlaceAt
place_of_route path route e = by (key_at path) refl e
  where
    by : (o : Option ℕ) → key_at path ≡ o → option_map route_of_key o ≡ Some route
        → (place : Place) × IsPathOf path place × (route_of place ≡ route)
    by None f g = absurd (cc)
    by (Some k) f g =
        let at = place_of_key path k f in
        let same : route_of_key k ≡ route = cc in
        (at.0, at.1, route_key at.0 ∙ ap route_of_key at.2 ∙ same)
