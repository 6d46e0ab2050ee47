-- Where no territory names a country with a first letter, either each country that begins so is wanted, or none.
use Rattle.std.proofs.Common.{◌≡◌, ℕ, Bool, true, false, List, [], ◌∷◌, ◌++◌, refl, sym, ap, ◌∙◌}
use Rattle.std.specs.Prelude.{◌&&◌, ◌||◌, ◌==◌, not, filter, length, if◌then◌else◌, Some, None}
use Rattle.std.specs.Char.{is_ascii_uppercase}
use Rattle.std.specs.List.{cons_option, list_all, list_any}
use Rattle.std.specs.Str.{bytes_eq}
use Rattle.std.proofs.lemmas.Bool.{or_parts}
use Rattle.std.proofs.lemmas.List.{append-nil}
use Rattle.onix_terms.specs.declared.territory.Territory.{Territory}
use Rattle.feed_mapping.specs.Unions.{begins, countries_from, has_world, is_wanted, letters, lies_in, lies_in_one, may_be_wanted, names, wants_unnamed}

not-among : (f s : ℕ) (codes : List (List ℕ)) → list_any (begins f) codes ≡ false → list_any (bytes_eq (f ∷ s ∷ [])) codes ≡ false
not-among f s [] h = refl
not-among f s ([] ∷ codes) h = not-among f s codes h
not-among f s ((b ∷ code) ∷ codes) h =
    let p = or_parts (f == b) (list_any (begins f) codes) h in
    ap (λ (t : Bool). (t && bytes_eq (s ∷ []) code) || list_any (bytes_eq (f ∷ s ∷ [])) codes) p.0 ∙ not-among f s codes p.1

or-nothing : (t : Bool) → (not false && (t || false)) ≡ t
or-nothing true = refl
or-nothing false = refl

-- a country that a territory does not name lies in it exactly where it is the world
unnamed-in : (f s : ℕ) (t : Territory) → names f t ≡ false → lies_in (f ∷ s ∷ []) t ≡ t.world
unnamed-in f s t h =
    let p = or_parts (list_any (begins f) t.included) (list_any (begins f) t.excluded) h in
    ap (λ (b : Bool). not b && (t.world || list_any (bytes_eq (f ∷ s ∷ [])) t.included)) (not-among f s t.excluded p.1)
    ∙ ap (λ (b : Bool). not false && (t.world || b)) (not-among f s t.included p.0)
    ∙ or-nothing t.world

unnamed-in-one : (f s : ℕ) (ts : List Territory) → list_any (names f) ts ≡ false → lies_in_one ts (f ∷ s ∷ []) ≡ has_world ts
unnamed-in-one f s [] h = refl
unnamed-in-one f s (t ∷ ts) h =
    let p = or_parts (names f t) (list_any (names f) ts) h in
    ap (λ (b : Bool). b || lies_in_one ts (f ∷ s ∷ [])) (unnamed-in f s t p.0) ∙ ap (λ (b : Bool). t.world || b) (unnamed-in-one f s ts p.1)

not-wanted : (ts : List Territory) (inside : Bool) (f s : ℕ) → wants_unnamed ts inside ≡ false → list_any (names f) ts ≡ false → is_wanted ts inside (f ∷ s ∷ []) ≡ false
not-wanted ts true f s w h = unnamed-in-one f s ts h ∙ w
not-wanted ts false f s w h = ap not (unnamed-in-one f s ts h) ∙ w

none-passes : (p : List ℕ → Bool) (f : ℕ) → ((s : ℕ) → p (f ∷ s ∷ []) ≡ false) → (seconds : List ℕ) → filter p (countries_from seconds f) ≡ []
none-passes p f none [] = refl
none-passes p f none (s ∷ seconds) = go ((length (f ∷ s ∷ []) == 2) && list_all is_ascii_uppercase (f ∷ s ∷ [])) (none-passes p f none seconds)
  where
    go : (is : Bool) → filter p (countries_from seconds f) ≡ [] → filter p (cons_option (if is then Some (f ∷ s ∷ []) else None) (countries_from seconds f)) ≡ []
    go true rest = rw (none s) rest
    go false rest = rest

-- nothing is added where no country with that first letter may be wanted
pub none_wanted : (found : List (List ℕ)) (ts : List Territory) (inside : Bool) (f : ℕ) → may_be_wanted ts inside f ≡ false
    → found ≡ found ++ filter (is_wanted ts inside) (countries_from letters f)
none_wanted found ts inside f h =
    let p = or_parts (wants_unnamed ts inside) (list_any (names f) ts) h in
    sym (append-nil found) ∙ ap (λ (more : List (List ℕ)). found ++ more) (sym (none-passes (is_wanted ts inside) f (λ s. not-wanted ts inside f s p.0 p.1) letters))
