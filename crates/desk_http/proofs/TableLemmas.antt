-- What the walk over the desk's rows finds.
use Rattle.std.proofs.Common.{◌≡◌, ℕ, zero, suc, ◌<◌, List, [], ◌∷◌, ◌++◌, length, drop, get_or, Option, Some, None, Bool, true, false, cond, refl, sym, ap, subst, ◌∙◌, arith, nat_eq, ◌==◌, ltb, ◌&&◌, codes}
use Rattle.std.specs.List.{starts_with}
use Rattle.std.proofs.lemmas.Bool.{eqb-true, ltb-true, and_parts}
use Rattle.matchit.specs.Rows.{Rows, RowsOf, prepend, param_token}
use Rattle.matchit.specs.Router.{RouteOf, rename, map_key}
use Rattle.matchit.specs.Seek.{or_else, seek, first, step, slash}
use Rattle.matchit.specs.Level.{IsText}
use Rattle.matchit.proofs.OnLiterals.{matchit_on_literals}
use Rattle.matchit.proofs.SeekLemmas.{seek-empty, or_else-none, first-prefix}
use Rattle.matchit.proofs.RenameLemmas.{first-rename}
use Rattle.desk_http.specs.declared.routes.Route.{Route}
use Rattle.desk_http.specs.Table.{table}
use Rattle.desk_http.proofs.WalkLemmas.{AreTexts, first_byte, first_literal, first_part, after_slash}
use Rattle.desk_http.specs.Keys.{behind_part, article_tails, series_tails, message_rows, key_at, route_of_key}
use Rattle.std.specs.Prelude.{option_map}
use Rattle.desk_http.specs.declared.routes.Route.TheVariants.{Gaps}

abbrev pub article_rows : Rows
article_rows = prepend (codes "/articles/") (prepend (param_token ∷ []) (after_slash article_tails))

abbrev pub series_rows : Rows
series_rows = prepend (codes "/series/") (prepend (param_token ∷ []) (after_slash series_tails))

abbrev pub all_rows : Rows
all_rows = article_rows ++ (message_rows ++ series_rows)

-- the value under each key
abbrev pub route_at : {A : Type 0} → List (List ℕ × A) → A → ℕ → A
route_at [] d k = d
route_at ((t, a) ∷ rows) d zero = a
route_at ((t, a) ∷ rows) d (suc k) = route_at rows d k

pub table_is : (d : RouteOf Route) → table ≡ rename (route_at table d) all_rows
unfolding table matchit_on_literals
table_is d = refl

-- the rows without their first byte
abbrev pub drop_byte : Rows → Rows
drop_byte [] = []
drop_byte ((t, key) ∷ r) = (drop 1 t, key) ∷ drop_byte r

-- one of the three groups takes the path
at_second : (c : ℕ) (q : List ℕ) (all a m s : Rows) → all ≡ drop_byte all_rows → a ≡ drop_byte article_rows → m ≡ drop_byte message_rows → s ≡ drop_byte series_rows
    → seek 0 (step c all) q ≡ or_else (seek 0 (step c a) q) (or_else (seek 0 (step c m) q) (seek 0 (step c s) q))
at_second c q all a m s e0 e1 e2 e3 = rw (e0, e1, e2, e3) (by (97 == c) (109 == c) (115 == c) refl refl refl)
  where
    at : ℕ → Type 0
    at x = seek 0 (step x (drop_byte all_rows)) q
        ≡ or_else (seek 0 (step x (drop_byte article_rows)) q) (or_else (seek 0 (step x (drop_byte message_rows)) q) (seek 0 (step x (drop_byte series_rows)) q))

    by : (x y z : Bool) → (97 == c) ≡ x → (109 == c) ≡ y → (115 == c) ≡ z
        → seek 0 (step c (drop_byte all_rows)) q
        ≡ or_else (seek 0 (step c (drop_byte article_rows)) q) (or_else (seek 0 (step c (drop_byte message_rows)) q) (seek 0 (step c (drop_byte series_rows)) q))
    by true y z e f g = subst at (eqb-true 97 c e) (simp (seek-empty 0 q, or_else-none))
    by false true z e f g = subst at (eqb-true 109 c f) (simp (seek-empty 0 q, or_else-none))
    by false false true e f g = subst at (eqb-true 115 c g) (simp (seek-empty 0 q))
    by false false false e f g = rw (e, f, g) (simp (seek-empty 0 q, or_else-none))

second : (c : ℕ) (q : List ℕ) → first (drop_byte all_rows) (c ∷ q)
    ≡ or_else (first (drop_byte article_rows) (c ∷ q)) (or_else (first (drop_byte message_rows) (c ∷ q)) (first (drop_byte series_rows) (c ∷ q)))
second c q =
    let e0 = first_byte (drop_byte all_rows) c q refl refl in
    let e1 = first_byte (drop_byte article_rows) c q refl refl in
    let e2 = first_byte (drop_byte message_rows) c q refl refl in
    let e3 = first_byte (drop_byte series_rows) c q refl refl in
    rw (e0, e1, e2, e3) (at_second c q _ _ _ _ refl refl refl refl)

split : (path : List ℕ) → first all_rows path ≡ or_else (first article_rows path) (or_else (first message_rows path) (first series_rows path))
unfolding seek
split [] = refl
split (b ∷ p) =
    let e0 = first_byte all_rows b p refl refl in
    let e1 = first_byte article_rows b p refl refl in
    let e2 = first_byte message_rows b p refl refl in
    let e3 = first_byte series_rows b p refl refl in
    e0 ∙ after (47 == b) p refl ∙ sym (cc)
  where
    after : (v : Bool) (p : List ℕ) → (47 == b) ≡ v
        → seek 0 (step b all_rows) p ≡ or_else (seek 0 (step b article_rows) p) (or_else (seek 0 (step b message_rows) p) (seek 0 (step b series_rows) p))
    after true [] e = rw e refl
    after true (c ∷ q) e =
        subst (λ x. seek 0 (step x all_rows) (c ∷ q)
        ≡ or_else (seek 0 (step x article_rows) (c ∷ q)) (or_else (seek 0 (step x message_rows) (c ∷ q)) (seek 0 (step x series_rows) (c ∷ q))))
        (eqb-true 47 b e) (second c q)
    after false p e = rw e (simp (seek-empty 0 p))

-- tests that compute on literals
abbrev are_bytes : List ℕ → Bool
are_bytes [] = true
are_bytes (b ∷ bytes) = ltb b 256 && are_bytes bytes

literal : (bytes : List ℕ) → are_bytes bytes ≡ true → IsText bytes
literal [] e = tt
literal (b ∷ bytes) e =
    let both = and_parts (ltb b 256) (are_bytes bytes) e in
    (ltb-true b 256 both.0, literal bytes both.1)

abbrev all_bytes : Rows → Bool
all_bytes [] = true
all_bytes ((t, key) ∷ r) = are_bytes t && all_bytes r

texts : (r : Rows) → all_bytes r ≡ true → AreTexts r
texts [] e = tt
texts ((t, key) ∷ r) e =
    let both = and_parts (are_bytes t) (all_bytes r) e in
    (literal t both.0, texts r both.1)

IsText-drop : (n : ℕ) (path : List ℕ) → IsText path → IsText (drop n path)
IsText-drop zero path text = text
IsText-drop (suc n) [] text = tt
IsText-drop (suc n) (b ∷ path) text = IsText-drop n path text.1

one_part : (w : List ℕ) (tails : Rows) (path : List ℕ) → IsText w → 0 < length (prepend (slash ∷ []) tails) → AreTexts (prepend (slash ∷ []) tails) → IsText path
    → first (prepend w (prepend (param_token ∷ []) (after_slash tails))) path
    ≡ cond (starts_with nat_eq path w) (behind_part tails (drop (length w) path)) None
one_part w tails path lit some texts text =
    first-prefix w (prepend (param_token ∷ []) (after_slash tails)) path lit
    ∙ ap (λ k. cond (starts_with nat_eq path w) k None) (first_part tails (drop (length w) path) some texts (IsText-drop (length w) path text))

pub first_is : (path : List ℕ) → IsText path → first all_rows path ≡ key_at path
first_is path text =
    let a = one_part (codes "/articles/") article_tails path (literal (codes "/articles/") refl) (omega arith) (texts (prepend (slash ∷ []) article_tails) refl) text in
    let s = one_part (codes "/series/") series_tails path (literal (codes "/series/") refl) (omega arith) (texts (prepend (slash ∷ []) series_tails) refl) text in
    let m = first_literal message_rows path (texts message_rows refl) in
    split path ∙ rw (a, m, s) refl

-- what the desk's router finds, by its key
pub first_in_table : (d : RouteOf Route) (path : List ℕ) → IsText path → first table path ≡ map_key (route_at table d) (key_at path)
first_in_table d path text =
    ap (λ r. first r path) (table_is d) ∙ first-rename (route_at table d) all_rows path ∙ ap (map_key (route_at table d)) (first_is path text)

-- no route of the table is asked for past its end
abbrev pub spare : RouteOf Route
spare = record { pattern = []; text = []; names = []; value = Gaps }

value_at : (k : ℕ) → (route_at table spare k).value ≡ route_of_key k
unfolding table matchit_on_literals
value_at zero = refl
value_at (suc zero) = refl
value_at (suc (suc zero)) = refl
value_at (suc (suc (suc zero))) = refl
value_at (suc (suc (suc (suc zero)))) = refl
value_at (suc (suc (suc (suc (suc zero))))) = refl
value_at (suc (suc (suc (suc (suc (suc k)))))) = refl

values : (o : Option ℕ) → option_map (λ e. e.value) (map_key (route_at table spare) o) ≡ option_map route_of_key o
values None = refl
values (Some k) = ap Some (value_at k)

bytes_text : (path : List ℕ) → ((i : ℕ) → get_or path i 0 < 256) → IsText path
bytes_text [] low = tt
bytes_text (b ∷ path) low = (low 0, bytes_text path (λ i. low (suc i)))

-- the value of the route that the router finds
pub found_value : (rows : RowsOf (RouteOf Route)) (path : List ℕ) → rows ≡ table → ((i : ℕ) → get_or path i 0 < 256)
    → option_map (λ e. e.value) (first rows path) ≡ option_map route_of_key (key_at path)
found_value rows path same low =
    ap (λ r. option_map (λ e. e.value) (first r path)) same
    ∙ ap (option_map (λ e. e.value)) (first_in_table spare path (bytes_text path low)) ∙ values (key_at path)
