-- What a router's walk finds on rows of literals, and after a parameter of one segment.
use Rattle.std.proofs.Common.{◌≡◌, ◌≢◌, ℕ, zero, suc, ◌-◌, ◌<◌, ◌≤◌, List, [], ◌∷◌, ◌++◌, length, drop, Some, None, Bool, true, false, cond, refl, sym, ap, ◌∙◌, arith, nat_eq, ◌==◌, ltb, ◌&&◌, append-nil, length-append}
use Rattle.std.proofs.Math.Seq.{drop-append_seam}
use Rattle.std.proofs.lemmas.Bool.Decides.{nat_tests}
use Rattle.std.proofs.lemmas.Bool.{eqb-true, lt-ltb, true≢false, false≢true}
use Rattle.std.specs.Cmp.Lexicographic.{pointwise}
use Rattle.matchit.specs.Rows.{Rows, Seen, prepend, ends, rows_of, param_token, catch_all_token}
use Rattle.matchit.specs.Seek.{cuts, own, step, seek, first, param_step, after_param, has_slash, segment, slash, better, longest_suffix, same_text}
use Rattle.desk_http.specs.Keys.{key_of, before_slash, from_slash, behind_part}
use Rattle.matchit.specs.Level.{IsText, AreSuffixes, AllSegment}
use Rattle.matchit.proofs.SeekLemmas.{seek-empty, param_step-empty, or_else-none, step-miss, step-hit, prepend-nil, own-prepend}
use Rattle.matchit.proofs.LongestLemmas.{longest-kid}
use Rattle.matchit.proofs.ParamLemmas.{after_param-end, after_param-stop, after_param-kid}

-- where no row goes on with a parameter or a catch-all
pub first_byte : (r : Rows) (b : ℕ) (p : List ℕ) → step param_token r ≡ [] → step catch_all_token r ≡ []
    → first r (b ∷ p) ≡ seek 0 (step b r) p
unfolding seek
first_byte r b p n m =
    rw (n, m) (simp (param_step-empty (b ∷ p), seek-empty ((param_step {K = ℕ} [] (b ∷ p)).0 - 1) p, or_else-none))

-- each row is of bytes
abbrev pub AreTexts : Rows → Type 0
AreTexts [] = Unit {0}
AreTexts ((t, key) ∷ r) = IsText t × AreTexts r

texts_step : (b : ℕ) (r : Rows) → AreTexts r → AreTexts (step b r)
texts_step b [] all = tt
texts_step b (([], key) ∷ r) all = texts_step b r all.1
texts_step b ((x ∷ t, key) ∷ r) all =
    elim (x == b) as (λ v. AreTexts (cond v ((t, key) ∷ step b r) (step b r))) [
      | true ↦ (all.0.1, texts_step b r all.1)
      | false ↦ texts_step b r all.1
    ]

no_step : (b : ℕ) (r : Rows) → 256 ≤ b → AreTexts r → step b r ≡ []
no_step b [] big all = refl
no_step b (([], key) ∷ r) big all = no_step b r big all.1
no_step b ((x ∷ t, key) ∷ r) big all =
    let low : x < 256 = all.0.0 in
    let n : (x == b) ≡ false = grind (arith, nat_tests) in
    rw n (no_step b r big all.1)

own_is_key : (r : Rows) → own r ≡ key_of [] r
own_is_key [] = refl
own_is_key (([], key) ∷ r) = refl
own_is_key ((x ∷ t, key) ∷ r) = own_is_key r

key_step : (b : ℕ) (p : List ℕ) (r : Rows) → key_of p (step b r) ≡ key_of (b ∷ p) r
key_step b p [] = refl
key_step b p (([], key) ∷ r) = key_step b p r
key_step b p ((x ∷ t, key) ∷ r) =
    elim (x == b) as (λ v. key_of p (cond v ((t, key) ∷ step b r) (step b r)) ≡ cond (v && same_text t p) (Some key) (key_of (b ∷ p) r)) [
      | true ↦ ap (cond (same_text t p) (Some key)) (key_step b p r)
      | false ↦ key_step b p r
    ]

-- on rows of bytes the walk finds the path itself
pub first_literal : (r : Rows) (path : List ℕ) → AreTexts r → first r path ≡ key_of path r
unfolding seek
first_literal r [] all = own_is_key r
first_literal r (b ∷ p) all =
    first_byte r b p (no_step param_token r (omega arith) all) (no_step catch_all_token r (omega arith) all)
    ∙ first_literal (step b r) p (texts_step b r all) ∙ key_step b p r

-- a parameter, then a slash and these tails
abbrev pub node_of : Rows → Seen
node_of tails = record { prefix = slash ∷ []; tails = tails; height = 1 }

abbrev pub after_slash : Rows → Rows
after_slash tails = rows_of (node_of tails ∷ []) ++ ends None

all_segment : (tails : Rows) → AllSegment (slash ∷ []) (prepend (slash ∷ []) tails)
all_segment [] = tt
all_segment ((t, key) ∷ r) = (refl, all_segment r)

suffix : (tails : Rows) → 0 < length (prepend (slash ∷ []) tails) → AreSuffixes (node_of tails ∷ [])
suffix tails some = (record { some_prefix = omega arith; some_rows = some; all_segment = all_segment tails }, tt, tt)

longest : (tails : Rows) (seg : List ℕ) → 0 < length (prepend (slash ∷ []) tails)
    → longest_suffix seg (rows_of (node_of tails ∷ [])) ≡ better seg [] (slash ∷ [])
longest tails seg some =
    rw append-nil (longest-kid seg [] (slash ∷ []) (prepend (slash ∷ []) tails) (all_segment tails) some)

-- after a parameter the walk goes on behind the first slash, if the segment has a byte
after_segment : (tails : Rows) (b : ℕ) (p : List ℕ) → 0 < length (prepend (slash ∷ []) tails)
    → after_param (after_slash tails) (b ∷ p)
    ≡ cond (cuts (segment (b ∷ p)) (slash ∷ [])) (first (prepend (slash ∷ []) tails) (drop (length (segment (b ∷ p)) - 1) (b ∷ p))) None
after_segment tails b p some = by (cuts (segment (b ∷ p)) (slash ∷ [])) (has_slash (b ∷ p)) refl refl
  where
    nodes : List Seen
    nodes = node_of tails ∷ []

    chosen : (v : Bool) → cuts (segment (b ∷ p)) (slash ∷ []) ≡ v → longest_suffix (segment (b ∷ p)) (rows_of (node_of tails ∷ [])) ≡ cond v (slash ∷ []) []
    chosen v e = longest tails (segment (b ∷ p)) some ∙ ap (λ t. cond t (slash ∷ []) []) e

    by : (v h : Bool) → cuts (segment (b ∷ p)) (slash ∷ []) ≡ v → has_slash (b ∷ p) ≡ h
        → after_param (after_slash tails) (b ∷ p)
        ≡ cond (cuts (segment (b ∷ p)) (slash ∷ [])) (first (prepend (slash ∷ []) tails) (drop (length (segment (b ∷ p)) - 1) (b ∷ p))) None
    by true h e f =
        after_param-kid (node_of tails ∷ []) 0 (node_of tails) None b p (suffix tails some) (omega arith) (sym (chosen true e))
        ∙ ap (λ t. cond t (first (prepend (slash ∷ []) tails) (drop (length (segment (b ∷ p)) - 1) (b ∷ p))) None) (sym e)
    by false true e f =
        after_param-stop (node_of tails ∷ []) None b p (chosen false e) f
        ∙ ap (λ t. cond t (first (prepend (slash ∷ []) tails) (drop (length (segment (b ∷ p)) - 1) (b ∷ p))) None) (sym e)
    by false false e f =
        after_param-end (node_of tails ∷ []) None b p (suffix tails some) (chosen false e) f
        ∙ ap (λ t. cond t (first (prepend (slash ∷ []) tails) (drop (length (segment (b ∷ p)) - 1) (b ∷ p))) None) (sym e)

pub both_sides : (p : List ℕ) → p ≡ before_slash p ++ from_slash p
both_sides [] = refl
both_sides (b ∷ p) =
    elim (b == slash) as (λ v. b ∷ p ≡ cond v [] (b ∷ before_slash p) ++ cond v (b ∷ p) (from_slash p)) [
      | true ↦ refl
      | false ↦ ap (λ l. b ∷ l) (both_sides p)
    ]

with_slash : (p : List ℕ) → has_slash p ≡ true → segment p ≡ before_slash p ++ slash ∷ []
with_slash [] h = absurd (false≢true h)
with_slash (b ∷ p) h = by (b == slash) refl (with_slash p)
  where
    by : (v : Bool) → (b == slash) ≡ v → (has_slash p ≡ true → segment p ≡ before_slash p ++ slash ∷ [])
        → segment (b ∷ p) ≡ before_slash (b ∷ p) ++ slash ∷ []
    by true e rest = rw (e, eqb-true b slash e) refl
    by false e rest = rw e (ap (λ l. b ∷ l) (rest (rw e at h)))

without_slash : (p : List ℕ) → has_slash p ≡ false → (segment p ≡ p) × (from_slash p ≡ [])
without_slash [] h = (refl, refl)
without_slash (b ∷ p) h = by (b == slash) refl (without_slash p)
  where
    by : (v : Bool) → (b == slash) ≡ v → (has_slash p ≡ false → (segment p ≡ p) × (from_slash p ≡ []))
        → (segment (b ∷ p) ≡ b ∷ p) × (from_slash (b ∷ p) ≡ [])
    by true e rest = absurd (true≢false (rw e at h))
    by false e rest =
        let r = rest (rw e at h) in
        (rw e (ap (λ l. b ∷ l) r.0), rw e r.1)

no_head : (b : ℕ) (p : List ℕ) → has_slash (b ∷ p) ≡ false → ((b == slash) ≡ false) × (has_slash p ≡ false)
no_head b p h = by (b == slash) refl
  where
    by : (v : Bool) → (b == slash) ≡ v → ((b == slash) ≡ false) × (has_slash p ≡ false)
    by true e = absurd (true≢false (rw e at h))
    by false e = (e, rw e at h)

no_slash_end : (n : ℕ) (p : List ℕ) → has_slash p ≡ false → pointwise nat_eq (slash ∷ []) (drop n p) ≡ false
no_slash_end zero [] h = refl
no_slash_end (suc n) [] h = refl
no_slash_end zero (b ∷ p) h =
    let other : (b == slash) ≡ false = (no_head b p h).0 in
    let same : nat_eq slash b ≡ false = grind (arith, nat_tests) in
    rw same refl
no_slash_end (suc n) (b ∷ p) h = no_slash_end n p (no_head b p h).1

and_true : (v : Bool) → (v && true) ≡ v
and_true true = refl
and_true false = refl

cuts_before : (x : List ℕ) → cuts (x ++ slash ∷ []) (slash ∷ []) ≡ ltb 0 (length x)
cuts_before x =
    let long = length-append x (slash ∷ []) in
    let n : length (x ++ slash ∷ []) - 1 ≡ length x = omega arith in
    let ends : pointwise nat_eq (slash ∷ []) (drop (length (x ++ slash ∷ []) - 1) (x ++ slash ∷ [])) ≡ true =
    ap (λ k. pointwise nat_eq (slash ∷ []) (drop k (x ++ slash ∷ []))) n ∙ ap (pointwise nat_eq (slash ∷ [])) (drop-append_seam x (slash ∷ [])) in
    let more : ltb 1 (length (x ++ slash ∷ [])) ≡ ltb 0 (length x) = grind (arith, nat_tests) in
    rw ends (rw more (and_true (ltb 0 (length x))))

from_some : (p : List ℕ) → has_slash p ≡ true → ltb 0 (length (from_slash p)) ≡ true
from_some [] h = absurd (false≢true h)
from_some (b ∷ p) h = by (b == slash) refl (from_some p)
  where
    by : (v : Bool) → (b == slash) ≡ v → (has_slash p ≡ true → ltb 0 (length (from_slash p)) ≡ true) → ltb 0 (length (from_slash (b ∷ p))) ≡ true
    by true e rest = rw e (lt-ltb 0 (suc (length p)) (omega arith))
    by false e rest = rw e (rest (rw e at h))

and_false : (v : Bool) → (v && false) ≡ false
and_false true = refl
and_false false = refl

-- how the walk over a path's first segment goes on, by its first slash
side : (tails : Rows) (p : List ℕ)
    → cond (cuts (segment p) (slash ∷ [])) (first (prepend (slash ∷ []) tails) (drop (length (segment p) - 1) p)) None
    ≡ cond (ltb 0 (length (before_slash p)) && ltb 0 (length (from_slash p))) (first (prepend (slash ∷ []) tails) (from_slash p)) None
side tails p = by (has_slash p) refl
  where
    by : (h : Bool) → has_slash p ≡ h
        → cond (cuts (segment p) (slash ∷ [])) (first (prepend (slash ∷ []) tails) (drop (length (segment p) - 1) p)) None
        ≡ cond (ltb 0 (length (before_slash p)) && ltb 0 (length (from_slash p))) (first (prepend (slash ∷ []) tails) (from_slash p)) None
    by true e =
        let seg = with_slash p e in
        let cut : cuts (segment p) (slash ∷ []) ≡ ltb 0 (length (before_slash p)) = ap (λ l. cuts l (slash ∷ [])) seg ∙ cuts_before (before_slash p) in
        let long : length (segment p) - 1 ≡ length (before_slash p) = omega (arith, ap length seg, length-append (before_slash p) (slash ∷ [])) in
        let rest : drop (length (segment p) - 1) p ≡ from_slash p =
        ap (λ k. drop k p) long ∙ ap (drop (length (before_slash p))) (both_sides p) ∙ drop-append_seam (before_slash p) (from_slash p) in
        let some : (ltb 0 (length (before_slash p)) && ltb 0 (length (from_slash p))) ≡ ltb 0 (length (before_slash p)) =
        ap (λ v. ltb 0 (length (before_slash p)) && v) (from_some p e) ∙ and_true (ltb 0 (length (before_slash p))) in
        ap (λ v. cond v (first (prepend (slash ∷ []) tails) (drop (length (segment p) - 1) p)) None) (cut ∙ sym some)
        ∙ ap (λ l. cond (ltb 0 (length (before_slash p)) && ltb 0 (length (from_slash p))) (first (prepend (slash ∷ []) tails) l) None) rest
    by false e =
        let w = without_slash p e in
        let cut : cuts (segment p) (slash ∷ []) ≡ false =
        ap (λ l. cuts l (slash ∷ [])) w.0 ∙ ap (λ v. ltb 1 (length p) && v) (no_slash_end (length p - 1) p e) ∙ and_false (ltb 1 (length p)) in
        let none : (ltb 0 (length (before_slash p)) && ltb 0 (length (from_slash p))) ≡ false =
        ap (λ l. ltb 0 (length (before_slash p)) && ltb 0 (length l)) w.1 ∙ and_false (ltb 0 (length (before_slash p))) in
        ap (λ v. cond v (first (prepend (slash ∷ []) tails) (drop (length (segment p) - 1) p)) None) cut
        ∙ sym (ap (λ v. cond v (first (prepend (slash ∷ []) tails) (from_slash p)) None) none)

-- a parameter comes next
pub first_param : (r : Rows) (b : ℕ) (p : List ℕ) → b < 256 → first (prepend (param_token ∷ []) r) (b ∷ p) ≡ after_param r (b ∷ p)
unfolding seek
first_param r b p low =
    let n : param_token ≢ b = λ e. omega arith in
    let m : param_token ≢ catch_all_token = λ e. omega arith in
    rw (step-miss b param_token [] r n, step-miss catch_all_token param_token [] r m, step-hit param_token [] r, prepend-nil r)
    (simp (seek-empty 0 p, or_else-none))

pub first_part : (tails : Rows) (p : List ℕ) → 0 < length (prepend (slash ∷ []) tails) → AreTexts (prepend (slash ∷ []) tails) → IsText p
    → first (prepend (param_token ∷ []) (after_slash tails)) p ≡ behind_part tails p
unfolding seek
first_part tails [] some texts text = own-prepend param_token [] (after_slash tails)
first_part tails (b ∷ p) some texts text =
    first_param (after_slash tails) b p text.0 ∙ after_segment tails b p some ∙ side tails (b ∷ p)
    ∙ ap (λ k. cond (ltb 0 (length (before_slash (b ∷ p))) && ltb 0 (length (from_slash (b ∷ p)))) k None)
    (first_literal (prepend (slash ∷ []) tails) (from_slash (b ∷ p)) texts)
