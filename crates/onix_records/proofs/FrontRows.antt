-- The rows that are computed of records, as far as each may come next, are the longest front.
use Rattle.std.proofs.Common.{◌≡◌, ◌≤◌, ◌<◌, ◌∷◌, ◌∙◌, ◌+◌, inl, inr, [], ℕ, zero, suc, List, Bool, true, Option, Some, None, refl, sym, ap, arith, length, take, map}
use Rattle.std.specs.Prelude.{⊤, if◌then◌else◌, ◌&&◌, nat_lt}
use Rattle.std.specs.Option.{option_map_or}
use Rattle.std.proofs.lemmas.Bool.{and_from, and_parts, lt-ltb, ltb-true}
use Rattle.std.proofs.lemmas.List.{length-take-le}
use Rattle.std.proofs.lemmas.Option.{cond_some}
use Rattle.onix_records.specs.Grammar.{CountsAfter, IsBadRow, IsFront, KeepsOrder, is_counted, may_follow}
use Rattle.onix_records.specs.Message.{bad_row, front_rows, next_row}
use Rattle.onix_records.specs.Opening.{opening_of}
use Rattle.onix_records.specs.Row.{message_row, row_of}
use Rattle.onix_records.specs.declared.row.Opening.{Opening}
use Rattle.onix_records.specs.declared.row.Row.{Row}
use Rattle.onix_records.proofs.Fronts.{Reads, begun-reads, cons-parts, reads-begun, reads-length}
use Rattle.onix_terms.specs.Options.{◌>>=◌}

abbrev Record : Type 0
Record = List (List ℕ)

-- what two steps gave, one after the other
pub bind-some : {A B : Type 0} (o : Option A) (f : A → Option B) (y : B) → (o >>= f) ≡ Some y → (x : A) × (o ≡ Some x) × (f x ≡ Some y)
bind-some None f y e = cc e
bind-some (Some x) f y e = (x, refl, e)

next-parts : (o : Opening) (last : Row) (before : ℕ) (r : Record) (x : Row) → next_row o last before r ≡ Some x
    → (row_of o r ≡ Some x) × (before < 20000) × (may_follow last x ≡ true) × (is_counted x before ≡ true)
next-parts o last before r x e =
    let (y, reads, h) = bind-some (row_of o r) _ x e in
    let (t, same) = cond_some (nat_lt before 20000 && (may_follow last y && is_counted y before)) y x h in
    let p = and_parts _ _ t in
    let q = and_parts _ _ p.1 in
    rw (← same) (reads, ltb-true before 20000 p.0, q.0, q.1)

next-some : (o : Opening) (last : Row) (before : ℕ) (r : Record) (x : Row) → row_of o r ≡ Some x → before < 20000 → may_follow last x ≡ true → is_counted x before ≡ true
    → next_row o last before r ≡ Some x
next-some o last before r x reads less follows counted =
    let all : (nat_lt before 20000 && (may_follow last x && is_counted x before)) ≡ true = and_from _ _ (lt-ltb before 20000 less) (and_from _ _ follows counted) in
    ap (λ (t : Option Row). t >>= (λ (y : Row). if nat_lt before 20000 && (may_follow last y && is_counted y before) then Some y else None)) reads
    ∙ ap (λ (t : Bool). if t then Some x else None) all

-- the first of the records are these rows, each of which may come next
pub Follows : Opening → Row → ℕ → List Record → List Row → Type 0
Follows o last before records [] = ⊤
Follows o last before [] (x ∷ rows) = ⊥
Follows o last before (r ∷ records) (x ∷ rows) = (next_row o last before r ≡ Some x) × Follows o x (suc before) records rows

-- whatever the next row is, what is computed follows
follows-more : (o : Opening) (last : Row) (before : ℕ) (r : Record) (records : List Record) (next : Option Row) → next_row o last before r ≡ next
    → ((x : Row) → Follows o x (suc before) records (front_rows o x (suc before) records))
    → Follows o last before (r ∷ records) (option_map_or (λ x. x ∷ front_rows o x (suc before) records) next [])
unfolding Follows
follows-more o last before r records None e more = tt
follows-more o last before r records (Some x) e more = (e, more x)

follows-front : (o : Opening) (last : Row) (before : ℕ) (records : List Record) → Follows o last before records (front_rows o last before records)
unfolding Follows front_rows
follows-front o last before [] = tt
follows-front o last before (r ∷ records) = follows-more o last before r records (next_row o last before r) refl (λ x. follows-front o x (suc before) records)

-- nothing that follows is longer, and what is as long as the records is what is computed
follows-least : (o : Opening) (last : Row) (before : ℕ) (records : List Record) (rows : List Row) → Follows o last before records rows → length rows ≤ length (front_rows o last before records)
unfolding Follows front_rows
follows-least o last before records [] f = omega arith
follows-least o last before [] (x ∷ rows) f = absurd f
follows-least o last before (r ∷ records) (x ∷ rows) f =
    let e : length (option_map_or (λ y. y ∷ front_rows o y (suc before) records) (next_row o last before r) []) ≡ suc (length (front_rows o x (suc before) records)) =
    ap (λ (t : Option Row). length (option_map_or (λ y. y ∷ front_rows o y (suc before) records) t [])) f.0 in
    let h = follows-least o x (suc before) records rows f.1 in
    omega (arith, e, h)

follows-whole : (o : Opening) (last : Row) (before : ℕ) (records : List Record) (rows : List Row) → Follows o last before records rows → length rows ≡ length records → front_rows o last before records ≡ rows
unfolding Follows front_rows
follows-whole o last before [] [] f e = refl
follows-whole o last before (r ∷ records) [] f e = absurd (omega (arith, e))
follows-whole o last before [] (x ∷ rows) f e = absurd f
follows-whole o last before (r ∷ records) (x ∷ rows) f e =
    ap (λ (t : Option Row). option_map_or (λ y. y ∷ front_rows o y (suc before) records) t []) f.0
    ∙ ap (λ (t : List Row). x ∷ t) (follows-whole o x (suc before) records rows f.1 (omega (arith, e)))

follows-length : (o : Opening) (last : Row) (before : ℕ) (records : List Record) (rows : List Row) → Follows o last before records rows → length rows ≤ length records
unfolding Follows
follows-length o last before records [] f = omega arith
follows-length o last before [] (x ∷ rows) f = absurd f
follows-length o last before (r ∷ records) (x ∷ rows) f = let h = follows-length o x (suc before) records rows f.1 in omega (arith, h)

-- a prefix of the records, and the records
follows-take : (o : Opening) (last : Row) (before : ℕ) (records : List Record) (rows : List Row) → Follows o last before records rows → Follows o last before (take (length rows) records) rows
unfolding Follows
follows-take o last before records [] f = tt
follows-take o last before [] (x ∷ rows) f = absurd f
follows-take o last before (r ∷ records) (x ∷ rows) f = (f.0, follows-take o x (suc before) records rows f.1)

follows-all : (o : Opening) (last : Row) (before n : ℕ) (records : List Record) (rows : List Row) → Follows o last before (take n records) rows → Follows o last before records rows
unfolding Follows
follows-all o last before n records [] f = tt
follows-all o last before n [] (x ∷ rows) f = none n f
  where
    none : (m : ℕ) → Follows o last before (take m []) (x ∷ rows) → ⊥
    none zero g = g
    none (suc m) g = g
follows-all o last before zero (r ∷ records) (x ∷ rows) f = absurd f
follows-all o last before (suc n) (r ∷ records) (x ∷ rows) f = (f.0, follows-all o x (suc before) n records rows f.1)

-- between this and the four facts of a front

follows-of : (o : Opening) (last : Row) (before : ℕ) (done : List Record) (rows : List Row) → before + length done ≤ 20000 → map (row_of o) done ≡ map Some rows → KeepsOrder (last ∷ rows) → CountsAfter before rows
    → Follows o last before done rows
unfolding Follows
follows-of o last before done [] within reads order counts = tt
follows-of o last before [] (x ∷ rows) within reads order counts = cc reads
follows-of o last before (r ∷ done) (x ∷ rows) within reads order counts =
    let p = cons-parts _ _ _ _ reads in
    (next-some o last before r x p.0 (omega (arith, within)) order.0 counts.0, follows-of o x (suc before) done rows (omega (arith, within)) p.1 order.1 counts.1)

follows-within : (o : Opening) (last : Row) (before : ℕ) (done : List Record) (rows : List Row) → Follows o last before done rows → length rows ≡ length done → before ≤ 20000 → before + length done ≤ 20000
unfolding Follows
follows-within o last before [] rows f e small = omega arith
follows-within o last before (r ∷ done) [] f e small = absurd (omega (arith, e))
follows-within o last before (r ∷ done) (x ∷ rows) f e small =
    let p = next-parts o last before r x f.0 in
    let less = p.1 in
    let h = follows-within o x (suc before) done rows f.1 (omega (arith, e)) (omega (arith, less)) in
    omega (arith, h)

follows-reads : (o : Opening) (last : Row) (before : ℕ) (done : List Record) (rows : List Row) → Follows o last before done rows → length rows ≡ length done → map (row_of o) done ≡ map Some rows
unfolding Follows
follows-reads o last before [] [] f e = refl
follows-reads o last before (r ∷ done) [] f e = absurd (omega (arith, e))
follows-reads o last before [] (x ∷ rows) f e = absurd f
follows-reads o last before (r ∷ done) (x ∷ rows) f e =
    let p = next-parts o last before r x f.0 in
    let h = follows-reads o x (suc before) done rows f.1 (omega (arith, e)) in
    cc (p.0, h)

follows-order : (o : Opening) (last : Row) (before : ℕ) (done : List Record) (rows : List Row) → Follows o last before done rows → KeepsOrder (last ∷ rows)
unfolding Follows
follows-order o last before done [] f = tt
follows-order o last before [] (x ∷ rows) f = absurd f
follows-order o last before (r ∷ done) (x ∷ rows) f = ((next-parts o last before r x f.0).2, follows-order o x (suc before) done rows f.1)

follows-counts : (o : Opening) (last : Row) (before : ℕ) (done : List Record) (rows : List Row) → Follows o last before done rows → CountsAfter before rows
unfolding Follows
follows-counts o last before done [] f = tt
follows-counts o last before [] (x ∷ rows) f = absurd f
follows-counts o last before (r ∷ done) (x ∷ rows) f = ((next-parts o last before r x f.0).3, follows-counts o x (suc before) done rows f.1)

abbrev front_after : Opening → List Record → List Row
front_after o rest = front_rows o (message_row o) 1 rest

reads-follows : (o : Opening) (done : List Record) (rows : List Row) → Reads o done rows → Follows o (message_row o) 1 done rows
reads-follows o done rows f = let within = f.within in follows-of o (message_row o) 1 done rows (omega (arith, within)) f.reads f.order f.counts

follows-are-read : (o : Opening) (done : List Record) (rows : List Row) → Follows o (message_row o) 1 done rows → length rows ≡ length done → Reads o done rows
follows-are-read o done rows f e =
    let within = follows-within o (message_row o) 1 done rows f e (omega arith) in
    record {
      within = omega (arith, within);
      reads = follows-reads o (message_row o) 1 done rows f e;
      order = follows-order o (message_row o) 1 done rows f;
      counts = follows-counts o (message_row o) 1 done rows f;
    }

-- rows that are a front are what is computed, and back
pub reads-computed : (o : Opening) (rest : List Record) (rows : List Row) → Reads o rest rows → front_rows o (message_row o) 1 rest ≡ rows
reads-computed o rest rows f = follows-whole o (message_row o) 1 rest rows (reads-follows o rest rows f) (reads-length o rest rows f.reads)

pub computed-reads : (o : Opening) (rest : List Record) → length (front_rows o (message_row o) 1 rest) ≡ length rest → Reads o rest (front_rows o (message_row o) 1 rest)
computed-reads o rest e = follows-are-read o rest (front_after o rest) (follows-front o (message_row o) 1 rest) e

bad-none : (first : Record) (rest : List Record) → opening_of first ≡ None → bad_row (first ∷ rest) ≡ 1
unfolding bad_row
bad-none first rest e = ap (λ (t : Option Opening). option_map_or (λ o. 2 + length (front_rows o (message_row o) 1 rest)) t 1) e

bad-some : (first : Record) (rest : List Record) (o : Opening) → opening_of first ≡ Some o → bad_row (first ∷ rest) ≡ 2 + length (front_rows o (message_row o) 1 rest)
unfolding bad_row
bad-some first rest o e = ap (λ (t : Option Opening). option_map_or (λ o. 2 + length (front_rows o (message_row o) 1 rest)) t 1) e

bad-nil : bad_row [] ≡ 1
unfolding bad_row
bad-nil = refl

opening-cases : {P : Type 0} (o : Option Opening) → (o ≡ None → P) → ((x : Opening) → o ≡ Some x → P) → P
opening-cases None f g = f refl
opening-cases (Some x) f g = g x refl

-- the records stop being a front at the row that is computed
pub bad-meant : (records : List Record) → IsBadRow records (bad_row records)
bad-meant [] = rw bad-nil (record { before = 0; at = refl; prefix = omega arith; front = inl refl; longest = λ n small front. small })
bad-meant (first ∷ rest) = opening-cases (opening_of first) wrong good
  where
    never : (n : ℕ) → opening_of first ≡ None → IsFront (take n (first ∷ rest)) → n ≤ 0
    never zero e f = omega arith
    never (suc n) e (inl none) = cc none
    never (suc n) e (inr b) = absurd (gone (ap opening_of (cons-parts _ _ _ _ b.split).0) b.header)
      where
        gone : opening_of first ≡ opening_of b.first → opening_of b.first ≡ Some b.opening → ⊥
        gone p q = cc (e, p, q)

    wrong : opening_of first ≡ None → IsBadRow (first ∷ rest) (bad_row (first ∷ rest))
    wrong e = rw (bad-none first rest e) (record { before = 0; at = refl; prefix = omega arith; front = inl refl; longest = λ n small front. never n e front })

    longest : (o : Opening) → opening_of first ≡ Some o → (n : ℕ) → n ≤ length (first ∷ rest) → IsFront (take n (first ∷ rest)) → n ≤ suc (length (front_after o rest))
    longest o h zero small front = omega arith
    longest o h (suc n) small (inl none) = cc none
    longest o h (suc n) small (inr b) =
        let (rows, f) = begun-reads (first ∷ take n rest) first (take n rest) o refl h b in
        let size = reads-length o (take n rest) rows f.reads in
        let l : length (take n rest) ≡ n = length-take-le n rest (omega (arith, small)) in
        let most = follows-least o (message_row o) 1 rest rows (follows-all o (message_row o) 1 n rest rows (reads-follows o (take n rest) rows f)) in
        omega (arith, size, l, most)

    good : (o : Opening) → opening_of first ≡ Some o → IsBadRow (first ∷ rest) (bad_row (first ∷ rest))
    good o h =
        let rows = front_after o rest in
        let f = follows-front o (message_row o) 1 rest in
        let small = follows-length o (message_row o) 1 rest rows f in
        let l : length (take (length rows) rest) ≡ length rows = length-take-le (length rows) rest small in
        rw (bad-some first rest o h) (record {
          before = suc (length rows);
          at = omega arith;
          prefix = omega (arith, small);
          front = inr (reads-begun (first ∷ take (length rows) rest) first (take (length rows) rest) o rows refl h (follows-are-read o (take (length rows) rest) rows (follows-take o (message_row o) 1 rest rows f) (sym l)));
          longest = longest o h;
        })

-- a list of records has one bad row
pub one-bad : (records : List Record) (p q : ℕ) → IsBadRow records p → IsBadRow records q → p ≡ q
one-bad records p q b d =
    let l = d.longest b.before b.prefix b.front in
    let m = b.longest d.before d.prefix d.front in
    let x = b.at in
    let y = d.at in
    omega (arith, l, m, x, y)
