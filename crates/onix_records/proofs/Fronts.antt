-- Fronts of a list of records, and the messages among them.
use Rattle.std.proofs.Common.{◌≡◌, ◌≤◌, ◌<◌, ◌++◌, ◌∷◌, ◌∙◌, ◌+◌, ◌-◌, inl, inr, [], ℕ, zero, suc, List, true, false, Some, None, refl, sym, ap, arith, length, length-append, take, drop, get_or, map, subst}
use Rattle.std.proofs.lemmas.List.{drop_more, length-take-le, map-append, take-append-drop, take_all, take_more}
use Rattle.std.proofs.Math.Seq.{take-append_seam, take-append-add}
use Rattle.std.proofs.lemmas.Bool.{cases_lt, eqb-true}
use Rattle.std.specs.List.{AllByRecursion, flat_map}
use Rattle.std.proofs.lemmas.Option.{same_Some}
use Rattle.onix_records.specs.Draft.{DraftHasDetails, Stops, Takes, allows, draft_rows, has_ended}
use Rattle.onix_records.specs.Grammar.{BeginsMessage, CountsAfter, IsBadRow, IsFront, IsMessage, KeepsOrder, is_counted, may_follow}
use Rattle.onix_records.specs.PartRows.{SuppliesHaveDetails, content_rows, product_rows, rows_after}
use Rattle.onix_records.specs.Opening.{opening_of}
use Rattle.onix_records.specs.Row.{message_row, row_of}
use Rattle.onix_records.specs.declared.draft.Draft.{Draft}
use Rattle.onix_records.specs.declared.draft.Part.{Part}
use Rattle.onix_records.specs.declared.draft.Part.TheVariants as part
use Rattle.onix_records.specs.declared.row.RowFault.TheVariants as fault
use Rattle.onix_records.specs.declared.parts.Header.{Header}
use Rattle.onix_records.specs.declared.parts.Product.{Product}
use Rattle.onix_records.specs.declared.row.Opening.{Opening}
use Rattle.onix_records.specs.declared.row.Row.{Row}
use Rattle.onix_records.specs.declared.row.Row.TheVariants as row
use Rattle.onix_records.proofs.Orders.{counts-at, counts-push, last-push, last_of, message-counts, message-order, order-at, order-push}

abbrev Record : Type 0
Record = List (List ℕ)

pub cons-parts : {A : Type 0} (a b : A) (xs ys : List A) → a ∷ xs ≡ b ∷ ys → (a ≡ b) × (xs ≡ ys)
cons-parts a b xs ys e = (cc e, cc e)

pub same-map : (xs ys : List Row) → map Some xs ≡ map Some ys → xs ≡ ys
same-map [] [] e = refl
same-map [] (y ∷ ys) e = cc e
same-map (x ∷ xs) [] e = cc e
same-map (x ∷ xs) (y ∷ ys) e = let p = cons-parts _ _ _ _ e in cc (same_Some x y p.0, same-map xs ys p.1)

-- these records, which come after the first, are these rows, which keep the table
pub record Reads (o : Opening) (done : List Record) (rows : List Row) : Type 0 where
  pub within : length done < 20000
  pub reads : map (row_of o) done ≡ map Some rows
  pub order : KeepsOrder (message_row o ∷ rows)
  pub counts : CountsAfter 1 rows

-- the rows of records in two parts
reads-split : (o : Opening) (done tail : List Record) (rows all : List Row) → map (row_of o) done ≡ map Some rows → map (row_of o) (done ++ tail) ≡ map Some all
    → (rest : List Row) × (all ≡ rows ++ rest) × (map (row_of o) tail ≡ map Some rest)
reads-split o [] tail [] all d h = (all, refl, h)
reads-split o [] tail (x ∷ rows) all d h = cc d
reads-split o (r ∷ done) tail [] all d h = cc d
reads-split o (r ∷ done) tail (x ∷ rows) [] d h = cc h
reads-split o (r ∷ done) tail (x ∷ rows) (y ∷ all) d h =
    let p = cons-parts _ _ _ _ d in
    let q = cons-parts _ _ _ _ h in
    let same = same_Some x y (sym p.0 ∙ q.0) in
    let (rest, e, f) = reads-split o done tail rows all p.1 q.1 in
    (rest, cc (same, e), f)

pub reads-length : (o : Opening) (done : List Record) (rows : List Row) → map (row_of o) done ≡ map Some rows → length rows ≡ length done
reads-length o [] [] d = refl
reads-length o [] (x ∷ rows) d = cc d
reads-length o (r ∷ done) [] d = cc d
reads-length o (r ∷ done) (x ∷ rows) d = ap suc (reads-length o done rows (cons-parts _ _ _ _ d).1)

reads-first : (o : Opening) (r : Record) (more : List Record) (rest : List Row) → map (row_of o) (r ∷ more) ≡ map Some rest
    → (x : Row) × (others : List Row) × (rest ≡ x ∷ others) × (row_of o r ≡ Some x)
reads-first o r more [] e = cc e
reads-first o r more (x ∷ others) e = (x, others, refl, (cons-parts _ _ _ _ e).0)

-- the record after those of a front, in a longer front
front-next : (o : Opening) (done : List Record) (r : Record) (more : List Record) (rows others : List Row) → Reads o done rows → Reads o (done ++ r ∷ more) others
    → (x : Row) × (row_of o r ≡ Some x) × (is_counted x (length done + 1) ≡ true) × (may_follow (last_of (message_row o) rows) x ≡ true) × (length done < 19999)
front-next o done r more rows others f w =
    let (rest, all, tail) = reads-split o done (r ∷ more) rows others f.reads w.reads in
    let (x, after, e, reads) = reads-first o r more rest tail in
    let whole : others ≡ rows ++ x ∷ after = all ∙ ap (λ (t : List Row). rows ++ t) e in
    let order = subst (λ (t : List Row). KeepsOrder (message_row o ∷ t)) whole w.order in
    let counts = subst (λ (t : List Row). CountsAfter 1 t) whole w.counts in
    let size = reads-length o done rows f.reads in
    let l = length-append done (r ∷ more) in
    let within = w.within in
    let counted = counts-at 1 rows x after counts in
    let at : 1 + length rows ≡ length done + 1 = omega (arith, size) in
    (x, reads, subst (λ (n : ℕ). is_counted x n ≡ true) at counted, order-at (message_row o) rows x after order, omega (arith, within, l))

-- one record more
front-push : (o : Opening) (done : List Record) (r : Record) (rows : List Row) (x : Row) → Reads o done rows → row_of o r ≡ Some x → is_counted x (length done + 1) ≡ true
    → may_follow (last_of (message_row o) rows) x ≡ true → length done < 19999 → Reads o (done ++ r ∷ []) (rows ++ x ∷ [])
front-push o done r rows x f reads counted follows less =
    let size = reads-length o done rows f.reads in
    let at : length done + 1 ≡ 1 + length rows = omega (arith, size) in
    let l = length-append done (r ∷ []) in
    record {
      within = omega (arith, l);
      reads = map-append (row_of o) done (r ∷ []) ∙ ap (λ t. t ++ (row_of o r ∷ [])) f.reads ∙ ap (λ t. map Some rows ++ t ∷ []) reads ∙ sym (map-append Some rows (x ∷ []));
      order = order-push (message_row o) rows x f.order follows;
      counts = counts-push 1 rows x f.counts (subst (λ (n : ℕ). is_counted x n ≡ true) at counted);
    }

-- A list of records that begins with a Message row.

pub begun-reads : (records : List Record) (first : Record) (rest : List Record) (o : Opening) → records ≡ first ∷ rest → opening_of first ≡ Some o → BeginsMessage records
    → (rows : List Row) × Reads o rest rows
begun-reads records first rest o e h b =
    let p = cons-parts _ _ _ _ (sym e ∙ b.split) in
    let same : b.opening ≡ o = same_Some _ _ (sym b.header ∙ ap opening_of (sym p.0) ∙ h) in
    let size : length records ≡ length rest + 1 = rw e (omega arith) in
    let within = b.within in (
      b.rows,
      record {
        within = omega (arith, size, within);
        reads = rw (p.1, ← same) b.reads;
        order = subst (λ (x : Opening). KeepsOrder (message_row x ∷ b.rows)) same b.order;
        counts = b.counts;
      },
    )

pub reads-begun : (records : List Record) (first : Record) (rest : List Record) (o : Opening) (rows : List Row) → records ≡ first ∷ rest → opening_of first ≡ Some o → Reads o rest rows
    → BeginsMessage records
reads-begun records first rest o rows e h f =
    let size : length records ≡ length rest + 1 = rw e (omega arith) in
    let within = f.within in
    record {
      within = omega (arith, size, within);
      first = first;
      rest = rest;
      split = e;
      opening = o;
      header = h;
      rows = rows;
      reads = f.reads;
      order = f.order;
      counts = f.counts;
    }

-- the rows of a message keep the table
pub message-reads : (o : Opening) (rest : List Record) (c : List Product) → length rest < 20000 → map (row_of o) rest ≡ map Some (rows_after c) → AllByRecursion SuppliesHaveDetails c → Reads o rest (rows_after c)
message-reads o rest c within reads details = record {
  within = within;
  reads = reads;
  order = message-order o.header c (1 + length (content_rows c)) details;
  counts = message-counts c;
}

pub message-begins : (records : List Record) (h : Header) (c : List Product) → IsMessage records h c → BeginsMessage records
message-begins records h c m =
    let size : length records ≡ length m.rest + 1 = rw m.split (omega arith) in
    let within = m.within in
    reads-begun records m.first m.rest (record { form = m.form; header = h }) (rows_after c) m.split m.header
    (message-reads (record { form = m.form; header = h }) m.rest c (omega (arith, size, within)) m.reads m.details)

pub fronts : (records : List Record) (h : Header) (c : List Product) → IsMessage records h c → IsFront records
fronts records h c m = inr (message-begins records h c m)

-- these records are no message
abbrev pub IsNoMessage : List Record → Type 0
IsNoMessage records = (h : Header) (c : List Product) → IsMessage records h c → ⊥

-- where and why records stop being a message
abbrev pub Breaks : List Record → ℕ → Type 0
Breaks records number = IsNoMessage records × IsBadRow records number

least : (n k : ℕ) → (k < n → ⊥) → n ≤ k
least n k never = elim (cases_lt k n) [ inl less ↦ absurd (never less) | inr small ↦ small ]

never-cons : {A : Type 0} (xs ys : List A) (y : A) → xs ≡ y ∷ ys → xs ≡ [] → ⊥
never-cons xs ys y e none = cc (sym e ∙ none)

-- where a front can't go on, the records are no message
stops-at : (records : List Record) (first : Record) (rest : List Record) (o : Opening) (done : List Record) (r : Record) (more : List Record) (rows : List Row) (number : ℕ)
    → records ≡ first ∷ rest → opening_of first ≡ Some o → rest ≡ done ++ r ∷ more → Reads o done rows
    → ((x : Row) → row_of o r ≡ Some x → is_counted x (length done + 1) ≡ true → may_follow (last_of (message_row o) rows) x ≡ true → length done < 19999 → ⊥)
    → number ≡ length done + 2 → Breaks records number
stops-at records first rest o done r more rows number split header whole f never at =
    let none : (tail : List Record) (all : List Record) → all ≡ first ∷ (done ++ r ∷ tail) → BeginsMessage all → ⊥ = λ tail all e b.
    let (others, w) = begun-reads all first (done ++ r ∷ tail) o e header b in
    let (x, reads, counted, follows, less) = front-next o done r tail rows others f w in
    never x reads counted follows less in
    let all : records ≡ first ∷ (done ++ r ∷ more) = split ∙ ap (λ (t : List Record). first ∷ t) whole in
    let l = length-append done (r ∷ more) in
    let cut : (n : ℕ) → length done + 1 < n → take n records ≡ first ∷ (done ++ r ∷ take (n - (length done + 2)) more) = λ n less.
    let m : ℕ = n - (length done + 2) in
    let e : n ≡ suc (length done + suc m) = omega arith in
    ap (take n) all ∙ ap (λ (k : ℕ). take k (first ∷ (done ++ r ∷ more))) e ∙ ap (λ (t : List Record). first ∷ t) (take-append-add done (r ∷ more) (suc m)) in (
      (λ g c m. none more records all (message-begins records g c m)),
      record {
        before = suc (length done);
        at = omega arith;
        prefix = rw all (omega (arith, l));
        front = inr (reads-begun (take (suc (length done)) records) first done o rows (ap (take (suc (length done))) all ∙ ap (λ (t : List Record). first ∷ t) (take-append_seam done (r ∷ more))) header f);
        longest = λ n small front. least n (suc (length done)) (λ less.
            let e = cut n (omega arith) in
            elim front [
              | inl empty ↦ never-cons _ _ _ e empty
              | inr b ↦ none (take (n - (length done + 2)) more) (take n records) e b
            ]);
      },
    )

-- a list that doesn't begin with a Message row
stops-first : (r : Record) (more : List Record) → opening_of r ≡ None → Breaks (r ∷ more) 1
stops-first r more wrong = (
  (λ h c m. below (r ∷ more) more refl (message-begins (r ∷ more) h c m)),
  record {
    before = 0;
    at = refl;
    prefix = omega arith;
    front = inl refl;
    longest = λ n small front. least n 0 (λ less. long n less front);
  },
)
  where
    below : (records rest : List Record) → records ≡ r ∷ rest → BeginsMessage records → ⊥
    below records rest e b = cc (sym wrong, b.header, ap opening_of (cons-parts _ _ _ _ (sym e ∙ b.split)).0)

    long : (n : ℕ) → 0 < n → IsFront (take n (r ∷ more)) → ⊥
    long zero less f = omega arith
    long (suc n) less (inl none) = cc none
    long (suc n) less (inr b) = below (r ∷ take n more) (take n more) refl b

stops-empty : Breaks [] 1
stops-empty = (
  (λ h c m. cc m.split),
  record { before = 0; at = refl; prefix = omega arith; front = inl refl; longest = λ n small front. small },
)

-- a front that doesn't end in an end
stops-after : (records : List Record) (first : Record) (rest : List Record) (o : Opening) (rows : List Row) (number : ℕ)
    → records ≡ first ∷ rest → opening_of first ≡ Some o → Reads o rest rows → ((n : ℕ) → last_of (message_row o) rows ≡ row.EndMessage n → ⊥)
    → number ≡ length rest + 2 → Breaks records number
stops-after records first rest o rows number split header f never at =
    let size : length records ≡ length rest + 1 = rw split (omega arith) in (
      (λ g c m.
          let p = cons-parts _ _ _ _ (sym split ∙ m.split) in
          let same : record { form = m.form; header = g } ≡ o = same_Some _ _ (sym m.header ∙ ap opening_of (sym p.0) ∙ header) in
          let reads : map (row_of o) rest ≡ map Some (rows_after c) = rw (p.1, ← same) m.reads in
          let e = same-map rows (rows_after c) (sym f.reads ∙ reads) in
          never (1 + length (content_rows c)) (ap (λ (t : List Row). last_of (message_row o) t) e ∙ last-push (message_row o) (content_rows c) (row.EndMessage (1 + length (content_rows c))))),
      record {
        before = length records;
        at = omega (arith, size);
        prefix = omega arith;
        front = inr (reads-begun (take (length records) records) first rest o rows (take_all (length records) records (omega arith) ∙ split) header f);
        longest = λ n small front. small;
      },
    )

-- a front that ends in an end
pub is-message : (records : List Record) (first : Record) (rest : List Record) (o : Opening) (ps : List Product) (n : ℕ)
    → records ≡ first ∷ rest → opening_of first ≡ Some o → Reads o rest (flat_map product_rows ps ++ row.EndMessage n ∷ []) → AllByRecursion SuppliesHaveDetails ps → IsMessage records o.header ps
is-message records first rest o ps n split header f details =
    let counted = counts-at 1 (flat_map product_rows ps) (row.EndMessage n) [] f.counts in
    let e : n ≡ 1 + length (flat_map product_rows ps) = eqb-true n (1 + length (flat_map product_rows ps)) counted in
    let size : length records ≡ length rest + 1 = rw split (omega arith) in
    let within = f.within in
    record {
      within = omega (arith, size, within);
      first = first;
      rest = rest;
      split = split;
      form = o.form;
      header = header;
      reads = f.reads ∙ ap (λ (k : ℕ). map Some (flat_map product_rows ps ++ row.EndMessage k ∷ [])) e;
      details = details;
    }

-- the records so far are a front, which the draft holds
pub record Holds (o : Opening) (done : List Record) (d : Draft) : Type 0 where
  pub front : Reads o done (draft_rows d)
  pub next : (y : Row) → allows d.part y ≡ may_follow (last_of (message_row o) (draft_rows d)) y
  pub details : DraftHasDetails d

holds-push : (o : Opening) (done : List Record) (r : Record) (d new : Draft) → Holds o done d → Takes (row_of o r) d (length done + 1) new → length done < 19999 → Holds o (done ++ r ∷ []) new
holds-push o done r d new s t less =
    let follows : may_follow (last_of (message_row o) (draft_rows d)) t.added ≡ true = sym (s.next t.added) ∙ t.adds.allowed in
    let last : last_of (message_row o) (draft_rows new) ≡ t.added = ap (λ (rows : List Row). last_of (message_row o) rows) t.adds.rows ∙ last-push (message_row o) (draft_rows d) t.added in
    record {
      front = subst (λ (rows : List Row). Reads o (done ++ r ∷ []) rows) (sym t.adds.rows) (front-push o done r (draft_rows d) t.added s.front t.reads t.counted follows less);
      next = λ y. t.adds.next y ∙ ap (λ (a : Row). may_follow a y) (sym last);
      details = t.adds.details;
    }

-- The steps of reading a message.

pub begins : (o : Opening) (rest : List Record) (products : List Product) → products ≡ [] → Holds o (take 0 rest) (record { products = products; part = part.Nothing })
begins o rest products none =
    rw none (record {
      front = record { within = omega arith; reads = refl; order = tt; counts = tt };
      next = starts;
      details = (tt, tt);
    })
  where
    starts : (y : Row) → allows part.Nothing y ≡ may_follow (message_row o) y
    starts (row.Message g) = refl
    starts (row.Product p) = refl
    starts (row.ProductSupply s) = refl
    starts (row.SupplyDetail d) = refl
    starts (row.Price p) = refl
    starts (row.EndMessage n) = refl

pub goes-on : (o : Opening) (rest : List Record) (i : ℕ) (r : Record) (d new : Draft) → r ≡ get_or rest i r → i < length rest
    → Holds o (take i rest) d → i < 19999 → Takes (row_of o r) d (i + 1) new → Holds o (take (i + 1) rest) new
goes-on o rest i r d new at less s small t =
    let more : take (i + 1) rest ≡ take i rest ++ r ∷ [] = take_more rest i r less ∙ ap (λ (x : Record). take i rest ++ x ∷ []) (sym at) in
    let l : length (take i rest) ≡ i = length-take-le i rest (omega arith) in
    rw more (holds-push o (take i rest) r d new s (rw l t) (omega (arith, l)))

part-of : (rest : List Record) (i : ℕ) (r : Record) → r ≡ get_or rest i r → i < length rest → rest ≡ take i rest ++ r ∷ drop (i + 1) rest
part-of rest i r at less =
    sym (take-append-drop i rest) ∙ ap (λ (t : List Record). take i rest ++ t) (drop_more rest i r less ∙ ap (λ (x : Record). x ∷ drop (i + 1) rest) (sym at))

pub stops-in : (records : List Record) (first : Record) (rest : List Record) (o : Opening) (i : ℕ) (r : Record) (d : Draft) (number : ℕ) → records ≡ first ∷ rest → opening_of first ≡ Some o
    → r ≡ get_or rest i r → i < length rest → Holds o (take i rest) d → Stops (row_of o r) d (i + 1) fault.Wrong → number ≡ i + 2 → Breaks records number
stops-in records first rest o i r d number split header at less s stop p =
    let l : length (take i rest) ≡ i = length-take-le i rest (omega arith) in
    stops-at records first rest o (take i rest) r (drop (i + 1) rest) (draft_rows d) number split header (part-of rest i r at less) s.front
    (λ x reads counted follows small. stop x reads (rw l at counted) (s.next x ∙ follows))
    (omega (arith, l))

pub stops-many : (records : List Record) (first : Record) (rest : List Record) (o : Opening) (i : ℕ) (r : Record) (d : Draft) → records ≡ first ∷ rest → opening_of first ≡ Some o
    → r ≡ get_or rest i r → i < length rest → Holds o (take i rest) d → 19999 ≤ i → Breaks records 20001
stops-many records first rest o i r d split header at less s many =
    let l : length (take i rest) ≡ i = length-take-le i rest (omega arith) in
    let within = s.front.within in
    stops-at records first rest o (take i rest) r (drop (i + 1) rest) (draft_rows d) 20001 split header (part-of rest i r at less) s.front
    (λ x reads counted follows small. omega (arith, l))
    (omega (arith, l, within))

-- whatever part stands open allows a row, unless the message has ended
some-next : (p : Part) → ((n : ℕ) → p ≡ part.Ended n → ⊥) → (y : Row) × (allows p y ≡ true)
some-next part.Nothing never = (row.EndMessage 0, refl)
some-next (part.InProduct p) never = (row.EndMessage 0, refl)
some-next (part.InSupply p s None) never = (row.SupplyDetail (record { supplier = record { role = []; party = None; name = [] }; availability = []; unpriced = None; prices = [] }), refl)
some-next (part.InSupply p s (Some d)) never = (row.EndMessage 0, refl)
some-next (part.Ended n) never = absurd (never n refl)

-- the end that a draft has
pub its-end : (p : Part) → has_ended p ≡ true → (n : ℕ) × (p ≡ part.Ended n)
its-end part.Nothing e = cc e
its-end (part.InProduct p) e = cc e
its-end (part.InSupply p s o) e = cc e
its-end (part.Ended n) e = (n, refl)

pub no-end : (p : Part) → has_ended p ≡ false → (n : ℕ) → p ≡ part.Ended n → ⊥
no-end p e n is = cc (sym e ∙ ap has_ended is)

pub stops-end : (records : List Record) (first : Record) (rest : List Record) (o : Opening) (k : ℕ) (d : Draft) (number : ℕ) → records ≡ first ∷ rest → opening_of first ≡ Some o
    → Holds o (take k rest) d → k ≡ length rest → ((n : ℕ) → d.part ≡ part.Ended n → ⊥) → number ≡ k + 2 → Breaks records number
stops-end records first rest o k d number split header s e never p =
    let front = subst (λ (t : List Record). Reads o t (draft_rows d)) (take_all k rest (omega arith)) s.front in
    stops-after records first rest o (draft_rows d) number split header front
    (λ n last. let (y, allowed) = some-next d.part never in cc (sym (s.next y) ∙ allowed, ap (λ (a : Row). may_follow a y) last, ends n y))
    (omega arith)
  where
    ends : (n : ℕ) (y : Row) → may_follow (row.EndMessage n) y ≡ false
    ends n (row.Message h) = refl
    ends n (row.Product p) = refl
    ends n (row.ProductSupply s) = refl
    ends n (row.SupplyDetail d) = refl
    ends n (row.Price p) = refl
    ends n (row.EndMessage m) = refl

pub ends-well : (records : List Record) (first : Record) (rest : List Record) (o : Opening) (k : ℕ) (d : Draft) (n : ℕ) → records ≡ first ∷ rest → opening_of first ≡ Some o
    → Holds o (take k rest) d → k ≡ length rest → d.part ≡ part.Ended n → IsMessage records o.header d.products
ends-well records first rest o k d n split header s e ended =
    let front = subst (λ (t : List Record). Reads o t (draft_rows d)) (take_all k rest (omega arith)) s.front in
    is-message records first rest o d.products n split header (rw ended at front) s.details.0

pub stops-none : (records : List Record) → length records ≡ 0 → Breaks records 1
stops-none [] e = stops-empty
stops-none (r ∷ records) e = absurd (omega arith)

pub stops-one : (records : List Record) (first : Record) (rest : List Record) → records ≡ first ∷ rest → opening_of first ≡ None → Breaks records 1
stops-one records first rest e wrong = subst (λ (t : List Record). Breaks t 1) (sym e) (stops-first first rest wrong)
