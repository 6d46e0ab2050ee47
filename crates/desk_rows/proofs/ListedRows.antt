-- What the tables list: the agreements in the order of their names, and the text at a number.
use Rattle.std.proofs.Common.{◌≡◌, ◌<◌, ◌≤◌, ◌⊎◌, inl, inr, ℕ, Bool, true, false, List, [], ◌∷◌, Option, Some, None, refl, sym, ap, ◌∙◌, subst, cond, map, arith}
use Rattle.std.specs.Prelude.{T, ◌&&◌, bytes_eq, find, option_map}
use Rattle.std.specs.Cmp.Lexicographic.{slice_cmp}
use Rattle.std.specs.FinMap as fin
use Rattle.std.specs.FinMap.{entries, entries-from_sorted, from_sorted, get-from_sorted, is_sorted}
use Rattle.std.specs.FinMap.Entries.{below_all}
use Rattle.std.specs.List.{AllByRecursion}
use Rattle.std.specs.List.Sorted.{IsPermutation, IsStrictlySortedBy}
use Rattle.std.specs.Ordering.{is_eq, is_lt, nat_cmp}
use Rattle.std.specs.declared.cmp.Ordering.TheVariants.{Less}
use Rattle.std.proofs.lemmas.Bool.{cases_lt}
use Rattle.std.proofs.lemmas.List.Sorted.{Contains-permutation, IsPermutation-sym}
use Rattle.std.proofs.lemmas.Slice.Eq.{bytes_eq-Decides}
use Rattle.desk_tables.specs.Rows.{AreSeriesInOrder, DeskRows, is_named}
use Rattle.desk_tables.specs.declared.series.SeriesRow.{SeriesRow}
use Rattle.onix_records.specs.declared.agreements.Agreement.{Agreement}
use Rattle.series_rules.proofs.Elements.{In, contains_in, in_contained}
use Rattle.series_rules.proofs.GapLemmas.{none_below_first}
use Rattle.series_rules.proofs.OfferLemmas.{equal_maps, get-by_name, same_test}
use Rattle.series_rules.specs.Agreements.{agreements_of, named}
use Rattle.series_rules.specs.Offers.{by_name}
use Rattle.series_rules.specs.declared.requests.Request.{Request}
use Rattle.desk_rows.specs.Desks.{OnlyAnswers}
use Rattle.desk_rows.specs.Listing.{NamesRise}
use Rattle.series_rules.specs.Listing.{agreements_by_name, text_after}
use Rattle.desk_rows.specs.Stands.{StandsFor, stored_text}
use Rattle.desk_rows.specs.declared.answers_at.Stored.{Stored}
use Rattle.desk_rows.proofs.Agreed.{none_under}
use Rattle.desk_rows.proofs.Fronts.{stands_front, stored_is}
use Rattle.desk_rows.proofs.Lookups.{find_is, same_bytes}
use Rattle.series_rules.proofs.AgreementLemmas.{named_has_name}

-- ---- the agreements

abbrev agreement_in : SeriesRow → Agreement
agreement_in r = r.agreement

abbrev entry : SeriesRow → List ℕ × Agreement
entry r = (r.agreement.name, r.agreement)

below_entries : (k : List ℕ) (rows : List SeriesRow) → AllByRecursion (λ n. slice_cmp nat_cmp k n ≡ Less) (map (λ (r : SeriesRow). r.agreement.name) rows) → below_all (slice_cmp nat_cmp) k (map entry rows) ≡ true
below_entries k [] all = refl
below_entries k (r ∷ rows) all = ap (λ o. is_lt o && below_all (slice_cmp nat_cmp) k (map entry rows)) all.0 ∙ below_entries k rows all.1

-- rows whose names rise are the entries of a map
sorted_entries : (rows : List SeriesRow) → NamesRise rows → is_sorted (slice_cmp nat_cmp) (map entry rows) ≡ true
unfolding IsStrictlySortedBy
sorted_entries [] rise = refl
sorted_entries (r ∷ rows) rise = ap (λ b. b && is_sorted (slice_cmp nat_cmp) (map entry rows)) (below_entries r.agreement.name rows rise.0) ∙ sorted_entries rows rise.1

is_true : (b : Bool) → b ≡ true → T b
is_true true e = tt
is_true false e = absurd cc

find_entry : (name : List ℕ) (rows : List SeriesRow) → fin.find (slice_cmp nat_cmp) name (map entry rows) ≡ option_map agreement_in (find (is_named name) rows)
find_entry name [] = refl
find_entry name (r ∷ rows) =
    ap (λ b. cond b (Some r.agreement) (fin.find (slice_cmp nat_cmp) name (map entry rows))) (same_test r.agreement.name name)
    ∙ ap (cond (bytes_eq r.agreement.name name) (Some r.agreement)) (find_entry name rows)
    ∙ by (bytes_eq r.agreement.name name)
  where
    by : (b : Bool) → cond b (Some r.agreement) (option_map agreement_in (find (is_named name) rows)) ≡ option_map agreement_in (cond b (Some r) (find (is_named name) rows))
    by true = refl
    by false = refl

-- a row is found by its name where names rise
behind : (k : List ℕ) (rows : List SeriesRow) → AllByRecursion (λ n. slice_cmp nat_cmp k n ≡ Less) (map (λ (r : SeriesRow). r.agreement.name) rows) → (r : SeriesRow) → In r rows → slice_cmp nat_cmp k r.agreement.name ≡ Less
behind k [] all r m = absurd m
behind k (x ∷ rows) all r (inl same) = subst (λ (y : SeriesRow). slice_cmp nat_cmp k y.agreement.name ≡ Less) same all.0
behind k (x ∷ rows) all r (inr m) = behind k rows all.1 r m

found_rising : (rows : List SeriesRow) → NamesRise rows → (r : SeriesRow) → In r rows → find (is_named r.agreement.name) rows ≡ Some r
unfolding IsStrictlySortedBy
found_rising [] rise r m = absurd m
found_rising (x ∷ rows) rise r (inl same) =
    subst (λ (y : SeriesRow). find (is_named y.agreement.name) (x ∷ rows) ≡ Some y) same
    (ap (λ b. cond b (Some x) (find (is_named x.agreement.name) rows)) (same_bytes x.agreement.name))
found_rising (x ∷ rows) rise r (inr m) =
    let other : bytes_eq x.agreement.name r.agreement.name ≡ false = turned x.agreement.name r.agreement.name (behind x.agreement.name rows rise.0 r m) in
    ap (λ b. cond b (Some x) (find (is_named r.agreement.name) rows)) other ∙ found_rising rows rise.1 r m
  where
    turned : (k n : List ℕ) → slice_cmp nat_cmp k n ≡ Less → bytes_eq k n ≡ false
    turned k n less = by (bytes_eq k n) refl
      where
        by : (b : Bool) → bytes_eq k n ≡ b → b ≡ false
        by false e = refl
        by true e =
            let same : k ≡ n = (bytes_eq-Decides k n).0 e in
            let tied : is_eq (slice_cmp nat_cmp k n) ≡ true = same_test n k ∙ ap (bytes_eq n) same ∙ same_bytes n in
            let apart : is_eq (slice_cmp nat_cmp k n) ≡ false = ap is_eq less in
            absurd cc

found_contains : (p : SeriesRow → Bool) (rows : List SeriesRow) (r : SeriesRow) → find p rows ≡ Some r → In r rows
found_contains p [] r e = absurd cc
found_contains p (x ∷ rows) r e = by (found_contains p rows r) (p x) e
  where
    by : (find p rows ≡ Some r → In r rows) → (b : Bool) → cond b (Some x) (find p rows) ≡ Some r → In r (x ∷ rows)
    by rest true is = let same : x ≡ r = cc in inl same
    by rest false is = inr (rest is)

none_passes : (p : SeriesRow → Bool) (rows : List SeriesRow) (r : SeriesRow) → In r rows → p r ≡ true → find p rows ≡ None → ⊥
none_passes p [] r m is none = m
none_passes p (x ∷ rows) r (inl same) is none =
    let first : find p (x ∷ rows) ≡ Some x = ap (λ b. cond b (Some x) (find p rows)) (ap p same ∙ is) in
    absurd cc
none_passes p (x ∷ rows) r (inr m) is none = by (none_passes p rows r m is) (p x) none
  where
    by : (find p rows ≡ None → ⊥) → (b : Bool) → cond b (Some x) (find p rows) ≡ None → ⊥
    by rest true e = absurd cc
    by rest false e = rest e

-- in either order a name has the same row, where names rise in the one
found_alike : (xs ys : List SeriesRow) → IsPermutation xs ys → NamesRise ys → (name : List ℕ) → find (is_named name) ys ≡ find (is_named name) xs
found_alike xs ys shuffled rise name = by (find (is_named name) xs) refl
  where
    at : (r : SeriesRow) → find (is_named name) xs ≡ Some r → find (is_named name) ys ≡ Some r
    at r e =
        let there : In r ys = in_contained ys r (Contains-permutation xs ys r shuffled (contains_in xs r (found_contains (is_named name) xs r e))) in
        let same : r.agreement.name ≡ name = (bytes_eq-Decides r.agreement.name name).0 (find_is (is_named name) xs r e) in
        ap (λ n. find (is_named n) ys) (sym same) ∙ found_rising ys rise r there

    none : find (is_named name) xs ≡ None → (o : Option SeriesRow) → find (is_named name) ys ≡ o → o ≡ None
    none e None is = refl
    none e (Some r) is =
        absurd (none_passes (is_named name) xs r (in_contained xs r (Contains-permutation ys xs r (IsPermutation-sym xs ys shuffled) (contains_in ys r (found_contains (is_named name) ys r is)))) (find_is (is_named name) ys r is) e)

    by : (o : Option SeriesRow) → find (is_named name) xs ≡ o → find (is_named name) ys ≡ find (is_named name) xs
    by (Some r) e = at r e ∙ sym e
    by None e = none e (find (is_named name) ys) refl ∙ sym e

values : (rows : List SeriesRow) → map (λ (e : List ℕ × Agreement). e.1) (map entry rows) ≡ map agreement_in rows
values [] = refl
values (r ∷ rows) = ap (λ as'. r.agreement ∷ as') (values rows)

agreements_are : (rows : DeskRows) (L : List Request) (series : List SeriesRow) → StandsFor rows L → AreSeriesInOrder rows series → NamesRise series → map agreement_in series ≡ agreements_by_name L
agreements_are rows L series stands listed rise =
    let es = map entry series in
    let sorted = is_true _ (sorted_entries series rise) in
    let alike = λ (name : List ℕ). get-from_sorted (slice_cmp nat_cmp) es name sorted ∙ find_entry name series
    ∙ ap (option_map agreement_in) (found_alike rows.series series listed.0 rise name)
    ∙ stands.by_name name ∙ sym (get-by_name (agreements_of L) name) in
    let same = equal_maps (from_sorted es) (by_name (agreements_of L)) alike in
    sym (values series) ∙ ap (map (λ (e : List ℕ × Agreement). e.1)) (sym (entries-from_sorted (slice_cmp nat_cmp) es sorted) ∙ ap entries same)

pub lists_agreements : (rows now : DeskRows) (series : List SeriesRow) (agreements : List Agreement) → now ≡ rows → AreSeriesInOrder rows series → NamesRise series → agreements ≡ map agreement_in series → OnlyAnswers agreements_by_name rows agreements now
lists_agreements rows now series agreements left listed rise are = (left, λ L stands. are ∙ agreements_are rows L series stands listed rise)

-- ---- the text at a number

no_text : (rows : DeskRows) (L : List Request) (s : List ℕ) (n : ℕ) → StandsFor rows L → named (agreements_of L) s ≡ None → stored_text s n rows ≡ text_after s n L
no_text rows L s n stands none =
    let nothing = stands.others s none in
    rw (nothing.applied n, nothing.held n, none_under L s n none) refl

text_below : (rows : DeskRows) (L : List Request) (a : Agreement) (n : ℕ) → StandsFor rows L → named (agreements_of L) a.name ≡ Some a → n < a.first → stored_text a.name n rows ≡ text_after a.name n L
text_below rows L a n stands agreed lt =
    let s = stands_front rows L a stands agreed in
    rw (s.none_applied n lt, s.none_held n (omega (arith, lt)), none_below_first L a agreed n lt) refl

text_of_series : (rows : DeskRows) (L : List Request) (a : Agreement) (n : ℕ) → StandsFor rows L → named (agreements_of L) a.name ≡ Some a → stored_text a.name n rows ≡ text_after a.name n L
text_of_series rows L a n stands agreed = by (cases_lt n a.first)
  where
    by : (n < a.first) ⊎ (a.first ≤ n) → stored_text a.name n rows ≡ text_after a.name n L
    by (inl lt) = text_below rows L a n stands agreed lt
    by (inr le) = stored_is rows L a n stands agreed le

pub text_stands : (rows : DeskRows) (L : List Request) (s : List ℕ) (n : ℕ) → StandsFor rows L → stored_text s n rows ≡ text_after s n L
text_stands rows L s n stands = by (named (agreements_of L) s) refl
  where
    by : (o : Option Agreement) → named (agreements_of L) s ≡ o → stored_text s n rows ≡ text_after s n L
    by None none = no_text rows L s n stands none
    by (Some a) is =
        let same = named_has_name (agreements_of L) s a is in
        subst (λ x. stored_text x n rows ≡ text_after x n L) same (text_of_series rows L a n stands (ap (named (agreements_of L)) same ∙ is))

-- the text of what the tables have there is told
pub tells_text : (s : List ℕ) (n : ℕ) (rows now : DeskRows) (stored : Option Stored) (text : Option (List ℕ)) → now ≡ rows → text ≡ option_map (λ (x : Stored). x.text) stored
    → option_map (λ (x : Stored). x.text) stored ≡ stored_text s n rows → OnlyAnswers (text_after s n) rows text now
tells_text s n rows now stored text left is kept = (left, λ L stands. is ∙ kept ∙ text_stands rows L s n stands)
