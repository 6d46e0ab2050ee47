-- The numbers that the tables hold of a series, and the report on its gaps.
use Rattle.std.proofs.Common.{◌≡◌, ◌≤◌, ◌<◌, ◌⊎◌, inl, inr, ℕ, Bool, true, false, List, [], ◌∷◌, Option, Some, None, IsSome, refl, sym, ap, ◌∙◌, subst, cond, ◌&&◌, ◌||◌, nat_eq, arith}
use Rattle.std.specs.Prelude.{bytes_eq, filter, find, is_some, map, option_map}
use Rattle.std.specs.List.{list_any}
use Rattle.std.specs.Cmp.{IsEquivalence}
use Rattle.std.proofs.lemmas.Bool.{cases_lt}
use Rattle.std.proofs.lemmas.Bool.Decides.{nat_tests}
use Rattle.std.proofs.lemmas.List.Sorted.{All-permutation, Contains-permutation}
use Rattle.std.proofs.lemmas.Map.Views.{All-from_any, Contains-from_any}
use Rattle.desk_tables.specs.Rows.{AreHeldNumbers, DeskRows, HeldRow, is_held, is_held_in, series_at}
use Rattle.desk_tables.specs.declared.series.SeriesRow.{SeriesRow}
use Rattle.onix_records.specs.declared.agreements.Agreement.{Agreement}
use Rattle.series_rules.proofs.AgreementLemmas.{named_has_name}
use Rattle.series_rules.specs.Agreements.{agreements_of, named}
use Rattle.series_rules.specs.Answers.{gaps_answer}
use Rattle.series_rules.specs.Firsts.{first_at}
use Rattle.series_rules.proofs.FrontLemmas.{front_is, front_next}
use Rattle.series_rules.proofs.GapLemmas.{greatest_is, none_below_first}
use Rattle.series_rules.specs.Gaps.{AreHeldFrom, AreRisingFrom, gaps_of, greatest_of}
use Rattle.series_rules.specs.Series.{front_of, next_of}
use Rattle.series_rules.specs.declared.answers.GapReport.{GapReport}
use Rattle.series_rules.specs.declared.requests.Request.{Request}
use Rattle.desk_rows.specs.Desks.{OnlyAnswers, Reports}
use Rattle.desk_rows.specs.Stands.{SeriesStands, StandsFor}
use Rattle.desk_rows.specs.Texts.{standing_text}
use Rattle.desk_rows.proofs.Found.{named_row, no_row}
use Rattle.desk_rows.proofs.Fronts.{next_is, stands_front}

-- ---- the numbers that are held

abbrev numbers_in : List ℕ → List HeldRow → List ℕ
numbers_in s rows = map (λ (r : HeldRow). r.number) (filter (is_held_in s) rows)

abbrev same : ℕ → ℕ → Bool
same n m = nat_eq m n

-- a row that a look-up finds has its number in the list
listed : (s : List ℕ) (n : ℕ) (rows : List HeldRow) → is_some (find (is_held s n) rows) ≡ true → list_any (same n) (numbers_in s rows) ≡ true
listed s n [] e = absurd cc
listed s n (r ∷ rows) e = go (listed s n rows) (bytes_eq r.series s) (nat_eq r.number n) refl e
  where
    go : (is_some (find (is_held s n) rows) ≡ true → list_any (same n) (numbers_in s rows) ≡ true) → (b c : Bool) → nat_eq r.number n ≡ c → is_some (cond (b && c) (Some r) (find (is_held s n) rows)) ≡ true → list_any (same n) (map (λ (r : HeldRow). r.number) (cond b (r ∷ filter (is_held_in s) rows) (filter (is_held_in s) rows))) ≡ true
    go ih true true is found = ap (λ b. b || list_any (same n) (numbers_in s rows)) is
    go ih true false is found = ap (λ b. b || list_any (same n) (numbers_in s rows)) is ∙ ih found
    go ih false c is found = ih found

-- a number of the list has a row
found_if_listed : (s : List ℕ) (n : ℕ) (rows : List HeldRow) → list_any (same n) (numbers_in s rows) ≡ true → is_some (find (is_held s n) rows) ≡ true
found_if_listed s n [] e = absurd cc
found_if_listed s n (r ∷ rows) e = go (found_if_listed s n rows) (bytes_eq r.series s) (nat_eq r.number n) refl e
  where
    go : (list_any (same n) (numbers_in s rows) ≡ true → is_some (find (is_held s n) rows) ≡ true) → (b c : Bool) → nat_eq r.number n ≡ c → list_any (same n) (map (λ (r : HeldRow). r.number) (cond b (r ∷ filter (is_held_in s) rows) (filter (is_held_in s) rows))) ≡ true → is_some (cond (b && c) (Some r) (find (is_held s n) rows)) ≡ true
    go ih true true is any = refl
    go ih true false is any = ih (ap (λ b. b || list_any (same n) (numbers_in s rows)) (sym is) ∙ any)
    go ih false c is any = ih any

is_there : {A B : Type 0} (g : A → B) (o : Option A) → is_some (option_map g o) ≡ is_some o
is_there g None = refl
is_there g (Some x) = refl

same_exact : (n m : ℕ) → same n m ≡ true → n ≡ m
same_exact n m e = grind (arith, nat_tests)

same_laws : IsEquivalence same
same_laws = record {
  refl = λ n. grind (arith, nat_tests);
  symm = λ n m. either n m (nat_eq m n) refl (nat_eq n m) refl;
  congr = λ n m k e. let is : n ≡ m = same_exact n m e in ap (λ x. nat_eq k x) is;
}
  where
    either : (n m : ℕ) (b : Bool) → nat_eq m n ≡ b → (c : Bool) → nat_eq n m ≡ c → b ≡ c
    either n m true e true e' = refl
    either n m false e false e' = refl
    either n m true e false e' = absurd (grind (arith, nat_tests))
    either n m false e true e' = absurd (grind (arith, nat_tests))

module _ (rows : DeskRows) (L : List Request) (a : Agreement) (stands : StandsFor rows L) (own : named (agreements_of L) a.name ≡ Some a) where
  front : SeriesStands (first_at L a.name) a (front_of L a) rows
  front = stands_front rows L a stands own

  -- from the next number on a row is held where something stands
  held_where : (n : ℕ) → next_of L a ≤ n → is_some (find (is_held a.name n) rows.held) ≡ is_some (first_at L a.name n)
  held_where n le = sym (is_there (λ (r : HeldRow). r.contents) (find (is_held a.name n) rows.held)) ∙ ap is_some (front.held n le) ∙ is_there standing_text (first_at L a.name n)

  -- and none below
  none_there : (n : ℕ) → n < next_of L a → is_some (find (is_held a.name n) rows.held) ≡ false
  none_there n lt = sym (is_there (λ (r : HeldRow). r.contents) (find (is_held a.name n) rows.held)) ∙ ap is_some (front.none_held n lt)

  stands_where : (n : ℕ) → is_some (find (is_held a.name n) rows.held) ≡ true → is_some (first_at L a.name n) ≡ true
  stands_where n found = go (cases_lt n (next_of L a))
    where
      differ : true ≡ false → ⊥
      differ e = absurd cc

      go : (n < next_of L a) ⊎ (next_of L a ≤ n) → is_some (first_at L a.name n) ≡ true
      go (inl lt) = absurd (differ (sym found ∙ none_there n lt))
      go (inr le) = sym (held_where n le) ∙ found

  are_held : (numbers : List ℕ) → AreHeldNumbers a.name rows numbers → AreRisingFrom (next_of L a) numbers → AreHeldFrom (first_at L a.name) (next_of L a) numbers
  are_held numbers listed_in rising = record {
    in_order = rising;
    all_held = λ n le some. Contains-permutation (numbers_in a.name rows.held) numbers n listed_in.0 (Contains-from_any same_exact n (numbers_in a.name rows.held) (listed a.name n rows.held (held_where n le ∙ some)));
    only_held = All-permutation (λ n. IsSome (first_at L a.name n)) (numbers_in a.name rows.held) numbers listed_in.0
        (All-from_any same_laws (λ n. IsSome (first_at L a.name n)) (numbers_in a.name rows.held) (λ n any. stands_where n (found_if_listed a.name n rows.held any)));
  }

-- ---- the report

report_is : (rows : DeskRows) (L : List Request) (a : Agreement) (numbers : List ℕ) (report : GapReport) → StandsFor rows L → named (agreements_of L) a.name ≡ Some a → AreHeldNumbers a.name rows numbers → AreRisingFrom (next_of L a) numbers → Reports a.name a.first (next_of L a) numbers report → report ≡ gaps_of L a
report_is rows L a numbers report stands own held rising is =
    is (first_at L a.name) (greatest_of L a.name) (none_below_first L a own) (front_next (first_at L a.name) a.first (front_of L a) (front_is L a.name a.first)) (are_held rows L a stands own numbers held rising) (greatest_is L a.name)

pub no_gaps : (s : List ℕ) (rows now : DeskRows) → now ≡ rows → None ≡ series_at s rows → OnlyAnswers (λ L. gaps_answer L s) rows None now
no_gaps s rows now left none = (left, λ L stands. sym (ap (option_map (gaps_of L)) (no_row rows L s stands none)))

pub some_gaps : (s : List ℕ) (row : SeriesRow) (numbers : List ℕ) (rows between now : DeskRows) (report : GapReport) → between ≡ rows → now ≡ between → Some row ≡ series_at s rows → AreHeldNumbers s between numbers → AreRisingFrom row.next numbers → Reports s row.agreement.first row.next numbers report
    → OnlyAnswers (λ L. gaps_answer L s) rows (Some report) now
some_gaps s row numbers rows between now report first second there held rising is = (
  second ∙ first,
  λ L stands.
      let a = row.agreement in
      let found = named_row rows L s row stands there in
      let name = named_has_name (agreements_of L) s a found in
      let own : named (agreements_of L) a.name ≡ Some a = ap (λ x. named (agreements_of L) x) name ∙ found in
      let next : row.next ≡ next_of L a = next_is rows L a row.next stands own (ap (λ x. series_at x rows) name ∙ sym there) in
      ap Some (report_is rows L a numbers report stands own
      (subst (λ x. AreHeldNumbers x rows numbers) (sym name) (subst (λ d. AreHeldNumbers s d numbers) first held))
      (subst (λ k. AreRisingFrom k numbers) next rising)
      (subst (λ x. Reports x a.first (next_of L a) numbers report) (sym name) (subst (λ k. Reports s a.first k numbers report) next is)))
      ∙ sym (ap (option_map (gaps_of L)) found),
)
