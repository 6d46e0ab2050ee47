-- The tables in the words of the definitions: what they keep is the front of each series.
use Rattle.std.proofs.Common.{◌≡◌, ◌+◌, ◌-◌, ◌<◌, ◌≤◌, ℕ, true, false, List, Option, Some, None, length, refl, sym, ap, ◌∙◌, arith, subst, ◌⊎◌, inl, inr}
use Rattle.std.specs.Prelude.{slice_get, option_map, nat_lt}
use Rattle.std.proofs.lemmas.Bool.{cases_lt}
use Rattle.std.proofs.lemmas.Bool.Decides.{nat_tests}
use Rattle.onix_records.specs.declared.effects.Effect.{Effect}
use Rattle.desk_tables.specs.Rows.{DeskRows, series_at, applied_at}
use Rattle.onix_records.specs.declared.agreements.Agreement.{Agreement}
use Rattle.series_rules.specs.Agreements.{agreements_of, named}
use Rattle.series_rules.specs.Answers.{placed_answer}
use Rattle.series_rules.specs.Firsts.{first_at}
use Rattle.series_rules.proofs.FrontLemmas.{front_is, front_unique}
use Rattle.series_rules.specs.Series.{front_of, kept_of, next_of}
use Rattle.series_rules.specs.declared.answers.DeliveryAnswer.TheVariants.{Applied, Held}
use Rattle.series_rules.specs.declared.requests.Request.{Request}
use Rattle.series_rules.specs.declared.requests.Standing.{Standing}
use Rattle.desk_rows.specs.Answering.{counts_at}
use Rattle.desk_rows.specs.Changes.{applied_or_held}
use Rattle.desk_rows.specs.Stands.{SeriesStands, IsAppliedToGap, StandsFor, applied_of, stored_text}
use Rattle.desk_rows.specs.Texts.{standing_text}
use Rattle.desk_rows.proofs.Folds.{get_beyond, get_some}
use Rattle.desk_rows.proofs.RequestRows.{same_next}

whole_front : (rows : DeskRows) (L : List Request) (a : Agreement) → (w : IsAppliedToGap (first_at L a.name) a rows) → w.0 ≡ front_of L a
whole_front rows L a w = front_unique (first_at L a.name) a.first w.0 (front_of L a) (record { each = w.2.begins; ends = w.1 }) (front_is L a.name a.first)

pub stands_front : (rows : DeskRows) (L : List Request) (a : Agreement) → StandsFor rows L → named (agreements_of L) a.name ≡ Some a → SeriesStands (first_at L a.name) a (front_of L a) rows
stands_front rows L a stands found = let w = stands.series a found in subst (λ hs. SeriesStands (first_at L a.name) a hs rows) (whole_front rows L a w) w.2

pub next_is : (rows : DeskRows) (L : List Request) (a : Agreement) (k : ℕ) → StandsFor rows L → named (agreements_of L) a.name ≡ Some a → series_at a.name rows ≡ Some (record { agreement = a; next = k }) → k ≡ next_of L a
next_is rows L a k stands found row = sym (same_next a k (next_of L a) _ row (stands_front rows L a stands found).row)

counts_there : (hs : List Standing) (j : ℕ) (t : List ℕ) (e : Effect) → applied_of hs j ≡ Some (t, e) → e ≡ kept_of hs j
counts_there hs j t e is = go (slice_get hs j) is
  where
    counts_in : Option (List ℕ × Effect) → Effect
    counts_in None = kept_of hs j
    counts_in (Some p) = p.1

    go : (o : Option Standing) → option_map {U = List ℕ × Effect} (λ h. (standing_text h, kept_of hs j)) o ≡ Some (t, e) → e ≡ kept_of hs j
    go None i = absurd cc
    go (Some h) i = sym (ap counts_in i)

-- a number below the next is answered as applied, with what its row keeps
pub placed_applied : (rows : DeskRows) (L : List Request) (a : Agreement) (n k : ℕ) (p : List ℕ × Effect) (x : Effect) → StandsFor rows L → named (agreements_of L) a.name ≡ Some a → series_at a.name rows ≡ Some (record { agreement = a; next = k }) → a.first ≤ n → n < k → Some p ≡ applied_at a.name n rows → p.1 ≡ x
    → Applied a.name n x ≡ placed_answer (front_of L a) a.name a.first n
placed_applied rows L a n k p x stands found row above below is keeps =
    let s = stands_front rows L a stands found in
    let k_is : k ≡ a.first + length (front_of L a) = next_is rows L a k stands found row in
    let lt : nat_lt n (a.first + length (front_of L a)) ≡ true = grind (arith, nat_tests) in
    let at : a.first + (n - a.first) ≡ n = omega arith in
    let counts = counts_there (front_of L a) (n - a.first) p.0 p.1 (sym (s.applied (n - a.first)) ∙ ap (λ i. applied_at a.name i rows) at ∙ sym is) in
    rw lt (ap (Applied a.name n) (sym keeps ∙ counts))

-- any other is held until the next comes
pub placed_held : (rows : DeskRows) (L : List Request) (a : Agreement) (n k : ℕ) → StandsFor rows L → named (agreements_of L) a.name ≡ Some a → series_at a.name rows ≡ Some (record { agreement = a; next = k }) → k ≤ n → Held a.name n k ≡ placed_answer (front_of L a) a.name a.first n
placed_held rows L a n k stands found row above =
    let k_is : k ≡ a.first + length (front_of L a) = next_is rows L a k stands found row in
    let lt : nat_lt n (a.first + length (front_of L a)) ≡ false = grind (arith, nat_tests) in
    rw lt (ap (Held a.name n) k_is)

-- ---- the place of what is stored

-- what is applied lies below the next number, and what is not applied does not
module _ (rows : DeskRows) (L : List Request) (a : Agreement) (n k : ℕ) (stands : StandsFor rows L) (found : named (agreements_of L) a.name ≡ Some a) (row : series_at a.name rows ≡ Some (record { agreement = a; next = k })) (above : a.first ≤ n) where
  at : a.first + (n - a.first) ≡ n
  at = omega arith

  next : k ≡ a.first + length (front_of L a)
  next = next_is rows L a k stands found row

  applied : applied_at a.name n rows ≡ applied_of (front_of L a) (n - a.first)
  applied = ap (λ i. applied_at a.name i rows) (sym at) ∙ (stands_front rows L a stands found).applied (n - a.first)

  applied_below : (p : List ℕ × Effect) → applied_at a.name n rows ≡ Some p → n < k
  applied_below p is = go (cases_lt (n - a.first) (length (front_of L a)))
    where
      go : (n - a.first < length (front_of L a)) ⊎ (length (front_of L a) ≤ n - a.first) → n < k
      go (inl lt) = omega (arith, next, at)
      go (inr le) = let none : applied_of (front_of L a) (n - a.first) ≡ None = rw (get_beyond (front_of L a) (n - a.first) le) refl in let both = sym is ∙ applied ∙ none in absurd cc

  others_above : applied_at a.name n rows ≡ None → k ≤ n
  others_above is = go (cases_lt (n - a.first) (length (front_of L a)))
    where
      go : (n - a.first < length (front_of L a)) ⊎ (length (front_of L a) ≤ n - a.first) → k ≤ n
      go (inl lt) =
          let some = get_some (front_of L a) (n - a.first) lt in
          let there : applied_of (front_of L a) (n - a.first) ≡ Some (standing_text some.0, kept_of (front_of L a) (n - a.first)) = rw some.1 refl in
          let both = sym is ∙ applied ∙ there in
          absurd cc
      go (inr le) = omega (arith, next, at)

  -- so the answer is by what is stored of it
  pub placed_stored : (effect : Option Effect) → effect ≡ counts_at a.name n rows → applied_or_held a.name k n effect ≡ placed_answer (front_of L a) a.name a.first n
  placed_stored effect is = go effect (applied_at a.name n rows) refl is
    where
      go : (effect : Option Effect) (o : Option (List ℕ × Effect)) → applied_at a.name n rows ≡ o → effect ≡ option_map {U = Effect} (λ (p : List ℕ × Effect). p.1) o → applied_or_held a.name k n effect ≡ placed_answer (front_of L a) a.name a.first n
      go (Some e) (Some p) has counts = let same : p.1 ≡ e = cc in placed_applied rows L a n k p e stands found row above (applied_below p has) (sym has) same
      go (Some e) None has counts = absurd cc
      go None (Some p) has counts = absurd cc
      go None None has counts = placed_held rows L a n k stands found row (others_above has)

-- what the tables have at a number is the text of what stands there
pub stored_is : (rows : DeskRows) (L : List Request) (a : Agreement) (n : ℕ) → StandsFor rows L → named (agreements_of L) a.name ≡ Some a → a.first ≤ n → stored_text a.name n rows ≡ option_map standing_text (first_at L a.name n)
stored_is rows L a n stands found above = go (cases_lt (n - a.first) (length (front_of L a)))
  where
    s : SeriesStands (first_at L a.name) a (front_of L a) rows
    s = stands_front rows L a stands found

    at : a.first + (n - a.first) ≡ n
    at = omega arith

    applied : applied_at a.name n rows ≡ applied_of (front_of L a) (n - a.first)
    applied = ap (λ i. applied_at a.name i rows) (sym at) ∙ s.applied (n - a.first)

    go : (n - a.first < length (front_of L a)) ⊎ (length (front_of L a) ≤ n - a.first) → stored_text a.name n rows ≡ option_map standing_text (first_at L a.name n)
    go (inl lt) =
        let some = get_some (front_of L a) (n - a.first) lt in
        let there : first_at L a.name n ≡ Some some.0 = ap (first_at L a.name) (sym at) ∙ s.begins (n - a.first) lt ∙ some.1 in
        rw (applied, some.1, there) refl
    go (inr le) =
        let none = get_beyond (front_of L a) (n - a.first) le in
        let low = above in
        rw (applied, none, s.held n (omega (arith, at))) refl
