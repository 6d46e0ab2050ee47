-- One more number is applied.
use Rattle.std.proofs.Common.{◌≡◌, ◌+◌, ◌<◌, ◌++◌, ℕ, List, [], ◌∷◌, Option, Some, None, length, length-append, refl, sym, ap, ◌∙◌, arith, subst, ◌⊎◌, inl, inr}
use Rattle.std.specs.Prelude.{option_map, find}
use Rattle.std.specs.FinMap as fin
use Rattle.std.proofs.lemmas.Bool.{cases_eq}
use Rattle.desk_catalogue.specs.Holding.{HoldsCatalogue, other_catalogues}
use Rattle.desk_tables.specs.Rows.{DeskRows, HeldRow, applied_part, series_at, held_at, applied_at, is_named, is_held, is_applied, with_applied, with_next}
use Rattle.onix_records.specs.declared.effects.Effect.{Effect}
use Rattle.onix_records.specs.declared.agreements.Agreement.{Agreement}
use Rattle.series_rules.proofs.FrontLemmas.{after_all_append}
use Rattle.series_rules.specs.Series.{after_all}
use Rattle.series_rules.specs.declared.requests.Standing.{Standing}
use Rattle.desk_rows.specs.Stands.{applied_of, SeriesStands, SameElsewhere, IsAppliedAt}
use Rattle.desk_rows.specs.Texts.{CanBeKept, standing_text}
use Rattle.desk_rows.proofs.CatalogueRows.{KeepsCatalogues, catalogue_elsewhere, catalogue_kept}
use Rattle.desk_rows.proofs.Folds.{get_beyond, applied_last, applied_front, front_more}
use Rattle.desk_rows.proofs.Lookups.{applied_put, applied_other, series_set, series_other, parties_kept, parties_set}

-- the row of what was applied, and the series at its next number
abbrev pub stepped : List ℕ → ℕ → List ℕ → Effect → DeskRows → DeskRows
stepped s k t e mid = with_next s (k + 1) (with_applied (record { series = s; number = k; contents = t; effect = e }) mid)

-- the change of a catalogue leaves the other tables

series_mid : (s t : List ℕ) (rows mid : DeskRows) → other_catalogues s mid ≡ other_catalogues s rows → series_at t mid ≡ series_at t rows
series_mid s t rows mid same = ap (λ (d : DeskRows). find (is_named t) d.series) same

held_mid : (s t : List ℕ) (n : ℕ) (rows mid : DeskRows) → other_catalogues s mid ≡ other_catalogues s rows → held_at t n mid ≡ held_at t n rows
held_mid s t n rows mid same = ap (λ (d : DeskRows). option_map (λ (r : HeldRow). r.contents) (find (is_held t n) d.held)) same

applied_mid : (s t : List ℕ) (n : ℕ) (rows mid : DeskRows) → other_catalogues s mid ≡ other_catalogues s rows → applied_at t n mid ≡ applied_at t n rows
applied_mid s t n rows mid same = ap (λ (d : DeskRows). option_map applied_part (find (is_applied t n) d.applied)) same

stepped_keeps : (s : List ℕ) (k : ℕ) (t : List ℕ) (e : Effect) (mid : DeskRows) → KeepsCatalogues mid (stepped s k t e mid)
stepped_keeps s k t e mid = record { records = refl; articles = refl; offers = refl; prices = refl; minimums = refl }

-- f is what stands, and g has h at the number k too, where nothing stood and which is applied next
module _ (f g : ℕ → Option Standing) (a : Agreement) (hs : List Standing) (k : ℕ) (h : Standing) (e : Effect) (base mid : DeskRows) (ends : k ≡ a.first + length hs)
    (was : SeriesStands f a hs base) (free : f k ≡ None) (there : g k ≡ Some h) (same : (n : ℕ) → ¬ (n ≡ k) → g n ≡ f n) (kept : CanBeKept g) (done : IsAppliedAt a.name (after_all fin.empty hs) h base e mid) where
  length_more : length (hs ++ h ∷ []) ≡ length hs + 1
  length_more = length-append hs (h ∷ [])

  abbrev pub after : DeskRows
  after = stepped a.name k (standing_text h) e mid

  step_applied : (j : ℕ) → applied_at a.name (a.first + j) after ≡ applied_of (hs ++ h ∷ []) j
  step_applied j = go (cases_eq j (length hs))
    where
      none : applied_at a.name k mid ≡ None
      none = applied_mid a.name a.name k base mid done.others ∙ ap (λ n. applied_at a.name n base) ends ∙ was.applied (length hs) ∙ ap (option_map {U = List ℕ × Effect} _) (get_beyond hs (length hs) (omega arith))

      go : (j ≡ length hs) ⊎ (¬ (j ≡ length hs)) → applied_at a.name (a.first + j) after ≡ applied_of (hs ++ h ∷ []) j
      go (inl last) =
          let at : a.first + j ≡ k = omega arith in
          ap (λ n. applied_at a.name n after) at ∙ applied_put a.name k (standing_text h) e mid none
          ∙ ap (λ x. Some (standing_text h, x)) done.counts ∙ sym (applied_last hs h) ∙ ap (applied_of (hs ++ h ∷ [])) (sym last)
      go (inr other) =
          applied_other a.name a.name k (a.first + j) (standing_text h) e mid (inr (λ i. other (omega arith)))
          ∙ applied_mid a.name a.name (a.first + j) base mid done.others ∙ was.applied j ∙ sym (applied_front hs h j other)

  step_none_held : (n : ℕ) → n < k + 1 → held_at a.name n after ≡ None
  step_none_held n lt = held_mid a.name a.name n base mid done.others ∙ go (cases_eq n k)
    where
      go : (n ≡ k) ⊎ (¬ (n ≡ k)) → held_at a.name n base ≡ None
      go (inl at) = ap (λ i. held_at a.name i base) at ∙ was.held k (omega arith) ∙ ap (option_map standing_text) free
      go (inr other) = was.none_held n (omega (arith, other))

  pub step_stands : SeriesStands g a (hs ++ h ∷ []) after
  step_stands = record {
    can_be_kept = kept;
    begins = front_more f g a.first hs k h ends was.begins there same;
    row = series_set a k (k + 1) mid (series_mid a.name a.name base mid done.others ∙ was.row ∙ ap (λ n. Some (record { agreement = a; next = n })) (sym ends))
        ∙ ap (λ n. Some (record { agreement = a; next = n })) (let n = length_more in omega arith);
    applied = step_applied;
    none_applied = λ n lt. applied_other a.name a.name k n (standing_text h) e mid (inr (λ i. omega arith)) ∙ applied_mid a.name a.name n base mid done.others ∙ was.none_applied n lt;
    held = λ n le. let m = length_more in held_mid a.name a.name n base mid done.others ∙ was.held n (omega arith) ∙ ap (option_map standing_text) (sym (same n (λ i. omega arith)));
    none_held = λ n lt. let m = length_more in step_none_held n (omega arith);
    catalogue = catalogue_kept a.name _ mid after (stepped_keeps a.name k (standing_text h) e mid) (subst (λ m. HoldsCatalogue a.name m mid) (sym (after_all_append fin.empty hs (h ∷ []))) done.catalogue);
  }

  pub step_elsewhere : SameElsewhere a.name base after
  step_elsewhere = record {
    meta = ap (λ (d : DeskRows). d.meta) done.others;
    parties = λ x y o same_row. parties_set a.name (k + 1) (with_applied (record { series = a.name; number = k; contents = standing_text h; effect = e }) mid) x y o (parties_kept base _ (ap (λ (d : DeskRows). d.series) done.others) x y o same_row);
    series = λ t other. series_other a.name t (k + 1) mid other ∙ series_mid a.name t base mid done.others;
    held = λ t n other. held_mid a.name t n base mid done.others;
    applied = λ t n other. applied_other a.name t k n (standing_text h) e mid (inl other) ∙ applied_mid a.name t n base mid done.others;
    catalogues = λ t m other held. catalogue_kept t m mid after (stepped_keeps a.name k (standing_text h) e mid) (catalogue_elsewhere a.name t m base mid other done.others held);
  }
