-- The tables of a series that is applied up to a number, and one number more.
use Rattle.std.proofs.Common.{◌≡◌, ◌+◌, ◌≤◌, ◌++◌, ℕ, Bool, true, false, List, [], ◌∷◌, Option, Some, None, length, length-append, refl, sym, ap, ◌∙◌, arith, subst, ◌⊎◌, inl, inr, nat_eq, cond, IfSome}
use Rattle.std.specs.Prelude.{option_map}
use Rattle.std.specs.FinMap as fin
use Rattle.std.proofs.lemmas.Bool.{cases_eq}
use Rattle.std.proofs.lemmas.Bool.Decides.{nat_tests}
use Rattle.catalogue_rules.specs.Records.{ByReference}
use Rattle.desk_catalogue.specs.Holding.{HoldsCatalogue}
use Rattle.desk_tables.specs.Rows.{DeskRows, held_at, without_held}
use Rattle.onix_records.specs.declared.effects.Effect.{Effect}
use Rattle.onix_records.specs.declared.agreements.Agreement.{Agreement}
use Rattle.series_rules.specs.Series.{after_all}
use Rattle.series_rules.specs.declared.requests.Standing.{Standing}
use Rattle.desk_rows.specs.Stands.{SeriesStands, SameElsewhere, CutAt, IsAppliedAt}
use Rattle.desk_rows.specs.Texts.{CanBeKept, IsReadable, TextsTellApart, standing_text}
use Rattle.desk_rows.proofs.CatalogueRows.{catalogue_kept}
use Rattle.desk_rows.proofs.Lookups.{held_same, held_taken, held_left, parties_kept}
use Rattle.desk_rows.proofs.Steps.{stepped, step_stands, step_elsewhere}

pub elsewhere_then : (s : List ℕ) (x y z : DeskRows) → SameElsewhere s x y → SameElsewhere s y z → SameElsewhere s x z
elsewhere_then s x y z p q = record {
  meta = q.meta ∙ p.meta;
  parties = λ x y o e. q.parties x y o (p.parties x y o e);
  series = λ t o. q.series t o ∙ p.series t o;
  held = λ t n o. q.held t n o ∙ p.held t n o;
  applied = λ t n o. q.applied t n o ∙ p.applied t n o;
  catalogues = λ t m o h. q.catalogues t m o (p.catalogues t m o h);
}

-- ---- a number that is taken out

-- f with nothing at the number k
abbrev pub without : (ℕ → Option Standing) → ℕ → ℕ → Option Standing
without f k n = cond (nat_eq n k) None (f n)

without_there : (f : ℕ → Option Standing) (k : ℕ) → without f k k ≡ None
without_there f k = let e : nat_eq k k ≡ true = grind (arith, nat_tests) in rw e refl

without_other : (f : ℕ → Option Standing) (k n : ℕ) → ¬ (n ≡ k) → without f k n ≡ f n
without_other f k n other = let e : nat_eq n k ≡ false = grind (arith, nat_tests) in rw e refl

without_kept : (f : ℕ → Option Standing) (k : ℕ) → CanBeKept f → CanBeKept (without f k)
without_kept f k kept = record {
  readable = λ n. elim (nat_eq n k) as (λ b. IfSome (cond b None (f n)) IsReadable) [ true ↦ tt | false ↦ kept.readable n ];
  small = λ n le. elim (nat_eq n k) as (λ b. cond b None (f n) ≡ None) [ true ↦ refl | false ↦ kept.small n le ];
}

-- with the row of the next number taken out, the tables stand for what stands at the others
taken_stands : (f : ℕ → Option Standing) (a : Agreement) (hs : List Standing) (k : ℕ) (now : DeskRows) → k ≡ a.first + length hs → SeriesStands f a hs now → SeriesStands (without f k) a hs (without_held a.name k now)
taken_stands f a hs k now ends was = record {
  can_be_kept = without_kept f k was.can_be_kept;
  begins = λ j lt. without_other f k (a.first + j) (λ i. omega arith) ∙ was.begins j lt;
  row = was.row;
  applied = was.applied;
  none_applied = was.none_applied;
  held = λ n le. held_of n le (cases_eq n k);
  none_held = λ n lt. held_left a.name a.name k n now (inr (λ i. omega arith)) ∙ was.none_held n lt;
  catalogue = catalogue_kept a.name _ now (without_held a.name k now) (record { records = refl; articles = refl; offers = refl; prices = refl; minimums = refl }) was.catalogue;
}
  where
    held_of : (n : ℕ) → a.first + length hs ≤ n → (n ≡ k) ⊎ (¬ (n ≡ k)) → held_at a.name n (without_held a.name k now) ≡ option_map standing_text (without f k n)
    held_of n le (inl at) = ap (λ i. held_at a.name i (without_held a.name k now)) at ∙ held_taken a.name k now ∙ sym (ap (λ i. option_map standing_text (without f k i)) at ∙ ap (option_map standing_text) (without_there f k))
    held_of n le (inr other) = held_left a.name a.name k n now (inr other) ∙ was.held n le ∙ ap (option_map standing_text) (sym (without_other f k n other))

taken_elsewhere : (s : List ℕ) (k : ℕ) (now : DeskRows) → SameElsewhere s now (without_held s k now)
taken_elsewhere s k now = record {
  meta = refl;
  parties = parties_kept now (without_held s k now) refl;
  series = λ t o. refl;
  held = λ t n o. held_left s t k n now (inl o);
  applied = λ t n o. refl;
  catalogues = λ t m o h. catalogue_kept t m now (without_held s k now) (record { records = refl; articles = refl; offers = refl; prices = refl; minimums = refl }) h;
}

-- ---- what is held at the next number

pub held_next : (f : ℕ → Option Standing) (a : Agreement) (rows : DeskRows) (k : ℕ) (now : DeskRows) → CutAt f a rows k now → held_at a.name k now ≡ option_map standing_text (f k)
held_next f a rows k now cut = cut.stands.held k (let e = cut.ends in omega arith)

-- what is read of a text that is kept is what stands there
pub read_there : TextsTellApart → (o : Option Standing) (t : List ℕ) (h : Standing) → IfSome o IsReadable → IsReadable h → Some t ≡ option_map standing_text o → standing_text h ≡ t → o ≡ Some h
read_there one None t h kept readable e i = absurd cc
read_there one (Some g) t h kept readable e i = let same : t ≡ standing_text g = cc in ap Some (one g h kept readable (sym same ∙ sym i))

pub nothing_there : (o : Option Standing) → None ≡ option_map standing_text o → o ≡ None
nothing_there None e = refl
nothing_there (Some g) e = absurd cc

-- ---- a step

-- the tables that are cut at k, with h taken out of the held ones and applied, are cut at k + 1
pub cut_step : (f : ℕ → Option Standing) (a : Agreement) (rows : DeskRows) (k : ℕ) (now mid : DeskRows) (h : Standing) (e : Effect) → (cut : CutAt f a rows k now) → f k ≡ Some h → IsAppliedAt a.name (after_all fin.empty cut.hs) h (without_held a.name k now) e mid
    → CutAt f a rows (k + 1) (stepped a.name k (standing_text h) e mid)
cut_step f a rows k now mid h e cut there done =
    let was = taken_stands f a cut.hs k now cut.ends cut.stands in
    let same : (n : ℕ) → ¬ (n ≡ k) → f n ≡ without f k n = λ n o. sym (without_other f k n o) in
    record {
      hs = cut.hs ++ h ∷ [];
      ends = let n = length-append cut.hs (h ∷ []) in let i = cut.ends in omega arith;
      stands = step_stands (without f k) f a cut.hs k h e (without_held a.name k now) mid cut.ends was (without_there f k) there same cut.stands.can_be_kept done;
      elsewhere = elsewhere_then a.name rows now _ cut.elsewhere (elsewhere_then a.name now (without_held a.name k now) _ (taken_elsewhere a.name k now)
          (step_elsewhere (without f k) f a cut.hs k h e (without_held a.name k now) mid cut.ends was (without_there f k) there same cut.stands.can_be_kept done));
    }

-- what a step comes to
abbrev pub Steps : (ℕ → Option Standing) → Agreement → DeskRows → ℕ → Bool → DeskRows → Type 0
Steps f a rows k moved now = ((moved ≡ true) → CutAt f a rows (k + 1) now) × ((moved ≡ false) → CutAt f a rows k now × (f k ≡ None))

pub step_moved : TextsTellApart → (f : ℕ → Option Standing) (a : Agreement) (rows : DeskRows) (k : ℕ) (now mid : DeskRows) (s t : List ℕ) (h : Standing) (e : Effect) → CutAt f a rows k now → s ≡ a.name → Some t ≡ held_at s k now → IsReadable h → standing_text h ≡ t
    → ((m : ByReference) → HoldsCatalogue s m (without_held s k now) → IsAppliedAt s m h (without_held s k now) e mid) → Steps f a rows k true (stepped s k t e mid)
step_moved one f a rows k now mid s t h e cut same =
    subst (λ s. Some t ≡ held_at s k now → IsReadable h → standing_text h ≡ t → ((m : ByReference) → HoldsCatalogue s m (without_held s k now) → IsAppliedAt s m h (without_held s k now) e mid) → Steps f a rows k true (stepped s k t e mid)) (sym same)
    (λ took readable is done.
    let there = read_there one (f k) t h (cut.stands.can_be_kept.readable k) readable (took ∙ held_next f a rows k now cut) is in
    let held = (taken_stands f a cut.hs k now cut.ends cut.stands).catalogue in
    ((λ _. subst (λ c. CutAt f a rows (k + 1) (stepped a.name k c e mid)) is (cut_step f a rows k now mid h e cut there (done (after_all fin.empty cut.hs) held))), (λ i. absurd cc)))

pub step_stopped : (f : ℕ → Option Standing) (a : Agreement) (rows : DeskRows) (k : ℕ) (now : DeskRows) (s : List ℕ) → CutAt f a rows k now → s ≡ a.name → None ≡ held_at s k now → Steps f a rows k false (without_held s k now)
step_stopped f a rows k now s cut same =
    subst (λ s. None ≡ held_at s k now → Steps f a rows k false (without_held s k now)) (sym same)
    (λ none. ((λ i. absurd cc), (λ i. (subst (CutAt f a rows k) (sym (held_same a.name k now (sym none))) cut, nothing_there (f k) (none ∙ held_next f a rows k now cut)))))
