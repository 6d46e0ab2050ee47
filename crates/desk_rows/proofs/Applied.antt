-- What the statements that apply a number come to.
use Rattle.std.proofs.Common.{◌≡◌, ◌+◌, ◌≤◌, ℕ, Bool, true, false, List, ◌∷◌, Option, Some, None, refl, sym, ap, ◌∙◌, subst}
use Rattle.catalogue_rules.specs.Records.{ByReference}
use Rattle.onix_records.specs.declared.agreements.Agreement.{Agreement}
use Rattle.onix_records.specs.declared.effects.Effect.{Effect}
use Rattle.desk_catalogue.specs.Holding.{HoldsCatalogue, IsApplied}
use Rattle.desk_tables.specs.Rows.{DeskRows, held_at, series_at, with_held, without_held}
use Rattle.onix_records.specs.declared.parts.Product.{Product}
use Rattle.series_rules.specs.Firsts.{first_at}
use Rattle.series_rules.specs.declared.answers.DeliveryAnswer.{DeliveryAnswer}
use Rattle.series_rules.specs.declared.answers.DeliveryAnswer.TheVariants.{Applied, Held}
use Rattle.series_rules.specs.declared.requests.Standing.{Standing}
use Rattle.series_rules.specs.declared.requests.Standing.TheVariants.{Message}
use Rattle.desk_rows.specs.Changes.{Applies, AppliesAt, AppliesText, Drains, DrainsOne, PutsNew, applied_or_held}
use Rattle.desk_rows.specs.Stands.{CutAt, StandsFor}
use Rattle.desk_rows.specs.Texts.{TextsTellApart, standing_text}
use Rattle.desk_rows.proofs.Cuts.{step_moved, step_stopped}
use Rattle.desk_rows.proofs.Fronts.{placed_held}
use Rattle.desk_rows.proofs.RequestRows.{applied_cut, cut_stands, held_stands, new_above, now_agreed, placed_new}

pub message_applied : (s : List ℕ) (h : Standing) (c : List Product) (e : Effect) (rows now : DeskRows) → h ≡ Message c → ((m : ByReference) → HoldsCatalogue s m rows → IsApplied s m c rows e now) → Applies s h rows e now
message_applied s h c e rows now is done =
    subst (λ (x : Standing). Applies s x rows e now) (sym is) (λ m held. let d = done m held in record { catalogue = d.catalogue; counts = d.counts; others = d.others })

-- what is taken out of the held ones is applied
pub moved_one : TextsTellApart → (s : List ℕ) (n : ℕ) (t : List ℕ) (rows between now : DeskRows) → Some t ≡ held_at s n rows → between ≡ without_held s n rows → AppliesText s n t between now → DrainsOne s n rows true now
moved_one one s n t rows between now took left applied = λ f a base cut same.
    let ready : AppliesText s n t (without_held s n rows) now = subst (λ (d : DeskRows). AppliesText s n t d now) left applied in
    subst (λ (d : DeskRows). ((true ≡ true) → CutAt f a base (n + 1) d) × ((true ≡ false) → CutAt f a base n d × (f n ≡ None))) (sym ready.4.2)
    (step_moved one f a base n rows ready.4.0 s t ready.0 ready.3 cut same took ready.1 ready.2 ready.4.1)

-- nothing is held
pub moved_none : (s : List ℕ) (n : ℕ) (rows now : DeskRows) → None ≡ held_at s n rows → now ≡ without_held s n rows → DrainsOne s n rows false now
moved_none s n rows now none left = λ f a base cut same.
    subst (λ (d : DeskRows). ((false ≡ true) → CutAt f a base (n + 1) d) × ((false ≡ false) → CutAt f a base n d × (f n ≡ None))) (sym left)
    (step_stopped f a base n rows s cut same none)

-- a step at the same number, with the same answer
pub step_at : (s : List ℕ) (n k : ℕ) (rows : DeskRows) (moved is : Bool) (now : DeskRows) → n ≡ k → moved ≡ is → DrainsOne s n rows moved now → DrainsOne s k rows is now
step_at s n k rows moved is now at same one = subst (λ j. DrainsOne s j rows is now) at (subst (λ b. DrainsOne s n rows b now) same one)

-- all are applied up to that number
abbrev pub DrainsTo : List ℕ → ℕ → ℕ → DeskRows → DeskRows → Type 0
DrainsTo name from k rows now = (f : ℕ → Option Standing) (a : Agreement) (base : DeskRows) → CutAt f a base from rows → name ≡ a.name → CutAt f a base k now

-- one more, after all up to a number
pub drained_more : (s : List ℕ) (from k : ℕ) (rows between now : DeskRows) → DrainsTo s from k rows between → DrainsOne s k between true now → DrainsTo s from (k + 1) rows now
drained_more s from k rows between now before one = λ f a base cut same. (one f a base (before f a base cut same) same).0 refl

-- no more, after all up to a number
pub drained_up : (s : List ℕ) (from k : ℕ) (rows between now : DeskRows) → DrainsTo s from k rows between → DrainsOne s k between false now → Drains s from rows now
drained_up s from k rows between now before one = λ f a base cut same. let end = (one f a base (before f a base cut same) same).1 refl in (k, end.0, end.1)

-- up to the greatest number that there is
pub drained_all : (s : List ℕ) (from k : ℕ) (rows now : DeskRows) → 1000000000 ≤ k → DrainsTo s from k rows now → Drains s from rows now
drained_all s from k rows now le before = λ f a base cut same. let end = before f a base cut same in (k, end, end.stands.can_be_kept.small k le)

-- put above the next number
pub put_above : (s : List ℕ) (next n : ℕ) (h : Standing) (t : List ℕ) (rows now : DeskRows) (answer : DeliveryAnswer) → ¬ (n ≡ next) → answer ≡ applied_or_held s next n None → now ≡ with_held (record { series = s; number = n; contents = t }) rows → PutsNew s next n h t rows answer now
put_above s next n h t rows now answer other is put = λ L r a stands new same text row.
    let after : now ≡ with_held (record { series = a.name; number = n; contents = standing_text h }) rows =
    put ∙ ap (λ x. with_held (record { series = x; number = n; contents = t }) rows) same ∙ ap (λ x. with_held (record { series = a.name; number = n; contents = x }) rows) (sym text) in
    let now_stands = subst (λ (d : DeskRows). StandsFor d (r ∷ L)) (sym after) (held_stands rows L r a n next h stands new row other) in (
      now_stands,
      is ∙ ap (λ x. Held x n next) same ∙ placed_held now (r ∷ L) a n next now_stands (now_agreed L r a n h new.0) (ap (series_at a.name) after ∙ row) (new_above rows L r a n next h stands new row),
    )

-- applied at the next number, and then drained
put_next : (s : List ℕ) (n : ℕ) (h : Standing) (t : List ℕ) (e : Effect) (rows between now : DeskRows) (answer : DeliveryAnswer) → answer ≡ applied_or_held s n n (Some e) → AppliesAt s n h t rows e between → Drains s (n + 1) between now → PutsNew s n n h t rows answer now
put_next s n h t e rows between now answer is applied drained = λ L r a stands new same text row.
    let own : AppliesAt a.name n h (standing_text h) rows e between = subst (λ x. AppliesAt a.name n h x rows e between) (sym text) (subst (λ x. AppliesAt x n h t rows e between) same applied) in
    let cut = subst (CutAt (first_at (r ∷ L) a.name) a rows (n + 1)) (sym own.2) (applied_cut rows own.0 L r a n h e stands new row own.1) in
    let end = drained (first_at (r ∷ L) a.name) a rows cut same in (
      cut_stands rows now L r a n end.0 h stands new.0 end.1 end.2,
      is ∙ ap (λ x. Applied x n e) same ∙ placed_new rows own.0 L r a n h e stands new row own.1,
    )

pub put_next_at : (s : List ℕ) (n next k : ℕ) (h : Standing) (t : List ℕ) (e : Effect) (rows between now : DeskRows) (answer : DeliveryAnswer) → n ≡ next → k ≡ n → answer ≡ applied_or_held s next n (Some e) → AppliesAt s n h t rows e between → Drains s (k + 1) between now
    → PutsNew s next n h t rows answer now
put_next_at s n next k h t e rows between now answer same at is applied drained =
    subst (λ j. PutsNew s j n h t rows answer now) same (put_next s n h t e rows between now answer is applied (subst (λ j. Drains s (j + 1) between now) at drained))
