-- What the statements about a number come to.
use Rattle.std.proofs.Common.{◌≡◌, ℕ, true, false, List, ◌∷◌, Option, Some, None, codes, sym, ap, ◌∙◌, subst}
use Rattle.std.specs.Prelude.{bytes_eq, option_map}
use Rattle.std.specs.Option.{option_and_then, option_or}
use Rattle.onix_records.specs.declared.effects.Effect.{Effect}
use Rattle.desk_tables.specs.Rows.{DeskRows, applied_at, held_at}
use Rattle.onix_records.specs.ContentsText.{contents_text}
use Rattle.onix_records.specs.declared.parts.Product.{Product}
use Rattle.series_rules.specs.Answers.{waived_by}
use Rattle.series_rules.specs.Firsts.{first_at}
use Rattle.series_rules.specs.Series.{front_of}
use Rattle.series_rules.specs.declared.answers.DeliveryAnswer.{DeliveryAnswer}
use Rattle.series_rules.specs.declared.answers.DeliveryAnswer.TheVariants as delivery
use Rattle.series_rules.specs.declared.answers.WaiveAnswer.TheVariants as waiver
use Rattle.series_rules.specs.declared.requests.Standing.TheVariants.{Message, Waived}
use Rattle.desk_rows.specs.Answering.{AnswersAgain, DeliversAt, IsDelivered, IsStored, WaivesAt, counts_at}
use Rattle.desk_rows.specs.Changes.{PutsNew, applied_or_held}
use Rattle.desk_rows.specs.Stands.{StandsFor, stored_text}
use Rattle.desk_rows.specs.declared.answers_at.Stored.{Stored}
use Rattle.desk_rows.specs.Texts.{TextsTellApart}
use Rattle.desk_rows.proofs.Again.{again_other, again_same, again_waived, against_same, nothing_stored, waived_again, waived_too_late}
use Rattle.desk_rows.proofs.Fronts.{placed_stored}
use Rattle.desk_rows.proofs.RequestRows.{new_there, now_agreed}

-- ---- what is stored

abbrev text_in : List ℕ × Effect → List ℕ
text_in p = p.0

pub stored_applied : (s : List ℕ) (n : ℕ) (rows : DeskRows) (p : List ℕ × Effect) (o : Option (List ℕ × Effect)) (x : Stored) → o ≡ applied_at s n rows → o ≡ Some p → x.text ≡ p.0 → x.effect ≡ Some p.1 → IsStored s n rows (Some x)
stored_applied s n rows p o x e is text counts =
    let there : applied_at s n rows ≡ Some p = sym e ∙ is in (
      ap Some text ∙ sym (ap (λ o. option_or (option_map text_in o) (held_at s n rows)) there),
      counts ∙ sym (ap (option_map {U = Effect} (λ (p : List ℕ × Effect). p.1)) there),
    )

pub stored_held : (s : List ℕ) (n : ℕ) (rows : DeskRows) (text : Option (List ℕ)) (stored : Option Stored) → applied_at s n rows ≡ None → text ≡ held_at s n rows → option_map {U = List ℕ} (λ (x : Stored). x.text) stored ≡ text → option_and_then (λ (x : Stored). x.effect) stored ≡ None
    → IsStored s n rows stored
stored_held s n rows text stored none is same counts = (
  same ∙ is ∙ sym (ap (λ o. option_or (option_map text_in o) (held_at s n rows)) none),
  counts ∙ sym (ap (option_map {U = Effect} (λ (p : List ℕ × Effect). p.1)) none),
)

-- ---- something stands there

pub repeats_waived : TextsTellApart → (s : List ℕ) (next n : ℕ) (stored : Stored) (text : List ℕ) → bytes_eq stored.text (codes "waived") ≡ true → AnswersAgain s next n stored text (delivery.Waived s n)
repeats_waived one s next n stored text w = λ rows L r a c stands is same own kept counts row. again_waived one rows L r a n c s stored.text stands is same kept w

pub repeats_other : (s : List ℕ) (next n : ℕ) (stored : Stored) (text : List ℕ) → bytes_eq stored.text (codes "waived") ≡ false → bytes_eq stored.text text ≡ false → AnswersAgain s next n stored text (delivery.OtherContents s n)
repeats_other s next n stored text w m = λ rows L r a c stands is same own kept counts row. again_other rows L r a n c s stored.text text stands is same own kept w m

pub repeats_same : TextsTellApart → (s : List ℕ) (next n : ℕ) (stored : Stored) (text : List ℕ) (answer : DeliveryAnswer) → bytes_eq stored.text text ≡ true → answer ≡ applied_or_held s next n stored.effect → AnswersAgain s next n stored text answer
repeats_same one s next n stored text answer m placed = λ rows L r a c stands is same own kept counts row.
    let again = again_same one rows L r a n c s stored.text text stands is same own kept m in (
      again.0,
      placed ∙ ap (λ x. applied_or_held x next n stored.effect) same
          ∙ placed_stored rows (r ∷ L) a n next again.0 (now_agreed L r a n (Message c) is) row is.above stored.effect (counts ∙ ap (λ x. counts_at x n rows) same)
          ∙ against_same (front_of (r ∷ L) a) a.name a.first n c (first_at (r ∷ L) a.name n) again.1,
    )

-- ---- a delivery

pub delivers_again : (s : List ℕ) (next n : ℕ) (c : List Product) (stored : Stored) (text : List ℕ) (rows now : DeskRows) (answer : DeliveryAnswer) → contents_text c ≡ text → now ≡ rows → IsStored s n rows (Some stored) → AnswersAgain s next n stored text answer → DeliversAt s next n c rows answer now
delivers_again s next n c stored text rows now answer own left kept again = λ L r a stands is same row.
    subst (IsDelivered L r a n c answer) (sym left) (again rows L r a c stands is same own kept.0 kept.1 row)

pub delivers_new : (s : List ℕ) (next n : ℕ) (c : List Product) (text : List ℕ) (rows between now : DeskRows) (answer : DeliveryAnswer) → contents_text c ≡ text → between ≡ rows → IsStored s n rows None → PutsNew s next n (Message c) text between answer now → DeliversAt s next n c rows answer now
delivers_new s next n c text rows between now answer own left none put = λ L r a stands is same row.
    let there : PutsNew s next n (Message c) text rows answer now = subst (λ (d : DeskRows). PutsNew s next n (Message c) text d answer now) left put in
    let new = nothing_stored rows L r a n (Message c) s stands is same none.0 in
    let done = there L r a stands new same own row in
    (done.0, done.1 ∙ against_same (front_of (r ∷ L) a) a.name a.first n c (first_at (r ∷ L) a.name n) (new_there L r a n (Message c) new))

-- ---- a waiver

pub waives_again : TextsTellApart → (s : List ℕ) (next n : ℕ) (stored : List ℕ) (rows now : DeskRows) → now ≡ rows → Some stored ≡ stored_text s n rows → bytes_eq stored (codes "waived") ≡ true → WaivesAt s next n rows waiver.Waived now
waives_again one s next n stored rows now left kept w = λ L r a stands is same row.
    let done = waived_again one rows L r a n s stored stands is same kept w in (subst (λ d. StandsFor d (r ∷ L)) (sym left) done.0, done.1)

pub waives_late : (s : List ℕ) (next n : ℕ) (stored : List ℕ) (rows now : DeskRows) → now ≡ rows → Some stored ≡ stored_text s n rows → bytes_eq stored (codes "waived") ≡ false → WaivesAt s next n rows waiver.Had now
waives_late s next n stored rows now left kept w = λ L r a stands is same row.
    let done = waived_too_late rows L r a n s stored stands is same kept w in (subst (λ d. StandsFor d (r ∷ L)) (sym left) done.0, done.1)

pub waives_new : (s : List ℕ) (next n : ℕ) (t : List ℕ) (rows between now : DeskRows) (answer : DeliveryAnswer) → t ≡ codes "waived" → between ≡ rows → IsStored s n rows None → PutsNew s next n Waived t between answer now → WaivesAt s next n rows waiver.Waived now
waives_new s next n t rows between now answer own left none put = λ L r a stands is same row.
    let there : PutsNew s next n Waived t rows answer now = subst (λ (d : DeskRows). PutsNew s next n Waived t d answer now) left put in
    let new = nothing_stored rows L r a n Waived s stands is same none.0 in
    ((there L r a stands new same (sym own) row).0, sym (ap waived_by (new_there L r a n Waived new)))
