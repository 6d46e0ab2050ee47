use Rattle.std.proofs.Common.{◌≡◌, ℕ, List, Option, None, Some, sym, refl, ◌∙◌, ap, rules}
use Rattle.desk_catalogue.proofs.DoesLemmas.{called, did_as, did_fail, did_then}
use Rattle.desk_tables.specs.Rows.{DeskRows, applied_at, held_at}
use Rattle.onix_records.specs.declared.effects.Effect.{Effect}
use Rattle.desk_rows.proofs.Answered.{stored_applied, stored_held}
use Rattle.desk_rows.proofs.answers_at.stored_at.Goals as goal

-- what is applied at the number, and then what is held there
abbrev Both : List ℕ → ℕ → Option (List ℕ × Effect) → DeskRows → Option (List ℕ) → DeskRows → Type 0
Both s n applied rows text now = (now ≡ rows) × (applied ≡ applied_at s n rows) × (text ≡ held_at s n rows)

pub returns-in-Some : goal.returns-in-Some
returns-in-Some g c =
    did_as (called c.in_ok-applied.ensures)
    (λ rows now one. (one.1, stored_applied c.args.series.now c.args.number rows (c.in-Some.text, c.in-Some.effect) c.in_ok-applied.applied (record { text = c.in-Some.text; effect = Some c.in-Some.effect }) one.0 c.in-Some.is refl refl))

pub returns-in-Some-held : goal.returns-in-Some-held
returns-in-Some-held g c =
    let s = c.args.series.now in
    let n = c.args.number in
    did_as {First = Both s n c.in_ok-applied.applied}
    (did_then (called c.in_ok-applied.ensures) (called c.in_ok-held.ensures) (λ rows between now text one two. (two.1 ∙ one.1, one.0, two.0 ∙ ap (held_at s n) one.1)))
    (λ rows now one. (one.0, stored_held s n rows c.in_ok-held.held (Some (record { text = c.in-Some-held.text; effect = None })) (sym one.1 ∙ c.in_default.is) one.2 (sym c.in-Some-held.is) refl))

pub returns-in-None : goal.returns-in-None
returns-in-None g c =
    let s = c.args.series.now in
    let n = c.args.number in
    did_as {First = Both s n c.in_ok-applied.applied}
    (did_then (called c.in_ok-applied.ensures) (called c.in_ok-held.ensures) (λ rows between now text one two. (two.1 ∙ one.1, one.0, two.0 ∙ ap (held_at s n) one.1)))
    (λ rows now one. (one.0, stored_held s n rows c.in_ok-held.held None (sym one.1 ∙ c.in_default.is) one.2 (sym c.in-None.is) refl))

pub returns-in_err-held : goal.returns-in_err-held
returns-in_err-held g c = did_fail (search rules) (called c.in_ok-applied.ensures) (called c.in_err-held.ensures)
