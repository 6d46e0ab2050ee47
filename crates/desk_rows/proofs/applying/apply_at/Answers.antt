use Rattle.std.proofs.Common.{◌≡◌, ◌+◌, ℕ, List, ap, ◌∙◌, rules}
use Rattle.desk_catalogue.proofs.DoesLemmas.{called, did_as, did_both, did_fail, did_then, put}
use Rattle.desk_tables.specs.Rows.{DeskRows, with_applied, with_next}
use Rattle.desk_rows.specs.Changes.{Applies, AppliesAt}
use Rattle.onix_records.specs.declared.effects.Effect.{Effect}
use Rattle.series_rules.specs.declared.requests.Standing.{Standing}
use Rattle.desk_rows.proofs.applying.apply_at.Goals as goal

pub returns-in_err-put_applied : goal.returns-in_err-put_applied
returns-in_err-put_applied g c = did_fail (search rules) c.in_ok-effect.ensures (put c.in_err-put_applied.ensures)

-- the row was put
abbrev Put : List ℕ → ℕ → Standing → List ℕ → Effect → DeskRows → Unit {0} → DeskRows → Type 0
Put s n h t e rows _ now = (mid : DeskRows) × Applies s h rows e mid × (now ≡ with_applied (record { series = s; number = n; contents = t; effect = e }) mid)

pub returns : goal.returns
returns g c =
    let s = c.args.series.now in
    let n = c.args.number in
    let h = c.args.standing.now in
    let t = c.args.text.now in
    let e = c.in_ok-effect.effect in
    let Done : DeskRows → Unit {0} → DeskRows → Type 0 = λ rows _ now. AppliesAt s n h t rows e now in
    let at = ap (λ k. k + 1) c.value.ensures.value in
    did_as {First = Done}
    (did_then {First = Put s n h t e}
    (did_then c.in_ok-effect.ensures (put c.in_ok-put_applied.ensures) (λ rows between now b one two. (between, one, two)))
    (called c.in_ok-set_next.ensures)
    (λ rows between now b one two. (
      one.0,
      one.1,
      two.1 ∙ ap (λ d. with_next s (c.value.result + 1) d) one.2 ∙ ap (λ k. with_next s k (with_applied (record { series = s; number = n; contents = t; effect = e }) one.0)) at,
    )))
    (λ rows now one. one)

pub returns-in_err-set_next : goal.returns-in_err-set_next
returns-in_err-set_next g c = did_fail (search rules) (did_both c.in_ok-effect.ensures (put c.in_ok-put_applied.ensures)) (called c.in_err-set_next.ensures)
