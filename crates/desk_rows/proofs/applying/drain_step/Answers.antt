use Rattle.std.proofs.Common.{ℕ, List, sym, ◌∙◌, true, subst, rules}
use Rattle.desk_catalogue.proofs.DoesLemmas.{called, did_as, did_fail, did_then}
use Rattle.desk_tables.specs.Rows.{DeskRows}
use Rattle.desk_rows.specs.Changes.{AppliesText, DrainsOne}
use Rattle.desk_rows.proofs.Applied.{moved_one, moved_none}
use Rattle.desk_rows.proofs.applying.drain_step.Goals as goal

pub returns-in_default : goal.returns-in_default
returns-in_default g c =
    did_as (called c.in_ok-taken.ensures) (λ rows now one. moved_none c.args.series.now c.args.number rows now (sym c.in_default.is ∙ one.0) one.1)

pub returns : goal.returns
returns g c =
    let s = c.args.series.now in
    let n = c.args.number in
    let t : List ℕ = c.in-Some.text in
    let Done : DeskRows → Unit {0} → DeskRows → Type 0 = λ rows _ now. DrainsOne s n rows true now in
    did_as {First = Done}
    (did_then (called c.in_ok-taken.ensures) c.in_ok-apply_text.ensures
    (λ rows between now k one two. moved_one c.one_standing_text.ensures s n t rows between now (sym c.in-Some.is ∙ one.0) one.1 (subst (λ (x : List ℕ). AppliesText s n x between now) c.as_str.ensures two)))
    (λ rows now one. one)

pub returns-in_err-apply_text : goal.returns-in_err-apply_text
returns-in_err-apply_text g c = did_fail (search rules) (called c.in_ok-taken.ensures) c.in_err-apply_text.ensures
