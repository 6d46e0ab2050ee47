use Rattle.std.proofs.Common.{◌≡◌, Option, None, sym, ap, ◌∙◌, rules}
use Rattle.desk_catalogue.proofs.DoesLemmas.{called, did_as, did_both, did_fail, did_then, put}
use Rattle.desk_tables.specs.Rows.{DeskRows, series_at, series_between, with_series}
use Rattle.desk_tables.specs.declared.series.SeriesRow.{SeriesRow}
use Rattle.onix_records.specs.declared.agreements.Agreement.{Agreement}
use Rattle.series_rules.specs.Answers.{agree_answer}
use Rattle.series_rules.specs.declared.answers.AgreeAnswer.TheVariants.{Agreed}
use Rattle.series_rules.specs.declared.requests.Request.TheVariants.{Agree}
use Rattle.desk_rows.specs.Desks.{Answers}
use Rattle.desk_rows.proofs.Agreed.{agrees_named, agrees_new, agrees_taken}
use Rattle.desk_rows.proofs.decisions.agree_in.Goals as goal

-- nobody has the name, and then it was asked who has the parties
abbrev Free : Agreement → DeskRows → Option SeriesRow → DeskRows → Type 0
Free a rows taken now = (now ≡ rows) × (None ≡ series_at a.name rows) × (taken ≡ series_between a.sender a.addressee rows)

pub returns-in-Some : goal.returns-in-Some
returns-in-Some g c =
    did_as (called c.in_ok-named.ensures)
    (λ rows now one. agrees_named rows now c.args.agreement.now c.in-Some.row c.answer_named.result one.1 (sym c.in-Some.is ∙ one.0) c.answer_named.ensures)

pub returns-in_err-taken : goal.returns-in_err-taken
returns-in_err-taken g c = did_fail (search rules) (called c.in_ok-named.ensures) (called c.in_err-taken.ensures)

pub returns-in-Some-taken : goal.returns-in-Some-taken
returns-in-Some-taken g c =
    let a = c.args.agreement.now in
    did_as {First = Free a}
    (did_then (called c.in_ok-named.ensures) (called (rw c.as_ref.ensures.value at c.in_ok-taken.ensures))
    (λ rows between now taken one two. (two.1 ∙ one.1, sym c.in_default.is ∙ one.0, two.0 ∙ ap (series_between a.sender a.addressee) one.1)))
    (λ rows now one. agrees_taken rows now a c.in-Some-taken.row one.0 one.1 (sym c.in-Some-taken.is ∙ one.2))

pub returns : goal.returns
returns g c =
    let a = c.args.agreement.now in
    let Done : DeskRows → Unit {0} → DeskRows → Type 0 = λ rows _ now. Answers (Agree a) (λ L. agree_answer L a) rows Agreed now in
    did_as {First = Done}
    (did_then {First = Free a}
    (did_then (called c.in_ok-named.ensures) (called (rw c.as_ref.ensures.value at c.in_ok-taken.ensures))
    (λ rows between now taken one two. (two.1 ∙ one.1, sym c.in_default.is ∙ one.0, two.0 ∙ ap (series_between a.sender a.addressee) one.1)))
    (put c.in_ok-put_series.ensures)
    (λ rows between now x one two. agrees_new rows now a (two ∙ ap (with_series a) one.0) one.1 (sym c.in_default-taken.is ∙ one.2)))
    (λ rows now one. one)

pub returns-in_err-put_series : goal.returns-in_err-put_series
returns-in_err-put_series g c = did_fail (search rules) (did_both (called c.in_ok-named.ensures) (called c.in_ok-taken.ensures)) (put c.in_err-put_series.ensures)
