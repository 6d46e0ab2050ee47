use Rattle.std.proofs.Common.{◌≡◌, ℕ, List, Option, Vec, refl, rules, sym, ◌∙◌, subst}
use Rattle.desk_catalogue.proofs.DoesLemmas.{called, did_as, did_both, did_fail, did_stop, did_then}
use Rattle.desk_tables.specs.Rows.{AreHeldNumbers, DeskRows, series_at}
use Rattle.desk_tables.specs.declared.series.SeriesRow.{SeriesRow}
use Rattle.series_rules.specs.Gaps.{AreRisingFrom}
use Rattle.desk_rows.specs.Desks.{Reports}
use Rattle.desk_rows.proofs.GapRows.{no_gaps, some_gaps}
use Rattle.desk_rows.proofs.questions.gaps_in.Goals as goal

-- the row of the series was read, and then its held numbers
abbrev Read : {G : Type 0} → List ℕ → Option SeriesRow → DeskRows → Vec ℕ G → DeskRows → Type 0
Read s row rows numbers now = (row ≡ series_at s rows) × AreHeldNumbers s rows numbers.items × (now ≡ rows)

pub returns-in_default : goal.returns-in_default
returns-in_default g c = did_as (called c.in_ok-found.ensures) (λ rows now one. no_gaps c.args.series.now rows now one.1 (sym c.in_default.is ∙ one.0))

pub returns-in_err-held : goal.returns-in_err-held
returns-in_err-held g c = did_fail (search rules) (called c.in_ok-found.ensures) (called c.in_err-held.ensures)

pub returns : goal.returns
returns g c =
    let s = c.args.series.now in
    let row = c.in-Some.row in
    let numbers : c.as_slice.result.now ≡ c.in_ok-held.held.items = search rules in
    did_as {First = Read s c.in_ok-found.found}
    (did_then (called c.in_ok-found.ensures) (called c.in_ok-held.ensures)
    (λ rows between now ns one two. (one.0, subst (λ (d : DeskRows). AreHeldNumbers s d ns.items) one.1 two.0, two.1 ∙ one.1)))
    (λ rows now one. some_gaps s row c.in_ok-held.held.items rows rows now c.in_ok-report.report refl one.2 (sym c.in-Some.is ∙ one.0) one.1
    (subst (AreRisingFrom row.next) numbers c.in_ok-report.ensures.0) (subst (λ ns. Reports s row.agreement.first row.next ns c.in_ok-report.report) numbers c.in_ok-report.ensures.1))

pub returns-in_err-report : goal.returns-in_err-report
returns-in_err-report g c = did_stop {e = c.in_err-report.field-0.0} (search rules) (did_both (called c.in_ok-found.ensures) (called c.in_ok-held.ensures))
