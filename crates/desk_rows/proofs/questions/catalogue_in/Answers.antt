use Rattle.std.proofs.Common.{Some, sym, ◌∙◌, rules}
use Rattle.catalogue_rules.specs.Records.{ByReference}
use Rattle.desk_catalogue.proofs.DoesLemmas.{called, did_as, did_fail, did_then}
use Rattle.desk_tables.specs.Rows.{DeskRows}
use Rattle.series_rules.specs.Answers.{catalogue_answer}
use Rattle.desk_rows.specs.Desks.{OnlyAnswers}
use Rattle.desk_rows.proofs.QuestionRows.{no_catalogue, one_catalogue}
use Rattle.desk_rows.proofs.questions.catalogue_in.Goals as goal

pub returns-in_default : goal.returns-in_default
returns-in_default g c =
    did_as (called c.in_ok-found.ensures) (λ rows now one. no_catalogue c.args.series.now rows now one.1 (sym c.in_default.is ∙ one.0))

pub returns : goal.returns
returns g c =
    let s = c.args.series.now in
    let Done : DeskRows → ByReference → DeskRows → Type 0 = λ rows m now. OnlyAnswers (λ L. catalogue_answer L s) rows (Some m) now in
    did_as {First = Done}
    (did_then (called c.in_ok-found.ensures) c.in_ok-catalogue.ensures.catalogue
    (λ rows between now m one two. one_catalogue s c.in-Some._row rows between now m one.1 two.0 (sym c.in-Some.is ∙ one.0) two.1))
    (λ rows now one. one)

pub returns-in_err-catalogue : goal.returns-in_err-catalogue
returns-in_err-catalogue g c = did_fail (search rules) (called c.in_ok-found.ensures) c.in_err-catalogue.ensures.catalogue
