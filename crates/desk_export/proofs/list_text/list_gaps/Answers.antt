use Rattle.std.proofs.Common.{◌∙◌, ◌∷◌, [], Some, ap, subst}
use Rattle.desk_texts.specs.AnswerText.{text_of}
use Rattle.series_rules.specs.declared.answers.Answer.TheVariants.{Gaps}
use Rattle.desk_export.specs.Exporting.{Takes}
use Rattle.desk_export.specs.ListTexts.{report_text}
use Rattle.desk_export.proofs.TakenTexts.{report_is, told_taken}
use Rattle.desk_export.proofs.list_text.list_gaps.Goals as goal

pub returns : goal.returns
returns g c =
    let a = c.args.agreement.now in
    let report = c.in-Ok-Some.report in
    told_taken (λ L. report_text L a) (Some report) c.take_text.result (rw c.in-Ok-Some.field-0-is at c.in-Ok-Some.ensures)
    (λ L agreed told. subst (λ text. Takes g.T.TakesTexts.takes g.T.TakesTexts.takes_part c.args.taker.now c.take_text.new.taker (text ∷ []) c.take_text.result)
    (c.as_str.ensures.value ∙ c.in_ok-text.ensures ∙ ap (λ r. text_of (Gaps r)) (report_is L a report agreed told)) c.take_text.ensures)
