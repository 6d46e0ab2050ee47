use Rattle.std.proofs.Common.{◌≤◌, ◌∙◌, ap, arith, Some}
use Rattle.serde_json.specs.Data.{depth}
use Rattle.serde_json.specs.View.{view}
use Rattle.serde_json.specs.Written.{compact_text, has_float}
use Rattle.std.proofs.lemmas.Result.{IfOk-weaker}
use Rattle.desk_http.proofs.AnswerDepths.{answer_depth}
use Rattle.desk_http.proofs.AnswerFloats.{answer_has_none}
use Rattle.desk_http.proofs.answer_json.value_text.Goals as goal

pub returns-clause-text : goal.returns-clause-text
returns-clause-text c =
    let shown = c.requires in
    IfOk-weaker c.to_string.result _ _ (λ s text. text (ap has_float shown ∙ answer_has_none c.args.answer.now) ∙ ap compact_text shown) c.to_string.ensures.text

pub returns-clause-reads : goal.returns-clause-reads
returns-clause-reads c =
    let shown = c.requires in
    let shallow : depth (view c.args.value) ≤ 127 = rw shown (omega (arith, answer_depth c.args.answer.now)) in
    IfOk-weaker c.to_string.result _ _ (λ s back. back shallow ∙ ap Some shown) c.to_string.ensures.reads_back
