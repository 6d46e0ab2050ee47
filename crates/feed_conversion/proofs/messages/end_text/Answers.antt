use Rattle.std.proofs.Common.{◌≡◌, ◌∷◌, [], ◌++◌, ◌∙◌, ap, ℕ, List}
use Rattle.std.specs.Prelude.{codes}
use Rattle.feed_conversion.specs.Messages.{closing_record}
use Rattle.feed_conversion.proofs.messages.end_text.Goals as goal

pub returns : goal.returns
returns c =
    let fields : c.push-2.new.self ≡ closing_record c.args.before =
    c.in_ok-push-2.ensures.ok
    ∙ ap (λ (fs : List (List ℕ)). fs ++ c.format.result.now ∷ []) (c.in_ok-push.ensures.ok ∙ ap (λ (fs : List (List ℕ)). fs ++ codes "EndMessage" ∷ []) c.new-fields.ensures)
    ∙ ap (λ (t : List ℕ). codes "EndMessage" ∷ t ∷ []) c.format.ensures.text in
    rw fields at c.record_text.ensures
