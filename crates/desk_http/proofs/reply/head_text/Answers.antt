use Rattle.std.proofs.Common.{◌∙◌, append_assoc}
use Rattle.std.proofs.lemmas.Result.{IfOk-weaker}
use Rattle.desk_http.specs.Reply.{head_text}
use Rattle.desk_http.proofs.reply.head_text.Goals as goal

pub returns : goal.returns
unfolding head_text
returns c = IfOk-weaker c.format.result _ _ (λ s h. h ∙ rw (c.phrase_of-phrase.ensures, c.in_ok-allow.ensures) (simp append_assoc)) c.format.ensures.ok
