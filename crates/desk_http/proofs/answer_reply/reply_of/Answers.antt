use Rattle.desk_http.specs.AnswerReply.{reply_of_answer}
use Rattle.desk_http.proofs.answer_reply.reply_of.Goals as goal

pub returns-clause-body : goal.returns-clause-body
unfolding reply_of_answer
returns-clause-body c = c.in_ok-body.ensures.text

pub returns-clause-reads : goal.returns-clause-reads
returns-clause-reads c = c.in_ok-body.ensures.reads
