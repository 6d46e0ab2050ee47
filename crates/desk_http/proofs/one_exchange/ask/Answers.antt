use Rattle.std.proofs.Common.{string_bytes, refl, subst, sym, ◌∷◌, [], Ok, Err}
use Rattle.desk_http.specs.AnswerReply.{reply_of_answer, reply_of_fault}
use Rattle.desk_http.specs.Exchange.{RepliesTo, answered, faulted}
use Rattle.desk_http.specs.declared.exchange.Wanted.TheVariants.{Asked}
use Rattle.desk_http.proofs.ExchangeLemmas.{reply_is}
use Rattle.desk_http.proofs.one_exchange.ask.Goals as goal

pub returns-in-Ok-reply_of : goal.returns-in-Ok-reply_of
returns-in-Ok-reply_of g c =
    let r = c.args.request.now in
    let a = c.in-Ok.answer in
    let is = reply_is a c.in-Ok-reply_of.status (string_bytes c.in-Ok-reply_of.body) c.in-Ok-reply_of.ensures.status c.in-Ok-reply_of.ensures.body in
    ((r, Ok a) ∷ [], (_, c.in-Ok.ensures.asks, refl), (subst (RepliesTo (Asked r) ((r, Ok a) ∷ [])) (sym is) answered, refl))

pub returns-in-Ok : goal.returns-in-Ok
returns-in-Ok g c = ((c.args.request.now, Ok c.in-Ok.answer) ∷ [], (_, c.in-Ok.ensures.asks, refl), ((reply_of_answer c.in-Ok.answer, answered), refl))

pub returns-in-Ok-reply_of_fault : goal.returns-in-Ok-reply_of_fault
returns-in-Ok-reply_of_fault g c =
    let given = c.in-Ok-reply_of_fault.ensures in
    let r = c.args.request.now in
    let f = c.in-Err.fault in
    ((r, Err f) ∷ [], (_, c.in-Err.ensures.asks, refl), (subst (RepliesTo (Asked r) ((r, Err f) ∷ [])) (sym given.reply) faulted, given.taken))

pub returns : goal.returns
returns g c = ((c.args.request.now, Err c.in-Err.fault) ∷ [], (_, c.in-Err.ensures.asks, refl), ((reply_of_fault c.in-Err.fault, faulted), refl))
