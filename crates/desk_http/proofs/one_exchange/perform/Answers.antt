use Rattle.std.proofs.Common.{[], refl, subst, sym}
use Rattle.desk_http.specs.Exchange.{RepliesTo, refused}
use Rattle.desk_http.specs.Refusals.{reply_of_refusal}
use Rattle.desk_http.specs.declared.exchange.Wanted.TheVariants.{Refused}
use Rattle.desk_http.proofs.one_exchange.perform.Goals as goal

pub returns-in-Ok : goal.returns-in-Ok
returns-in-Ok g c =
    ([], refl, (rw c.in-Refused.is (subst (RepliesTo (Refused c.in-Refused.why) []) (sym c.in-Ok.ensures.reply) refused), c.in-Ok.ensures.taken))

pub returns-in-Err : goal.returns-in-Err
returns-in-Err g c = ([], refl, ((reply_of_refusal c.in-Refused.why, rw c.in-Refused.is refused), refl))
