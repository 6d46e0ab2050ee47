use Rattle.std.proofs.Common.{◌≡◌, ◌∙◌, ◌++◌, ap, append_assoc, refl, rules, string_bytes, subst, sym}
use Rattle.std.proofs.KnownBytes.{Appends-trans}
use Rattle.std.specs.Io.KnownBytes.{Appends}
use Rattle.desk_http.specs.ExchangeSteps.{reply_view}
use Rattle.desk_http.specs.Reply.{head_text}
use Rattle.desk_http.proofs.one_exchange.send_parts.Goals as goal

pub returns-in-Ok-write_whole-clause-write : goal.returns-in-Ok-write_whole-clause-write
returns-in-Ok-write_whole-clause-write g c =
    let head = head_text (reply_view c.args.reply.now) in
    let head_is : c.as_bytes.result.now ≡ head = search rules in
    let body_is : c.as_bytes-in-Ok-write_whole.result.now ≡ string_bytes c.args.reply.now.body = search rules in
    let err = c.in-Err-write_whole.ensures.err in
    (refl, (head ++ err.0, err.1, append_assoc head err.0 err.1 ∙ ap (λ t. head ++ t) (err.2 ∙ body_is), Appends-trans _ _ _ _ _ (subst (Appends _ _) head_is c.in-Ok-write_whole.ensures.ok) err.3))

pub returns-clause-write : goal.returns-clause-write
returns-clause-write g c =
    let head = head_text (reply_view c.args.reply.now) in
    let head_is : c.as_bytes.result.now ≡ head = search rules in
    let body = string_bytes c.args.reply.now.body in
    let err = c.in-Err.ensures.err in
    (refl, (err.0, err.1 ++ body, sym (append_assoc err.0 err.1 body) ∙ ap (λ t. t ++ body) (err.2 ∙ head_is), err.3))
