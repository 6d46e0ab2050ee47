use Rattle.std.proofs.KnownBytes.{Appends-nil}
use Rattle.std.proofs.Common.{◌≡◌, refl, rules, [], Err}
use Rattle.std.specs.Io.KnownBytes.{Appends}
use Rattle.desk_http.specs.ExchangeSteps.{reply_view}
use Rattle.desk_http.proofs.ExchangeLemmas.{cut, replied, unread, unreplied}
use Rattle.desk_http.proofs.one_exchange.serve_routed.Goals as goal

pub returns-in_err-wanted-clause-served : goal.returns-in_err-wanted-clause-served
returns-in_err-wanted-clause-served g c =
    let written = Appends (g.W.Write.contents c.args.writer.now) (g.W.Write.contents c.args.writer.now) in
    let fault = c.in_err-wanted.field-0.0 in
    let failed = c.in_err-wanted.ensures in
    let is : c.from_residual.result ≡ Err fault = search rules in
    ([], refl, rw is (unread (g.R.Read.remaining c.args.reader.now) written fault failed.write failed.memory (Appends-nil _)))

pub returns-in_err-reply-clause-served : goal.returns-in_err-reply-clause-served
returns-in_err-reply-clause-served g c =
    let written = Appends (g.W.Write.contents c.args.writer.now) (g.W.Write.contents c.args.writer.now) in
    let fault = c.in_err-reply.field-0.0 in
    let asked = c.in_err-reply.ensures in
    let is : c.from_residual-in_err-reply.result ≡ Err fault = search rules in
    (asked.0, asked.1, rw is (unreplied (g.R.Read.remaining c.args.reader.now) written c.in_ok-wanted.wanted asked.0 c.in_ok-wanted.ensures.asks fault asked.2 (Appends-nil _)))

pub returns-clause-served : goal.returns-clause-served
returns-clause-served g c =
    let written = Appends (g.W.Write.contents c.args.writer.now) (g.W.Write.contents c.send.new.writer) in
    let reply = c.in_ok-reply.reply in
    let asked = c.in_ok-reply.ensures in
    (asked.0, asked.1, replied (g.R.Read.remaining c.args.reader.now) written c.in_ok-wanted.wanted asked.0 c.in_ok-wanted.ensures.asks reply.taken (reply_view reply) asked.2.0 c.in_ok-send.ensures.ok)

pub returns-in_err-send-clause-served : goal.returns-in_err-send-clause-served
returns-in_err-send-clause-served g c =
    let written = Appends (g.W.Write.contents c.args.writer.now) (g.W.Write.contents c.send.new.writer) in
    let reply = c.in_ok-reply.reply in
    let asked = c.in_ok-reply.ensures in
    let fault = c.in_err-send.field-0.0 in
    let failed = c.in_err-send.ensures in
    let is : c.from_residual-in_err-send.result ≡ Err fault = search rules in
    (asked.0, asked.1, rw is (cut (g.R.Read.remaining c.args.reader.now) written c.in_ok-wanted.wanted asked.0 c.in_ok-wanted.ensures.asks reply.taken (reply_view reply) asked.2.0 asked.2.1 fault failed.memory failed.write failed.read failed.unsent))
