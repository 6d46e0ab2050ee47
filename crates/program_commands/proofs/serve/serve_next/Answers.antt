use Rattle.std.proofs.Common.{Err, [], inl, inr, refl}
use Rattle.std.proofs.KnownBytes.{Appends-nil}
use Rattle.std.specs.Io.KnownBytes.{Appends}
use Rattle.desk_http.specs.declared.exchange.HttpFault.TheVariants.{Read}
use Rattle.program_commands.proofs.ClientLemmas.{client_of}
use Rattle.program_commands.specs.Serving.{exchange}
use Rattle.program_commands.proofs.serve.serve_next.Goals as goal

pub returns-in-Ok-Some-clause-served : goal.returns-in-Ok-Some-clause-served
returns-in-Ok-Some-clause-served g c =
    let may = rw c.in-Ok-Some.field-0-is at c.in-Ok-Some.ensures.client in
    inl (client_of _ _ (Appends (g.C.Writer.Write.contents c.in-Ok-Some.writer) (g.C.Writer.Write.contents c.serve_connection-ended.new.client.writer))
    (g.C.Clients.takes_batches c.args.clients.now) _ c.serve_connection-ended.result c.in-Ok-Some.protocol may c.serve_connection-ended.ensures.served)

pub returns-in-Ok-None-clause-served : goal.returns-in-Ok-None-clause-served
returns-in-Ok-None-clause-served g c = inl (record {
  connection = record { steps = []; ending = exchange (Err Read) };
  is_served = (tt, (refl, tt));
  were_asked = refl;
  line = c.print_line.ensures;
})

pub returns-in-Err-clause-served : goal.returns-in-Err-clause-served
returns-in-Err-clause-served g c = inr (tt, refl, Appends-nil (g.O.Write.contents c.args.streams.now.output))
