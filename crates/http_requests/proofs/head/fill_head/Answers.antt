-- Each exit of the loop is what the definition says of the known input.
use Rattle.std.proofs.Common.{◌≡◌, ◌≤◌, length, take, ◌<◌, arith, length-take}
use Rattle.std.proofs.lemmas.List.{take_all}
use Rattle.std.proofs.lemmas.Result.{err_from_is_err_and}
use Rattle.std.specs.Io.KnownBytes.{Consumes}
use Rattle.std.proofs.KnownBytes.{Consumes-nil, Consumes-trans}
use Rattle.http_requests.specs.Head.{IsRefused}
use Rattle.http_requests.specs.declared.refusal.Refusal.TheVariants.{BadHead}
use Rattle.http_requests.proofs.BufferLemmas.{known_from, known_at_end, takes_once}
use Rattle.http_requests.proofs.HeadLemmas.{no_head_in_nothing}
use Rattle.http_requests.proofs.RefusalLemmas.{refused_short, refused_decided, refused_full}
use Rattle.http_requests.proofs.head.fill_head.Goals as goal

pub loop-filled-init : goal.loop-filled-init
loop-filled-init g c = record {
  within = omega arith;
  room = c.requires.room;
  fields = c.requires.fields;
  read = Consumes-nil _;
  none = no_head_in_nothing;
}

pub returns-then-total-filled-clause-refused : goal.returns-then-total-filled-clause-refused
returns-then-total-filled-clause-refused g c =
    let text = take c.loop-filled.filled c.loop-filled.bytes in
    let short : length text < 16384 = omega (arith, length-take c.loop-filled.filled c.loop-filled.bytes) in
    known_at_end (λ input. IsRefused input BadHead) _ (g.R.Read.remaining c.loop-filled.reader) text c.loop-filled.invariant.read
    (c.in_ok-total.ensures.end c.if-total-filled.true) (refused_short text short c.loop-filled.invariant.none)

pub returns-in_err-parts-clause-refused : goal.returns-in_err-parts-clause-refused
returns-in_err-parts-clause-refused g c =
    let text = take c.in_ok-total.total c.read_once.new.buffer in
    let fits : length text ≤ 16384 = omega (arith, length-take c.in_ok-total.total c.read_once.new.buffer) in
    let step = c.in_ok-total.ensures.bytes in
    let before = Consumes-trans _ (g.R.Read.remaining c.loop-filled.reader) (g.R.Read.remaining c.read_once.new.reader) _ step.0 c.loop-filled.invariant.read step.2 in
    let read : Consumes (g.R.Read.remaining c.args.reader.now) (g.R.Read.remaining c.read_once.new.reader) text = rw step.1 before in
    let never = c.in_err-parts.ensures.never in
    let ended = c.in_err-parts.ensures.ended in
    let made = err_from_is_err_and c.from_residual-in_err-parts.result c.from_residual-in_err-parts.ensures.1 in
    rw (made.1, made.2, c.in_err-parts.ensures.why) (known_from (λ input. IsRefused input BadHead) _ (g.R.Read.remaining c.read_once.new.reader) text read
    (λ more. refused_decided text more fits never ended))

pub returns-clause-refused : goal.returns-clause-refused
returns-clause-refused g c =
    let all : take c.loop-filled.filled c.loop-filled.bytes ≡ c.loop-filled.bytes = take_all _ _ (omega arith) in
    let inv = c.loop-filled.invariant in
    rw c.refusal_of_full.ensures (known_from _ _ (g.R.Read.remaining c.loop-filled.reader) c.loop-filled.bytes (rw all at inv.read)
    (λ more. refused_full c.loop-filled.bytes more inv.room (rw all at inv.none)))

pub returns-then-total-filled-clause-taken : goal.returns-then-total-filled-clause-taken
returns-then-total-filled-clause-taken g c =
    let step = c.in_ok-total.ensures.bytes in
    takes_once 16384 c.loop-filled.filled c.in_ok-total.total _ (g.R.Read.remaining c.loop-filled.reader) (g.R.Read.remaining c.read_once.new.reader) c.loop-filled.bytes c.read_once.new.buffer step.0
    c.loop-filled.invariant.read step.1 step.2 (omega (arith, c.in_ok-total.ensures.grows))

pub returns-in_err-parts-clause-taken : goal.returns-in_err-parts-clause-taken
returns-in_err-parts-clause-taken g c =
    let step = c.in_ok-total.ensures.bytes in
    takes_once 16384 c.loop-filled.filled c.in_ok-total.total _ (g.R.Read.remaining c.loop-filled.reader) (g.R.Read.remaining c.read_once.new.reader) c.loop-filled.bytes c.read_once.new.buffer step.0
    c.loop-filled.invariant.read step.1 step.2 (omega (arith, c.in_ok-total.ensures.grows))

pub returns-in-Some-clause-taken : goal.returns-in-Some-clause-taken
returns-in-Some-clause-taken g c =
    let step = c.in_ok-total.ensures.bytes in
    takes_once 16384 c.loop-filled.filled c.in_ok-total.total _ (g.R.Read.remaining c.loop-filled.reader) (g.R.Read.remaining c.read_once.new.reader) c.loop-filled.bytes c.read_once.new.buffer step.0
    c.loop-filled.invariant.read step.1 step.2 (omega (arith, c.in_ok-total.ensures.grows))
