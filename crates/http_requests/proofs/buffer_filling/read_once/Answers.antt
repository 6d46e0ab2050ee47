-- The read put its bytes behind the filled ones.
use Rattle.std.proofs.Common.{◌≡◌, take, arith, subst}
use Rattle.http_requests.proofs.BufferLemmas.{take_grown, at_end_before}
use Rattle.std.specs.Io.KnownBytes.{Consumes}
use Rattle.http_requests.proofs.buffer_filling.read_once.Goals as goal

pub returns-clause-bytes : goal.returns-clause-bytes
returns-clause-bytes g c = (
  take c.in_ok-count.count c.read.new.buf,
  take_grown c.args.filled _ c.in_ok-count.count c.args.buffer.now c.read.new.buf (omega arith) (omega (arith, c.in_ok-count.ensures.bound)),
  c.in_ok-count.ensures.bytes.0,
)

pub returns-clause-end : goal.returns-clause-end
returns-clause-end g c same =
    let none : c.in_ok-count.count ≡ 0 = omega arith in
    at_end_before _ (g.R.Read.remaining c.read.new.self)
    (subst (λ n. Consumes (g.R.Read.remaining c.args.reader.now) (g.R.Read.remaining c.read.new.self) (take n c.read.new.buf)) none c.in_ok-count.ensures.bytes.0)
    (c.in_ok-count.ensures.bytes.1 none (omega arith))
