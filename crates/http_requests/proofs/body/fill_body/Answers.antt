-- Each exit took what was read so far, and maybe one more read.
use Rattle.std.proofs.Common.{◌≡◌, ◌++◌, arith, take}
use Rattle.std.proofs.KnownBytes.{Consumes-kept, Consumes-trans}
use Rattle.http_requests.proofs.BufferLemmas.{filled_more, lent_more, takes_behind}
use Rattle.http_requests.proofs.body.fill_body.Goals as goal

pub returns-clause-taken : goal.returns-clause-taken
returns-clause-taken g c =
    let so_far = c.loop-filled.invariant.read in
    takes_behind c.args.size c.loop-filled.filled _ _ (g.R.Read.remaining c.loop-filled.reader) c.args.body.now.items so_far.0 c.loop-filled.body.items so_far.2 so_far.1 (omega arith) (omega arith) (omega arith)

pub returns-in_err-total-clause-taken : goal.returns-in_err-total-clause-taken
returns-in_err-total-clause-taken g c =
    let so_far = c.loop-filled.invariant.read in
    let read = Consumes-kept _ (g.R.Read.remaining c.loop-filled.reader) (g.R.Read.remaining c.read_once.new.reader) so_far.0 so_far.2 c.in_err-total.ensures.err in
    takes_behind c.args.size c.loop-filled.filled _ _ (g.R.Read.remaining c.read_once.new.reader) c.args.body.now.items so_far.0 c.loop-filled.body.items read so_far.1 (omega arith) (omega arith) (omega arith)

pub returns-then-total-filled-clause-taken : goal.returns-then-total-filled-clause-taken
returns-then-total-filled-clause-taken g c =
    let so_far = c.loop-filled.invariant.read in
    let step = c.in_ok-total.ensures.bytes in
    let grows = c.in_ok-total.ensures.grows in
    let lent : take c.loop-filled.filled c.as_mut_slice.result.now ≡ take c.loop-filled.filled c.loop-filled.body.items = rw c.as_mut_slice.ensures.value c.in_ok-make_room.ensures.kept in
    takes_behind c.args.size c.in_ok-total.total _ _ (g.R.Read.remaining c.read_once.new.reader) c.args.body.now.items (so_far.0 ++ step.0) c.read_once.new.buffer
    (Consumes-trans _ (g.R.Read.remaining c.loop-filled.reader) (g.R.Read.remaining c.read_once.new.reader) so_far.0 step.0 so_far.2 step.2)
    (filled_more c.loop-filled.filled c.in_ok-total.total c.args.body.now.items so_far.0 c.loop-filled.body.items c.as_mut_slice.result.now c.read_once.new.buffer step.0 so_far.1 lent step.1)
    (omega (arith, grows)) (omega (arith, grows)) (omega arith)

pub loop-filled-preserved : goal.loop-filled-preserved
loop-filled-preserved g c =
    let so_far = c.loop-filled.invariant.read in
    let step = c.in_ok-total.ensures.bytes in
    let grows = c.in_ok-total.ensures.grows in
    let lent : take c.loop-filled.filled c.as_mut_slice.result.now ≡ take c.loop-filled.filled c.loop-filled.body.items = rw c.as_mut_slice.ensures.value c.in_ok-make_room.ensures.kept in
    let more = filled_more c.loop-filled.filled c.in_ok-total.total c.args.body.now.items so_far.0 c.loop-filled.body.items c.as_mut_slice.result.now c.read_once.new.buffer step.0 so_far.1 lent step.1 in
    record {
      within = omega (arith, grows, c.as_mut_slice.ensures.len);
      fits = c.in_ok-make_room.ensures.fits;
      least = omega (arith, grows);
      read = (
        so_far.0 ++ step.0,
        lent_more c.in_ok-total.total _ c.read_once.new.buffer _ _ more (omega (arith, grows)) (omega (arith, grows, c.as_mut_slice.ensures.len)),
        Consumes-trans _ (g.R.Read.remaining c.loop-filled.reader) (g.R.Read.remaining c.read_once.new.reader) so_far.0 step.0 so_far.2 step.2,
      );
    }
