use Rattle.std.proofs.Common.{◌≡◌, ◌+◌, take, drop, arith, subst, take-append-drop}
use Rattle.std.specs.Io.KnownBytes.{Appends}
use Rattle.std.proofs.KnownBytes.{Appends-kept}
use Rattle.csv_records.proofs.StreamBytes.{appends_more, within_more}
use Rattle.csv_records.proofs.streams.write_whole.Goals as goal

pub returns-in-Ok-eq0-clause-err : goal.returns-in-Ok-eq0-clause-err
returns-in-Ok-eq0-clause-err g c = (
  take c.loop-at.at c.args.bytes.now,
  drop c.loop-at.at c.args.bytes.now,
  take-append-drop c.loop-at.at c.args.bytes.now,
  (let none : c.loop-at.at + c.in-Ok-eq0.field-0 ≡ c.loop-at.at = omega arith in
      subst (λ k. Appends (g.W.Write.contents c.args.writer.now) (g.W.Write.contents c.write.new.self) (take k c.args.bytes.now)) none (appends_more _ _ _ c.args.bytes.now c.loop-at.at c.in-Ok-eq0.field-0 c.loop-at.invariant.so_far c.in-Ok-eq0.ensures.bytes)),
)

pub returns-in-Err-clause-err : goal.returns-in-Err-clause-err
returns-in-Err-clause-err g c = (take c.loop-at.at c.args.bytes.now, drop c.loop-at.at c.args.bytes.now, take-append-drop c.loop-at.at c.args.bytes.now, Appends-kept _ _ _ _ c.loop-at.invariant.so_far c.in-Err.ensures.bytes)

pub loop-at-preserved : goal.loop-at-preserved
loop-at-preserved g c = record {
  within = within_more c.args.bytes.now c.loop-at.at c.in-Ok.n c.loop-at.invariant.within c.in-Ok.ensures.bound;
  so_far = appends_more _ _ _ c.args.bytes.now c.loop-at.at c.in-Ok.n c.loop-at.invariant.so_far c.in-Ok.ensures.bytes;
}
