use Rattle.std.proofs.Common.{refl, arith}
use Rattle.std.proofs.lemmas.List.{map-append}
use Rattle.csv_records.proofs.CutFacts.{take-get}
use Rattle.csv_records.proofs.record.Record.fill.Goals as goal

pub loop-i-preserved : goal.loop-i-preserved
loop-i-preserved c =
    let step = take-get c.args.self.now c.loop-i.i c.at.result.now c.at.ensures in
    let pushed = c.push_reserved.ensures in
    record {
      room = omega (arith, c.loop-i.invariant.room, pushed.len, pushed.capacity);
      so_far = rw (pushed.items, map-append, c.loop-i.invariant.so_far, step) refl;
    }
