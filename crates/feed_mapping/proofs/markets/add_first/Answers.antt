use Rattle.feed_mapping.proofs.MarketLaws.{filled-reason, filled-records, long-reason, long-records}
use Rattle.feed_mapping.proofs.markets.add_first.Goals as goal

pub returns-then-is_filled-clause-reason : goal.returns-then-is_filled-clause-reason
returns-then-is_filled-clause-reason c notes = filled-reason _ _ _ notes c.if-is_filled.true c.in_ok-is_filled.ensures

pub returns-then-is_filled-clause-records : goal.returns-then-is_filled-clause-records
returns-then-is_filled-clause-records c notes =
    let written = filled-records _ _ _ notes c.if-is_filled.true c.in_ok-is_filled.ensures in
    cc (written, c.in_ok-push.ensures.ok, c.as_record.ensures)

pub returns-clause-reason : goal.returns-clause-reason
returns-clause-reason c notes = let long = long-reason _ _ _ notes c.if-is_filled.false c.in_ok-is_filled.ensures in cc (long, c.foreign.ensures)

pub returns-clause-records : goal.returns-clause-records
returns-clause-records c notes = long-records _ _ _ notes c.if-is_filled.false c.in_ok-is_filled.ensures c.args.records.now
