use Rattle.feed_mapping.proofs.markets.add_kept.Goals as goal

pub returns-clause-reason : goal.returns-clause-reason
returns-clause-reason c notes = rw c.in-Some.is (rw c.as_slice.ensures at (c.add_first.ensures.reason notes))

pub returns-clause-records : goal.returns-clause-records
returns-clause-records c notes = rw c.in-Some.is (rw c.as_slice.ensures at (c.add_first.ensures.records notes))
