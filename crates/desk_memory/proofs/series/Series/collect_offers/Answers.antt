use Rattle.desk_memory.proofs.series.Series.collect_offers.Goals as goal

pub returns-then-is_whole : goal.returns-then-is_whole
returns-then-is_whole g c = rw (← c.self.view_is) (λ hs is. c.collect_offers.ensures c.self.inside.agreement.first hs (c.is_whole.ensures hs is c.if-is_whole.true))
