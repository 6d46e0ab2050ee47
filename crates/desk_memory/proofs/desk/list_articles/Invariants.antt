use Rattle.std.proofs.Common.{◌≡◌}
use Rattle.desk_memory.proofs.desk.list_articles.Given as goal

-- each series stays as contracts see it
abbrev pub invariant-loop-series : goal.invariant-loop-series
invariant-loop-series l = l.series-items ≡ l.fn.kept.items
