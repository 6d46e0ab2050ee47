use Rattle.std.proofs.Common.{◌≡◌, Some, map, take}
use Rattle.desk_tables.specs.ArticleAnswers.{read_shown}
use Rattle.desk_tables.specs.RecordAnswers.{AreRising}
use Rattle.desk_tables.proofs.article_offers.prices_in.Given as goal

abbrev pub invariant-loop-row : goal.invariant-loop-row
invariant-loop-row l = AreRising l.minimums → map (λ p. Some p) l.prices ≡ map (read_shown l.minimums) (take l.row-index l.rows.items)
