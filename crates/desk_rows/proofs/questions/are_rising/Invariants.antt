use Rattle.std.proofs.Common.{drop}
use Rattle.series_rules.specs.Gaps.{AreRisingFrom}
use Rattle.desk_rows.proofs.questions.are_rising.Given as goal

-- where the numbers that are left rise from the least one on, all do
abbrev pub invariant-loop-number : goal.invariant-loop-number
invariant-loop-number l = record {
  so_far : AreRisingFrom l.least (drop l.number-index l.numbers) → AreRisingFrom l.fn.from l.numbers;
}
