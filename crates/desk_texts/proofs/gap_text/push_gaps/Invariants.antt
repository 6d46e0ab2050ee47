use Rattle.std.proofs.Common.{◌≡◌, ◌++◌, map, take}
use Rattle.desk_texts.specs.GapText.{missing_fields}
use Rattle.desk_texts.proofs.gap_text.push_gaps.Given as goal

abbrev pub invariant-loop-range : goal.invariant-loop-range
invariant-loop-range l = l.records ≡ l.initial.records ++ map missing_fields (take l.range-index l.missing)
