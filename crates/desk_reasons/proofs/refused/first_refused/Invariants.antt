use Rattle.std.proofs.Common.{◌≡◌, ◌<◌, ℕ, false}
use Rattle.csv_records.specs.RecordTexts.{records_of}
use Rattle.desk_reasons.specs.Refused.{is_refused_at}
use Rattle.desk_reasons.proofs.refused.first_refused.Given as goal

abbrev pub invariant-loop-place : goal.invariant-loop-place
invariant-loop-place l =
    (place : ℕ) → place < l.place
    → is_refused_at (records_of l.before) l.given l.sample place ≡ false
