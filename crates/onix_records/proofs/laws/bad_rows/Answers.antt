use Rattle.std.proofs.Common.{ℕ, List}
use Rattle.onix_records.specs.Grammar.{IsBadRow}
use Rattle.onix_records.specs.Message.{bad_row}
use Rattle.onix_records.proofs.FrontRows.{bad-meant, one-bad}
use Rattle.onix_records.proofs.laws.bad_rows.Goals as goal

pub returns : goal.returns
returns c = record {
  computed = λ (records : List (List (List ℕ))) (number : ℕ) (b : IsBadRow records number). one-bad records number (bad_row records) b (bad-meant records);
  meant = bad-meant;
}
