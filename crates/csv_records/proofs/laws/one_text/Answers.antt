use Rattle.csv_records.proofs.ReadBack.{one-text, records-again}
use Rattle.csv_records.proofs.laws.one_text.Goals as goal

pub returns : goal.returns
returns c = record { read = records-again; only = one-text }
