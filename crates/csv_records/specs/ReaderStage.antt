-- What a reader of records has left.
use Rattle.std.specs.Prelude.{◌≡◌, ◌+◌, ℕ, List, [], Option, Some, None, IsSome, length, false, ⊤}
use Rattle.std.specs.Borrow.{Bor}
use Rattle.csv.specs.Machine.{ends_at_end}
use Rattle.csv.specs.Reading.{Ready, default_config, reader_config, reader_state, reader_trim, records_from, source_of}
use Rattle.csv.specs.declared.parser.State.{State}
use Rattle.csv.specs.declared.reader.Reader.{Reader}
use Rattle.csv.specs.declared.reader.Trim.TheVariants as trim
use Rattle.csv_records.specs.declared.reading.Stage.{Stage}
use Rattle.csv_records.specs.declared.reading.Stage.TheVariants as stage

-- the bytes that csv's reader of a text in memory has left
abbrev pub bytes_left : Reader (Bor (List ℕ)) → Option (List ℕ)
bytes_left rdr = source_of (λ text. Some text.now) rdr

-- the records of the bytes that are left, from a state
abbrev pub records_after : State → Option (List ℕ) → List (List (List ℕ))
records_after state None = []
records_after state (Some bytes) = records_from default_config (length bytes + 1) state bytes

-- the records that are left
abbrev pub records_left : Stage → Reader (Bor (List ℕ)) → List (List (List ℕ))
records_left stage.Reading rdr = records_after (reader_state rdr) (bytes_left rdr)
records_left stage.Ended rdr = []
records_left stage.Failed rdr = []

-- csv's reader stands between two records, and what it has left is known
pub record IsBetween (rdr : Reader (Bor (List ℕ))) : Type 0 where
  pub trim : reader_trim rdr ≡ trim.None
  pub ready : Ready rdr
  pub config : reader_config rdr ≡ default_config
  pub known : IsSome (bytes_left rdr)
  pub ended : ends_at_end (reader_state rdr) ≡ false

-- what a reader keeps
abbrev pub HoldsReader : Stage → Reader (Bor (List ℕ)) → Type 0
HoldsReader stage.Reading rdr = IsBetween rdr
HoldsReader stage.Ended rdr = ⊤
HoldsReader stage.Failed rdr = ⊤
