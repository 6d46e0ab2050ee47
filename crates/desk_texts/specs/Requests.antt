-- The requests of a text.
use Rattle.std.specs.Prelude.{◌≡◌, ◌<◌, ◌≤◌, ℕ, List, Result, Ok, Err, IsUtf8, length, map, ⊤}
use Rattle.csv_records.specs.RecordTexts.{limit, records_of}
use Rattle.csv_records.specs.declared.reading.RecordFault.{RecordFault}
use Rattle.csv_records.specs.declared.reading.RecordFault.TheVariants as record_fault
use Rattle.series_rules.specs.declared.requests.Request.{Request}
use Rattle.desk_texts.specs.Pieces.{pieces}
use Rattle.desk_texts.specs.RequestRows.{request_of}

-- the requests of a text: each piece of its records is one
unfoldable pub requests_of : List ℕ → List Request
requests_of text = map request_of (pieces (records_of text))

-- a text that has records: it is not too long, and UTF-8
abbrev pub HasRecords : List ℕ → Type 0
HasRecords text = (length text ≤ limit) × IsUtf8 text

-- why a text has no records
abbrev pub RecordsFit : List ℕ → RecordFault → Type 0
RecordsFit text record_fault.TooLarge = limit < length text
RecordsFit text record_fault.NotUtf8 = (length text ≤ limit) × ¬ (IsUtf8 text)
RecordsFit text record_fault.Memory = ⊤

-- how reading the requests of a text can end, once it is read
abbrev pub TextFits : List ℕ → Result (List Request) RecordFault → Type 0
TextFits text (Ok rs) = HasRecords text × (rs ≡ requests_of text)
TextFits text (Err f) = RecordsFit text f
