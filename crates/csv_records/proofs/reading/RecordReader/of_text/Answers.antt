use Rattle.std.proofs.Common.{refl}
use Rattle.csv_records.specs.RecordTexts.{records_of}
use Rattle.csv_records.proofs.reading.RecordReader.of_text.Goals as goal

pub returns : goal.returns
unfolding records_of
returns c =
    let from = c.from_reader-rdr.ensures in
    rw (from.state, from.source, c.as_bytes.ensures.value) refl
