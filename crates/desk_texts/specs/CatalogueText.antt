-- The records of a catalogue in the answer to a question.
use Rattle.std.specs.Prelude.{ℕ, List, [], ◌∷◌, codes}
use Rattle.std.specs.Fmt.{decimal}
use Rattle.std.specs.FinMap.{len}
use Rattle.std.specs.List.{flat_map}
use Rattle.onix_records.specs.Product.{identifier_fields}
use Rattle.onix_records.specs.Supply.{supplies_records}
use Rattle.catalogue_rules.specs.declared.entry.Entry.{Entry}
use Rattle.catalogue_rules.specs.Records.{ByReference, records_of}
use Rattle.desk_texts.specs.Records.{Records}

-- what a catalogue keeps under a reference: its identifiers, then its supplies
abbrev pub entry_records : List ℕ × Entry → Records
entry_records (reference, e) =
    (codes "record" ∷ reference ∷ flat_map identifier_fields e.ids)
    ∷ supplies_records e.supplies

-- the catalogue of a series: how many records it has, then each in order of reference
unfoldable pub catalogue_records : List ℕ → ByReference → Records
catalogue_records series m =
    (codes "catalogue" ∷ series ∷ decimal (len m) ∷ [])
    ∷ flat_map entry_records (records_of m)
