-- The deliveries of files.
use Rattle.std.specs.Prelude.{◌≡◌, ◌≢◌, ◌+◌, ◌∷◌, ℕ, Bool, List, [], Option, Result, Ok, Err, ⊤, Vec, codes}
use Rattle.std.specs.declared.alloc.Global.{Global}
use Rattle.csv_records.specs.RecordTexts.{limit, records_of}
use Rattle.csv_records.specs.Streams.{IsTold, TakesAtMost}
use Rattle.csv_records.specs.declared.reading.RecordFault.TheVariants as record_fault
use Rattle.program_files.specs.Holdings.{Holdings}
use Rattle.series_rules.specs.Steps.{Step}
use Rattle.series_rules.specs.declared.requests.Request.{Request}
use Rattle.series_rules.specs.declared.requests.Request.TheVariants.{Deliver}
use Rattle.desk_batch.specs.Batch.{RequestGives}
use Rattle.desk_texts.specs.Requests.{HasRecords, RecordsFit}
use Rattle.desk_batch.specs.Talks.{Talks}
use Rattle.program_commands.specs.declared.deliver.DeliveryFault.{DeliveryFault}
use Rattle.program_commands.specs.declared.deliver.DeliveryFault.TheVariants as fault

-- the delivery of the records of a text
unfoldable pub delivery_of : List ℕ → Request
delivery_of text = Deliver (records_of text)

-- how reading the delivery of a text can end
abbrev pub ReadFits : List ℕ → Result Request DeliveryFault → Type 0
ReadFits text (Ok r) = HasRecords text × (r ≡ delivery_of text)
ReadFits text (Err (fault.Records f)) = RecordsFit text f
ReadFits text (Err (fault.Unreadable why)) = ⊤
ReadFits text (Err (fault.Request f)) = ⊥

-- how the reading of a text that is told so can end: with its bytes, or with a fault of the same
abbrev pub IsRead : List ℕ → Result (Vec ℕ Global) DeliveryFault → Type 0
IsRead text (Ok bytes) = bytes.items ≡ text
IsRead text (Err f) = ReadFits text (Err f)

-- a file could not be opened: that, or out of memory
abbrev pub IsUnasked : DeliveryFault → Type 0
IsUnasked (fault.Unreadable why) = ⊤
IsUnasked (fault.Records f) = f ≡ record_fault.Memory
IsUnasked (fault.Request f) = ⊥

-- how the delivery of a text can end: there was a talk of it; or nothing was asked and nothing
-- written, since it has no records or cannot be read. Asked, written: as of a talk
abbrev pub Delivers : (List Step → Type 0) → (List ℕ → Type 0) → List ℕ
    → Result Bool DeliveryFault → Type 0
Delivers asked written text (Ok b) =
    HasRecords text × Talks asked written (delivery_of text ∷ []) (RequestGives (Ok b))
Delivers asked written text (Err (fault.Request f)) =
    HasRecords text × Talks asked written (delivery_of text ∷ []) (RequestGives (Err f))
Delivers asked written text (Err (fault.Records f)) = RecordsFit text f × asked [] × written []
Delivers asked written text (Err (fault.Unreadable why)) = asked [] × written []

-- a text is that of the file of a name: what the name holds; or of `-`, which stands for the input,
-- what that tells of its bytes, of which no more than a batch may have are taken. Told, left: what
-- the input tells of its bytes, before and after
abbrev pub IsTextOf : Holdings → Option (List ℕ) → Option (List ℕ) → List ℕ → List ℕ → Type 0
IsTextOf holds told left name text =
    (name ≡ codes "-" → IsTold told text × TakesAtMost (limit + 1) told left)
    × (name ≢ codes "-" → IsTold (holds name) text × (left ≡ told))

-- these are the texts of the first of the files of these names, in order
abbrev pub AreTexts : Holdings → Option (List ℕ) → List (List ℕ) → List (List ℕ) → Type 0
AreTexts holds told names [] = ⊤
AreTexts holds told [] (text ∷ texts) = ⊥
AreTexts holds told (name ∷ names) (text ∷ texts) =
    (left : Option (List ℕ)) × IsTextOf holds told left name text × AreTexts holds left names texts
