-- The text of requests that change a desk, as batches read it.
use Rattle.std.specs.Prelude.{ℕ, List, [], ◌∷◌, ◌≡◌, Some, map, ⊤}
use Rattle.std.specs.List.{AllByRecursion, flat_map}
use Rattle.csv_records.specs.RecordTexts.{records_text}
use Rattle.desk_texts.specs.Requests.{requests_of}
use Rattle.desk_texts.specs.RequestRows.{row_request}
use Rattle.series_rules.specs.Answers.{followed_by}
use Rattle.series_rules.specs.Content.{SameContent}
use Rattle.desk_export.specs.Exports.{export_of}
use Rattle.desk_export.specs.RequestRecords.{agree_record, request_records, waive_record}
use Rattle.series_rules.specs.declared.requests.Request.{Request}
use Rattle.series_rules.specs.declared.requests.Request.TheVariants.{Agree, Waive}

-- the text of these requests, one after the other
unfoldable pub batch_text : List Request → List ℕ
batch_text rs = records_text (flat_map request_records rs)

-- an agreement or a waiver is read again from its record
abbrev pub CanBeWritten : Request → Type 0
CanBeWritten (Agree a) = row_request (agree_record a) ≡ Some (Agree a)
CanBeWritten (Waive series n) = row_request (waive_record series n) ≡ Some (Waive series n)
CanBeWritten _ = ⊤

-- texts asked one after the other, each as a batch
abbrev pub after_batches : List Request → List (List ℕ) → List Request
after_batches L [] = L
after_batches L (text ∷ texts) = after_batches (followed_by L (requests_of text)) texts

-- the text of an export is read as the requests of the export, so that a batch of it makes what
-- comes to the same as the list; so do the texts of its parts, asked one after the other
pub record ExportIsRead : Type 0 where
  pub read : (L : List Request) → AllByRecursion CanBeWritten L
      → requests_of (batch_text (export_of L)) ≡ export_of L
  pub made : (L : List Request) → AllByRecursion CanBeWritten L
      → SameContent L (followed_by [] (requests_of (batch_text (export_of L))))
  pub parts : (L : List Request) → AllByRecursion CanBeWritten L → (parts : List (List Request))
      → flat_map (λ part. part) parts ≡ export_of L
      → SameContent L (after_batches [] (map batch_text parts))
