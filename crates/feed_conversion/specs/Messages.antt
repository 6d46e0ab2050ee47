-- The messages that products are written into, and their size.
use Rattle.std.specs.Prelude.{ℕ, zero, suc, ◌+◌, Bool, ◌&&◌, List, [], ◌∷◌, ◌++◌, nat_le, codes}
use Rattle.std.specs.Prelude.{decimal, length}
use Rattle.csv_records.specs.RecordTexts.{limit, records_text}
use Rattle.onix_records.specs.Grammar.{most_records}
use Rattle.feed_mapping.specs.Records.{Fields, Records}

-- the record that ends a message, behind so many
abbrev pub closing_record : ℕ → Fields
closing_record before = codes "EndMessage" ∷ decimal before ∷ []

module _ (first : Fields) (records : Records) where
  -- the records of a message: its first one, those of its products, and the one that ends it
  abbrev pub message : Records
  message = first ∷ (records ++ (closing_record (1 + length records) ∷ []))

  -- the text of a message
  abbrev pub message_text : List ℕ
  message_text = records_text message

  -- a message of these records is within what the desk takes: 20,000 records, and 4,194,304 bytes
  unfoldable pub fits : Bool
  fits =
      nat_le (length message) most_records
      && nat_le (length message_text) limit

-- so many messages without products, the first of which is the part behind so many
abbrev pub empty_messages : (ℕ → Fields) → ℕ → ℕ → List (List ℕ)
empty_messages first before zero = []
empty_messages first before (suc more) =
    message_text (first before) [] ∷ empty_messages first (suc before) more
