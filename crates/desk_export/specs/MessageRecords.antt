-- The records that a message is written as anew: form 2, with its parties and its number, sent once
-- at no time, without defaults.
use Rattle.std.specs.Prelude.{ℕ, List, [], ◌∷◌, ◌++◌, Option, Some, None, codes, decimal, length}
use Rattle.onix_terms.specs.declared.party.Party.{Party}
use Rattle.onix_records.specs.ContentsText.{end_record}
use Rattle.onix_records.specs.Fields.{party_fields}
use Rattle.onix_records.specs.Product.{content_records}
use Rattle.onix_records.specs.declared.parts.Header.{Header}
use Rattle.onix_records.specs.declared.parts.Product.{Product}

-- the header of such a message
abbrev pub numbered_header : Party → Option Party → ℕ → Header
numbered_header sender addressee n = record {
  sender = sender;
  addressee = addressee;
  number = Some n;
  repeat = Some 1;
  sent = [];
  default_type = None;
  default_currency = None;
}

-- the record that it begins with
abbrev pub message_record : Party → Option Party → ℕ → List (List ℕ)
message_record sender addressee n =
    codes "Message" ∷ codes "2" ∷ sender.id_type ∷ sender.id_value
    ∷ (party_fields addressee ++ decimal n ∷ codes "1" ∷ [] ∷ [] ∷ [] ∷ [])

-- these records behind a first one, and the right end
abbrev pub framed_by : List (List ℕ) → List (List (List ℕ)) → List (List (List ℕ))
framed_by first records = (first ∷ records) ++ end_record (length (first ∷ records)) ∷ []

-- its records, up to the right end
unfoldable pub message_records : Party → Option Party → ℕ → List Product → List (List (List ℕ))
message_records sender addressee n c =
    framed_by (message_record sender addressee n) (content_records c)
