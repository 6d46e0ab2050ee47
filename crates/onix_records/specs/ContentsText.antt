-- The one text of contents.
use Rattle.std.specs.Prelude.{ℕ, List, [], ◌∷◌, ◌++◌, codes, decimal, length}
use Rattle.csv_records.specs.RecordTexts.{records_text}
use Rattle.onix_records.specs.Grammar.{IsMessage}
use Rattle.onix_records.specs.Product.{content_records}
use Rattle.onix_records.specs.declared.parts.Header.{Header}
use Rattle.onix_records.specs.declared.parts.Product.{Product}

-- the text of the records of contents: a Price has its minimum as a tenth field only where that is
-- above 1
unfoldable pub contents_text : List Product → List ℕ
contents_text c = records_text (content_records c)

-- a Message record of form 2 without defaults
abbrev pub plain_opening : List (List ℕ)
plain_opening =
    codes "Message" ∷ codes "2" ∷ codes "01" ∷ codes "x" ∷ [] ∷ [] ∷ [] ∷ [] ∷ [] ∷ [] ∷ [] ∷ []

-- an EndMessage record after so many records
abbrev pub end_record : ℕ → List (List ℕ)
end_record count = codes "EndMessage" ∷ decimal count ∷ []

-- records between such a Message record and the right end
unfoldable pub framed : List (List (List ℕ)) → List (List (List ℕ))
framed records = (plain_opening ∷ records) ++ end_record (length (plain_opening ∷ records)) ∷ []

-- a value is contents where its records, between a Message record of form 2 and the right end, are
-- a message with these contents
abbrev pub IsContents : List Product → Type 0
IsContents c = (h : Header) × IsMessage (framed (content_records c)) h c
