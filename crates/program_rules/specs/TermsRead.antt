-- How a file of the shop's terms reads.
use Rattle.std.specs.Prelude.{◌≡◌, ◌++◌, ◌∷◌, ℕ, List, [], Option, Result, Ok, Err, codes, length}
use Rattle.std.specs.Fmt.{decimal}
use Rattle.csv_records.specs.Streams.{IsTold}
use Rattle.feed_terms.specs.Reading.{TermsFit}
use Rattle.feed_terms.specs.declared.reading.ReadFault.{ReadFault}
use Rattle.feed_terms.specs.declared.reading.ReadFault.TheVariants as read_fault
use Rattle.feed_terms.specs.declared.term.Term.{Term}
use Rattle.feed_terms.specs.declared.term.TermsFault.TheVariants as fault
use Rattle.program_clients.specs.Printing.{PrintEnds}

-- how reading the terms of a file can end, of which that is told: as those of a text
abbrev pub ReadsTerms : Option (List ℕ) → Result (List Term) ReadFault → Type 0
ReadsTerms told read = (text : List ℕ) × IsTold told text × TermsFit text read

-- the exit status after a fault of reading the terms: 3 when out of memory, else 2
abbrev pub terms_status : ReadFault → ℕ
terms_status (read_fault.Table fault.Memory) = 3
terms_status _ = 2

-- there are no terms in a file, of which that is told, and this is the status of the fault
abbrev pub IsUnreadTable : Option (List ℕ) → ℕ → Type 0
IsUnreadTable told status = (f : ReadFault) × ReadsTerms told (Err f) × (status ≡ terms_status f)

-- the line that says how many terms there are
abbrev pub terms_line : ℕ → List ℕ
terms_line count = codes "terms " ++ decimal count ++ 10 ∷ []

-- Written: these bytes were written
module _ (written : List ℕ → Type 0) where
  -- how the command `terms` can end by how its file reads: with the line of its terms; or with the
  -- status of the fault, and nothing is written
  abbrev pub EndsTerms : Result (List Term) ReadFault → ℕ → Type 0
  EndsTerms (Ok terms) status = PrintEnds 0 written (terms_line (length terms)) status
  EndsTerms (Err f) status = (status ≡ terms_status f) × written []

  -- how the command can end: as its file reads, of which this is told
  abbrev pub CheckTermsEnds : Option (List ℕ) → ℕ → Type 0
  CheckTermsEnds told status =
      (read : Result (List Term) ReadFault) × ReadsTerms told read × EndsTerms read status
