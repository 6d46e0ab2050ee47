-- How a table of terms is read from a stream.
use Rattle.std.specs.Prelude.{◌≡◌, ◌<◌, ◌≤◌, ◌⊎◌, ℕ, List, Result, Ok, Err, IsUtf8, length, ⊤}
use Rattle.csv_records.specs.RecordTexts.{limit}
use Rattle.feed_terms.specs.TermsFile.{table_of}
use Rattle.feed_terms.specs.declared.reading.ReadFault.{ReadFault}
use Rattle.feed_terms.specs.declared.reading.ReadFault.TheVariants as read
use Rattle.feed_terms.specs.declared.term.Term.{Term}
use Rattle.feed_terms.specs.declared.term.TermsFault.TheVariants as fault

module _ (text : List ℕ) where
  -- how reading the terms of a text can end
  abbrev pub TermsFit : Result (List Term) ReadFault → Type 0
  TermsFit (Ok terms) = (length text ≤ limit) × IsUtf8 text × (table_of text ≡ Ok terms)
  TermsFit (Err (read.Table fault.NotToml)) =
      (limit < length text) ⊎ ((¬ (IsUtf8 text)) ⊎ (table_of text ≡ Err fault.NotToml))
  TermsFit (Err (read.Table (fault.BadTerm number))) =
      (length text ≤ limit) × IsUtf8 text × (table_of text ≡ Err (fault.BadTerm number))
  TermsFit (Err (read.Table fault.Memory)) = ⊤
  TermsFit (Err read.Unreadable) = ⊤
