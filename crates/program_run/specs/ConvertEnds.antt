-- How the command `convert` ends.
use Rattle.std.specs.Prelude.{◌≡◌, ◌⊎◌, ℕ, List, [], Option, Some, None, Ok}
use Rattle.program_files.specs.Holdings.{Holdings}
use Rattle.feed_files.specs.Ends.{asking}
use Rattle.feed_files.specs.Runs.{FilesEnd, outputs}
use Rattle.feed_terms.specs.declared.term.Term.{Term}
use Rattle.program_rules.specs.TermsRead.{IsUnreadTable, ReadsTerms}
use Rattle.program_words.specs.ConvertWords.{Asked}

-- Before, after: what names hold. Lacks folder: no folder has the name. Told: what the input tells
-- of its bytes. Written: these bytes were written
module _ (before after : Holdings) (lacks_folder : List ℕ → Type 0) (told : Option (List ℕ))
    (written : List ℕ → Type 0) (asked : Asked) where
  -- how `convert` can end with this status by these terms or by none: as a run over its FILEs
  abbrev pub ConvertsBy : Option (List Term) → ℕ → Type 0
  ConvertsBy terms status =
      FilesEnd (asking (record asked.options { terms = terms }) asked.folder) told before
      after lacks_folder asked.files (λ ends. written (outputs ends)) status

  -- the same where a file of terms is named, or none: by its terms; or there are none in it, and
  -- nothing is written, and each name holds what it held
  abbrev pub ConvertsByFile : Option (List ℕ) → ℕ → Type 0
  ConvertsByFile None status = ConvertsBy None status
  ConvertsByFile (Some name) status =
      ((terms : List Term) × ReadsTerms (before name) (Ok terms) × ConvertsBy (Some terms) status)
      ⊎ (IsUnreadTable (before name) status × written [] × (after ≡ before))

  -- how `convert` can end with this status
  abbrev pub ConvertEnds : ℕ → Type 0
  ConvertEnds status = ConvertsByFile asked.terms status
