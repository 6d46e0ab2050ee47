-- How a run over FILEs ends.
use Rattle.std.specs.Prelude.{◌≡◌, ◌≢◌, ◌⊎◌, ℕ, true, List, [], ◌∷◌, Option, Some, codes}
use Rattle.std.specs.Prelude.{map, max, option_map}
use Rattle.std.specs.List.{concat, fold}
use Rattle.program_files.specs.Holdings.{Holdings}
use Rattle.program_files.specs.Names.{is_packed}
use Rattle.feed_conversion.specs.Views.{options_view}
use Rattle.feed_files.specs.Ends.{Asking, FileEnd, IsEnd, StaysPacked, asking, status_of}
use Rattle.feed_files.specs.declared.converting.Run.{Run}

-- how a run is asked to convert
abbrev pub run_asking : Run → Asking
run_asking run = asking (options_view run.options) (option_map (λ name. name.now) run.folder)

module _ (ends : List FileEnd) where
  -- the status of a run: the greatest of those of its FILEs
  abbrev pub status_of_all : ℕ
  status_of_all = fold (λ status e. max status (status_of e.ended)) 0 ends

  abbrev pub outputs : List ℕ
  outputs = concat (map (λ e. e.output) ends)

-- How the FILEs of these names end, in order. `-` is standard input, which tells its bytes or
-- not; of each other FILE the bytes are what its name holds, where that is told. One that is packed
-- by its name is not converted. Before, after: what names hold
abbrev pub AreEnds : Asking → Option (List ℕ) → Holdings → Holdings → List (List ℕ) → List FileEnd
    → Type 0
AreEnds a told before after [] [] = after ≡ before
AreEnds a told before after (name ∷ names) (e ∷ ends) =
    (bytes left : Option (List ℕ)) × (name ≡ codes "-" → bytes ≡ told)
    × (name ≢ codes "-" → (left ≡ told) × (bytes ≡ before name))
    × (is_packed name ≡ true → StaysPacked e.ended)
    × (e.before ≡ before) × IsEnd a name bytes e × AreEnds a left e.after after names ends
AreEnds a told before after names ends = ⊥

-- the folder that is to take messages is none
abbrev pub IsUnusable : (List ℕ → Type 0) → Asking → Type 0
IsUnusable lacks_folder a = (folder : List ℕ) × (a.folder ≡ Some folder) × lacks_folder folder

-- Lacks folder: no folder has the name
module _ (a : Asking) (told : Option (List ℕ)) (before after : Holdings)
    (lacks_folder : List ℕ → Type 0) (names : List (List ℕ)) (such : List FileEnd → Type 0)
    (status : ℕ) where
  -- FILEs of these names end with this status, such that this holds of how they do
  abbrev pub AllEnd : Type 0
  AllEnd =
      (ends : List FileEnd) × AreEnds a told before after names ends × such ends
      × (status ≡ status_of_all ends)

  -- a run ends with 3 before the first FILE, where the folder is none
  abbrev pub NoneBegins : Type 0
  NoneBegins = IsUnusable lacks_folder a × (status ≡ 3) × such [] × (after ≡ before)

  -- How a run ends with this status: as its FILEs end, or before the first.
  abbrev pub FilesEnd : Type 0
  FilesEnd = AllEnd ⊎ NoneBegins
