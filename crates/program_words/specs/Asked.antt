-- What the words of the command line ask for.
use Rattle.std.specs.Prelude.{◌≡◌, ◌≢◌, ◌⊎◌, ◌&&◌, ◌||◌, ℕ, ⊤, Bool, false, List, [], Option, Some, None, codes, if◌then◌else◌, is_some, map, nat_le, not, option_and_then, option_map, true, unwrap_or}
use Rattle.std.specs.List.{list_any}
use Rattle.std.specs.Str.{bytes_eq}
use Rattle.clap.specs.Faults.{fault_of}
use Rattle.clap.specs.Kinds.{IsAmong}
use Rattle.clap.specs.Simple.{matches_of, subcommand_of}
use Rattle.clap.specs.Walk.{Row, Text}
use Rattle.clap.specs.declared.error.kind.ErrorKind.{ErrorKind}
use Rattle.clap.specs.declared.error.kind.ErrorKind.TheVariants.{DisplayHelp, DisplayVersion}
use Rattle.onix_terms.specs.Digits.{digits_of}
use Rattle.program_words.specs.CommandLine.{onixdesk, program_commands}
use Rattle.program_words.specs.ConvertWords.{AsksToConvert, word_or}
use Rattle.program_words.specs.Words.{has_flag, text_in, texts_in}
use Rattle.program_words.specs.declared.convert_words.Conversion.{Conversion}
use Rattle.program_words.specs.declared.invocation.Action.{Action}
use Rattle.program_words.specs.declared.invocation.Action.TheVariants.{CheckRules, CheckTerms, CheckTexts, Convert, InMemory, InFile, Listed, Migrate, Send}
use Rattle.program_words.specs.declared.invocation.Database.{Database}
use Rattle.program_words.specs.declared.invocation.Invocation.{Invocation}
use Rattle.program_words.specs.declared.invocation.Listing.{Listing}
use Rattle.program_words.specs.declared.invocation.Listing.TheVariants as listing
use Rattle.program_words.specs.declared.invocation.Reading.{Reading}
use Rattle.program_words.specs.declared.invocation.Reading.TheVariants as reading
use Rattle.program_words.specs.declared.invocation.Task.{Task}
use Rattle.program_words.specs.declared.invocation.Task.TheVariants as task

-- ---- what a command asks for

-- Own: the options and operands of the command `name`
module _ (own : List Row) where
  -- its FILE, and its FILEs; where one is needed, one is there
  abbrev pub file_in : Text
  file_in = unwrap_or (text_in own (codes "file")) []

  abbrev pub files_in : List Text
  files_in = unwrap_or (texts_in own (codes "file")) []

  -- the port, and how many connections are served, by their digits; without number all that come
  abbrev pub port_in : Option ℕ
  port_in =
      option_and_then (λ n. if nat_le n 65535 then Some n else None)
      (option_and_then digits_of (text_in own (codes "port")))

  abbrev pub requests_in : Option ℕ
  requests_in = word_or digits_of 18446744073709551615 own (codes "requests")

module _ (name : Text) (own : List Row) where
  -- the task is that of the command over a desk
  abbrev pub IsTask : Task → Type 0
  IsTask task.Batch = name ≡ codes "batch"
  IsTask (task.Deliver files) =
      (name ≡ codes "deliver") × (map (λ file. file.now) files.items ≡ files_in own)
  IsTask (task.Gaps series) =
      (name ≡ codes "gaps") × (text_in own (codes "name") ≡ Some series.now)
  IsTask (task.Serve port requests batches) =
      (name ≡ codes "serve") × (port_in own ≡ Some port) × (requests_in own ≡ Some requests)
      × (option_map (λ socket. socket.now) batches ≡ text_in own (codes "batches"))

  -- what the command lists of a desk in a file
  abbrev pub IsListing : Listing → Type 0
  IsListing listing.Agreements = name ≡ codes "agreements"
  IsListing listing.Gaps = (name ≡ codes "gaps") × (text_in own (codes "name") ≡ None)
  IsListing listing.Export = name ≡ codes "export"

module _ (top : List Row) where
  -- the database file is that of `--db`, which `--existing` wants to be there; without `--db` there
  -- is none
  abbrev pub IsDatabase : Option Database → Type 0
  IsDatabase None = text_in top (codes "db") ≡ None
  IsDatabase (Some db) =
      (text_in top (codes "db") ≡ Some db.name.now)
      × (db.is_existing ≡ has_flag top (codes "existing"))

  -- which options go with which: `--existing` with `--db` alone, `--batches` with neither `--db`
  -- nor `--rules`
  abbrev pub go_together : Bool
  go_together =
      let has_db = is_some (text_in top (codes "db")) in
      let has_rules = is_some (text_in top (codes "rules")) in
      (not (has_flag top (codes "existing")) || has_db)
      && not (is_some (text_in top (codes "batches")) && (has_db || has_rules))

-- the rules file under which an action is done, where that one is named: a desk that is open has
-- its own rules, and a conversion and the reading of rules, terms and texts have none
abbrev pub rules_for : Action → Option Text → Option Text
rules_for (Send socket) named = None
rules_for (Convert conversion) named = None
rules_for (CheckRules file) named = None
rules_for (CheckTerms file) named = None
rules_for (CheckTexts files) named = None
rules_for _ named = named

-- Convert: what the words of `convert` ask for; none: they are refused. Top: the options before the
-- command `name`
module _ (convert : List Row → Option Conversion → Type 0) (top : List Row) (name : Text)
    (own : List Row) where
  -- the command is none, a number of `serve` has too many digits, or words of `convert` are refused
  abbrev pub IsRefused : Type 0
  IsRefused =
      (list_any (λ s. bytes_eq name s.name) program_commands ≡ false)
      ⊎ ((name ≡ codes "serve") × ((port_in own ≡ None) ⊎ (requests_in own ≡ None)))
      ⊎ ((name ≡ codes "convert") × convert own None)

  -- no desk is open
  abbrev pub NoneIsOpen : Type 0
  NoneIsOpen = text_in top (codes "batches") ≡ None

  -- the action is that of the command
  abbrev pub IsAction : Action → Type 0
  IsAction (InMemory task) = IsTask name own task × IsDatabase top None × NoneIsOpen
  IsAction (InFile db task) = IsTask name own task × IsDatabase top (Some db) × NoneIsOpen
  IsAction (Listed db listed) = IsListing name own listed × IsDatabase top (Some db) × NoneIsOpen
  IsAction (Migrate db) = (name ≡ codes "migrate") × IsDatabase top (Some db) × NoneIsOpen
  IsAction (Send socket) =
      (name ≡ codes "batch") × (text_in top (codes "batches") ≡ Some socket.now)
  IsAction (Convert conversion) =
      (name ≡ codes "convert") × convert own (Some conversion) × NoneIsOpen
  IsAction (CheckRules file) =
      (name ≡ codes "rules") × (file.now ≡ file_in own) × NoneIsOpen
  IsAction (CheckTerms file) =
      (name ≡ codes "terms") × (file.now ≡ file_in own) × NoneIsOpen
  IsAction (CheckTexts files) =
      (name ≡ codes "check") × (map (λ file. file.now) files.items ≡ files_in own)
      × NoneIsOpen

  -- the invocation is what the command asks for
  abbrev pub IsInvocation : Invocation → Type 0
  IsInvocation asked =
      IsAction asked.action
      × (option_map (λ file. file.now) asked.rules
      ≡ rules_for asked.action (text_in top (codes "rules")))

  -- ---- how the words read

  -- how the command reads: as what it asks for, or as refused
  abbrev pub ReadsAs : Reading → Type 0
  ReadsAs (reading.Run asked) = IsInvocation asked
  ReadsAs reading.NoDatabase = (name ≡ codes "migrate") × IsDatabase top None
  ReadsAs reading.NoDesk =
      (listed : Listing) × IsListing name own listed × IsDatabase top None
  ReadsAs reading.NoBatch =
      (bytes_eq name (codes "batch") ≡ false)
      × (is_some (text_in top (codes "batches")) ≡ true)
  ReadsAs (reading.Wrong text) = IsRefused
  ReadsAs (reading.Help text) = ⊥
  ReadsAs reading.Memory = ⊤

-- the words are told to be wrong, if memory lasts
abbrev pub IsWrong : Reading → Type 0
IsWrong (reading.Wrong text) = ⊤
IsWrong reading.Memory = ⊤
IsWrong _ = ⊥

module _ (convert : List Row → Option Conversion → Type 0) (top : List Row) where
  -- how words read in which that command stands, or none
  abbrev pub ReadsWords : Option (Text × List Row) → Reading → Type 0
  ReadsWords None reading = IsWrong reading
  ReadsWords (Some command) reading =
      ((go_together top ≡ false) × IsWrong reading)
      ⊎ ((go_together top ≡ true) × ReadsAs convert top command.0 command.1 reading)

-- how an error of the library of the command line reads, by its kind
abbrev pub ReadsKind : ErrorKind → Reading → Type 0
ReadsKind kind (reading.Help text) = (kind ≡ DisplayHelp) ⊎ (kind ≡ DisplayVersion)
ReadsKind kind (reading.Wrong text) = (kind ≢ DisplayHelp) × (kind ≢ DisplayVersion)
ReadsKind kind reading.Memory = ⊤
ReadsKind kind _ = ⊥

-- How these words read, of which the first is the program's name: by an error that the library of
-- the command line may give of them, or, if it gives none, by what they ask for; unless memory ran
-- out
abbrev pub ReadsBy : (List Row → Option Conversion → Type 0) → List Text → Reading → Type 0
ReadsBy convert words read =
    (read ≡ reading.Memory)
    ⊎ ((k : ErrorKind) × IsAmong k (fault_of onixdesk words) × ReadsKind k read)
    ⊎ ((fault_of onixdesk words ≡ [])
    × ReadsWords convert (matches_of onixdesk words) (subcommand_of onixdesk words) read)

-- how they read, but for what words of `convert` ask for, of which nothing is said
abbrev pub ReadsOther : List Text → Reading → Type 0
ReadsOther = ReadsBy (λ own asked. ⊤)

-- how they read, with those of `convert`
abbrev pub Reads : List Text → Reading → Type 0
Reads = ReadsBy AsksToConvert
