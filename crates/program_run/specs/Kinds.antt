-- How each kind of command ends, by the words of the command line. What is said of a kind cites no
-- other one: of other commands it says nothing.
use Rattle.std.specs.Prelude.{◌≡◌, ◌⊎◌, ◌+◌, ℕ, List, [], Option, Ok, Err, is_some, map, ⊤}
use Rattle.std.specs.Borrow.{Bor}
use Rattle.std.specs.Io.KnownBytes.{Appends}
use Rattle.csv_records.specs.RecordTexts.{limit}
use Rattle.csv_records.specs.Streams.{TakesAtMost}
use Rattle.onix_terms.specs.SeriesName.{series_name_of}
use Rattle.price_rules.specs.declared.precedence.Rule.{Rule}
use Rattle.series_rules.specs.Steps.{Leads, Step}
use Rattle.series_rules.specs.Views.{DeskKind, View}
use Rattle.program_files.specs.Holdings.{Holdings}
use Rattle.program_desks.specs.DeskFiles.{DeskFiles}
use Rattle.program_desks.specs.declared.files_left.FilesLeft.{FilesLeft}
use Rattle.program_desks.specs.declared.kept_desks.Creation.TheVariants.{Never}
use Rattle.program_words.specs.Asked.{Reads, ReadsOther}
use Rattle.program_words.specs.ConvertWords.{asked_view}
use Rattle.program_words.specs.declared.invocation.Action.{Action}
use Rattle.program_words.specs.declared.invocation.Action.TheVariants.{CheckRules, CheckTerms, CheckTexts, Convert, InMemory, InFile, Listed, Migrate, Send}
use Rattle.program_words.specs.declared.invocation.Invocation.{Invocation}
use Rattle.program_words.specs.declared.invocation.Reading.{Reading}
use Rattle.program_words.specs.declared.invocation.Reading.TheVariants as reading
use Rattle.program_words.specs.declared.invocation.Task.{Task}
use Rattle.program_words.specs.declared.invocation.Task.TheVariants as task
use Rattle.program_commands.specs.CommandEnds.{BatchEnds, DeliverEnds, GapsEnds, ServeEnds}
use Rattle.program_commands.specs.Sending.{SendEnds}
use Rattle.program_rules.specs.RulesFile.{CheckEnds, status_of}
use Rattle.program_rules.specs.TermsRead.{CheckTermsEnds}
use Rattle.program_rules.specs.declared.rules.RulesFault.{RulesFault}
use Rattle.program_run.specs.ConvertEnds.{ConvertEnds}
use Rattle.program_run.specs.ListingEnds.{ListingEnds}
use Rattle.program_run.specs.OverFiles.{EndsOverFiles, IsUntouched, MigrateEnds, creation_by}
use Rattle.program_run.specs.TaskEnds.{TaskEnds, UnlessServing}
use Rattle.program_run.specs.Unread.{IsNoCommand, ReadsRules}
use Rattle.program_run.specs.declared.machine.Machine.{Machine}

-- Seen: what is seen of a desk in memory. Files: what is seen of the files that `databases` opens.
-- Holds, lacks folder: what names hold, and that no folder has the name. Contents: what was
-- written. Remaining: what the input tells of its bytes. Old, new: before the run and behind it.
-- Result: the exit status, and what is left of the files of a desk
module _ {M : Type 0} {m : DeskKind} (seen : M → View m) {K : Type 0} {k : DeskKind}
    {C U N : Type 0} (files : DeskFiles K k C U N) {O P F R W E : Type 0} (holds : F → Holdings)
    (lacks_folder : F → List ℕ → Type 0) (contents : W → Option (List ℕ))
    (remaining : R → Option (List ℕ)) (databases : K) (old new : Machine O P F R W E)
    (result : ℕ × FilesLeft K N U C) where
  -- these bytes were written
  abbrev pub Written : List ℕ → Type 0
  Written = Appends (contents old.streams.output) (contents new.streams.output)

  -- names hold what they held, and no leave was given to make files
  abbrev pub NamesStay : Type 0
  NamesStay = new.files ≡ old.files

  -- nothing was sent to an open desk
  abbrev pub NothingIsSent : Type 0
  NothingIsSent = new.desks ≡ old.desks

  -- no port or socket was bound or opened, so that nobody was served
  abbrev pub NobodyIsServed : Type 0
  NobodyIsServed = new.entrances ≡ old.entrances

  -- neither files of a desk nor what names hold was touched, nothing was sent to an open desk, and
  -- nobody was served
  abbrev pub NothingIsTouched : Type 0
  NothingIsTouched = NamesStay × NothingIsSent × NobodyIsServed × IsUntouched result.1

  -- how the program can end by what a command line asks for: by its action, under rules that are
  -- read; or, where these cannot be read, with nothing done. Ended: how an action ended under rules
  abbrev pub InvocationEnds : Invocation → (List Rule → Action → Type 0) → Type 0
  InvocationEnds invocation ended =
      ((rules : List Rule) × ReadsRules (holds old.files) invocation.rules (Ok rules)
      × ended rules invocation.action)
      ⊎ ((fault : RulesFault) × ReadsRules (holds old.files) invocation.rules (Err fault)
      × (result.0 ≡ status_of fault) × Written [] × NothingIsTouched)

  -- how it can end on these words, of which the first is its name: by what they ask for; or with
  -- nothing done, where they are read as no command line. Reads: how words read
  abbrev pub RunEnds : (List (List ℕ) → Reading → Type 0) → List (Bor (List ℕ))
      → (List Rule → Action → Type 0) → Type 0
  RunEnds reads words ended =
      ((invocation : Invocation) × reads (map (λ word. word.now) words) (reading.Run invocation)
      × InvocationEnds invocation ended)
      ⊎ (IsNoCommand reads Written (map (λ word. word.now) words) result.0 × NothingIsTouched)

  -- ---- actions

  -- A command over a desk: a new one in memory, which has seen no request, or the one in a file.
  -- What it asked (`asked`) led from the desk as it was to the desk as it is. Ends: how a task
  -- ended
  abbrev pub RunsTask : (Task → (List Step → Type 0) → ℕ → Type 0) → List Rule → Action → Type 0
  RunsTask ends rules (InMemory task) =
      NamesStay × NothingIsSent × UnlessServing task NobodyIsServed × IsUntouched result.1
      × (first last : M) × (seen first).stands_for [] × (seen last).sound
      × ends task (λ steps. Leads rules steps (seen first) (seen last)) result.0
  RunsTask ends rules (InFile db task) =
      NamesStay × NothingIsSent × UnlessServing task NobodyIsServed
      × EndsOverFiles files databases db.name.now (creation_by db.is_existing) Written
      (λ first last. ends task (λ steps. Leads rules steps first last)) result.0 result.1
  RunsTask ends rules _ = ⊤

  -- `agreements`, `export` and `gaps` of all series
  abbrev pub Lists : List Rule → Action → Type 0
  Lists rules (Listed db listing) =
      NamesStay × NothingIsSent × NobodyIsServed
      × EndsOverFiles files databases db.name.now Never Written (ListingEnds Written listing)
      result.0 result.1
  Lists rules _ = ⊤

  abbrev pub Migrates : List Rule → Action → Type 0
  Migrates rules (Migrate db) =
      NamesStay × NothingIsSent × NobodyIsServed
      × MigrateEnds files databases db.name.now (creation_by db.is_existing) Written result.0
      result.1
  Migrates rules _ = ⊤

  -- `batch` to an open desk. Sends: the desk of that name was sent that text, and this comes of it
  abbrev pub Sends : (List ℕ → List ℕ → O → O → Option (List ℕ) → Type 0) → List Rule → Action
      → Type 0
  Sends sends rules (Send socket) =
      NamesStay × NobodyIsServed × IsUntouched result.1
      × SendEnds (remaining old.streams.input)
      (λ text. sends socket.now text old.desks new.desks) NothingIsSent Written result.0
  Sends sends rules _ = ⊤

  -- `convert`, which alone changes what names hold
  abbrev pub Converts : List Rule → Action → Type 0
  Converts rules (Convert c) =
      IsUntouched result.1 × NothingIsSent × NobodyIsServed
      × ConvertEnds (holds old.files) (holds new.files) (lacks_folder old.files)
      (remaining old.streams.input) Written (asked_view c) result.0
  Converts rules _ = ⊤

  -- `rules`, `terms` and `check`
  abbrev pub Checks : List Rule → Action → Type 0
  Checks rules (CheckRules file) =
      NothingIsTouched × CheckEnds Written (holds old.files file.now) result.0
  Checks rules (CheckTerms file) =
      NothingIsTouched × CheckTermsEnds Written (holds old.files file.now) result.0
  Checks rules (CheckTexts files) = NothingIsTouched × Written []
  Checks rules _ = ⊤

  -- the task is `batch`, and ended so; of other tasks nothing is said
  abbrev pub Batches : Task → (List Step → Type 0) → ℕ → Type 0
  Batches task.Batch asked status =
      BatchEnds asked Written (remaining old.streams.input) status
      × TakesAtMost (limit + 1) (remaining old.streams.input) (remaining new.streams.input)
  Batches _ asked status = ⊤

  abbrev pub Delivers : Task → (List Step → Type 0) → ℕ → Type 0
  Delivers (task.Deliver names) asked status =
      DeliverEnds asked Written (holds old.files) (remaining old.streams.input)
      (map (λ name. name.now) names.items) status
  Delivers _ asked status = ⊤

  abbrev pub AsksGaps : Task → (List Step → Type 0) → ℕ → Type 0
  AsksGaps (task.Gaps name) asked status =
      GapsEnds asked Written (series_name_of name.now) status
  AsksGaps _ asked status = ⊤

  abbrev pub Serves : Task → (List Step → Type 0) → ℕ → Type 0
  Serves (task.Serve port requests batches) asked status =
      ServeEnds asked Written (is_some batches) port requests status
  Serves _ asked status = ⊤

  -- how the program can end on these words, which say so of `batch` alone
  abbrev pub BatchRun : List (Bor (List ℕ)) → Type 0
  BatchRun words = RunEnds ReadsOther words (RunsTask Batches)

  abbrev pub DeliverRun : List (Bor (List ℕ)) → Type 0
  DeliverRun words = RunEnds ReadsOther words (RunsTask Delivers)

  abbrev pub GapsRun : List (Bor (List ℕ)) → Type 0
  GapsRun words = RunEnds ReadsOther words (RunsTask AsksGaps)

  abbrev pub ServeRun : List (Bor (List ℕ)) → Type 0
  ServeRun words = RunEnds ReadsOther words (RunsTask Serves)

  abbrev pub ListRun : List (Bor (List ℕ)) → Type 0
  ListRun words = RunEnds ReadsOther words Lists

  abbrev pub MigrateRun : List (Bor (List ℕ)) → Type 0
  MigrateRun words = RunEnds ReadsOther words Migrates

  abbrev pub SendRun : (List ℕ → List ℕ → O → O → Option (List ℕ) → Type 0)
      → List (Bor (List ℕ)) → Type 0
  SendRun sends words = RunEnds ReadsOther words (Sends sends)

  abbrev pub ConvertRun : List (Bor (List ℕ)) → Type 0
  ConvertRun words = RunEnds Reads words Converts

  abbrev pub CheckRun : List (Bor (List ℕ)) → Type 0
  CheckRun words = RunEnds ReadsOther words Checks

  -- ---- within the program

  -- an action ended as one of its kind, whichever that is
  abbrev pub ActionEnds : (List ℕ → List ℕ → O → O → Option (List ℕ) → Type 0) → List Rule
      → Action → Type 0
  ActionEnds sends rules action =
      RunsTask (λ task asked own. TaskEnds asked Written task (holds old.files)
      (remaining old.streams.input) (remaining new.streams.input) own) rules action
      × Lists rules action × Migrates rules action × Sends sends rules action
      × Converts rules action × Checks rules action
