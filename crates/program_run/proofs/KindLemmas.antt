-- What a run of the program comes to for each kind of command.
use Rattle.std.specs.Prelude.{ℕ, List, Option}
use Rattle.std.specs.Borrow.{Bor}
use Rattle.std.proofs.Common.{inl, inr}
use Rattle.price_rules.specs.declared.precedence.Rule.{Rule}
use Rattle.series_rules.specs.Steps.{Leads, Step}
use Rattle.series_rules.specs.Views.{DeskKind, View}
use Rattle.program_files.specs.Holdings.{Holdings}
use Rattle.program_desks.specs.DeskFiles.{DeskFiles}
use Rattle.program_desks.specs.declared.files_left.FilesLeft.{FilesLeft}
use Rattle.program_desks.specs.declared.files_left.FilesLeft.TheVariants.{Closed, Unclosed, Unopened, Untouched}
use Rattle.program_desks.specs.declared.kept_desks.Creation.{Creation}
use Rattle.program_words.specs.Asked.{Reads, ReadsOther}
use Rattle.program_words.specs.declared.invocation.Action.{Action}
use Rattle.program_words.specs.declared.invocation.Action.TheVariants.{InMemory, InFile}
use Rattle.program_words.specs.declared.invocation.Reading.{Reading}
use Rattle.program_words.specs.declared.invocation.Task.{Task}
use Rattle.program_words.specs.declared.invocation.Task.TheVariants as task
use Rattle.program_run.proofs.WordLemmas.{reads_other}
use Rattle.program_run.specs.Kinds.{ActionEnds, AsksGaps, BatchRun, Batches, CheckRun, Checks, ConvertRun, Converts, DeliverRun, Delivers, GapsRun, ListRun, Lists, MigrateRun, Migrates, RunEnds, RunsTask, SendRun, Sends, ServeRun, Serves, Written}
use Rattle.program_run.specs.OverFiles.{EndsOverFiles, creation_by}
use Rattle.program_run.specs.TaskEnds.{TaskEnds}
use Rattle.program_run.specs.declared.machine.Machine.{Machine}

-- what ended so over files ended as well so
over_as : {K : Type 0} {k : DeskKind} {C U N : Type 0} (files : DeskFiles K k C U N) (databases : K) (name : List ℕ) (creation : Creation) (written : List ℕ → Type 0) (first then : View k → View k → ℕ → Type 0)
    → ((old new : View k) (own : ℕ) → first old new own → then old new own) → (status : ℕ) (left : FilesLeft K N U C) → EndsOverFiles files databases name creation written first status left → EndsOverFiles files databases name creation written then status left
over_as files databases name creation written first then f status (Closed closed) (ended, alone) = (f _ _ status ended, alone)
over_as files databases name creation written first then f status (Unclosed left) (three, own, ended) = (three, own, f _ _ own ended)
over_as files databases name creation written first then f status (Unopened left) ended = ended
over_as files databases name creation written first then f status (Untouched left) ended = absurd ended

module _ {M : Type 0} {m : DeskKind} (seen : M → View m) {K : Type 0} {k : DeskKind} {C U N : Type 0} (files : DeskFiles K k C U N) {O P F R W E : Type 0} (holds : F → Holdings)
    (lacks_folder : F → List ℕ → Type 0) (contents : W → Option (List ℕ)) (remaining : R → Option (List ℕ)) (databases : K) (old new : Machine O P F R W E) (result : ℕ × FilesLeft K N U C)
    (sends : List ℕ → List ℕ → O → O → Option (List ℕ) → Type 0) where
  abbrev Ended : List Rule → Action → Type 0
  Ended = ActionEnds seen files holds lacks_folder contents remaining databases old new result sends

  abbrev Tasks : Task → (List Step → Type 0) → ℕ → Type 0
  Tasks task asked own = TaskEnds asked (Written seen files holds lacks_folder contents remaining databases old new result) task (holds old.files) (remaining old.streams.input) (remaining new.streams.input) own

  task_as : (ends : Task → (List Step → Type 0) → ℕ → Type 0) → ((task : Task) (asked : List Step → Type 0) (own : ℕ) → Tasks task asked own → ends task asked own)
      → (rules : List Rule) (action : Action) → RunsTask seen files holds lacks_folder contents remaining databases old new result Tasks rules action → RunsTask seen files holds lacks_folder contents remaining databases old new result ends rules action
  task_as ends f rules (InMemory task) (stay, unsent, served, untouched, first, last, is_new, sound, ended) = (stay, unsent, served, untouched, first, last, is_new, sound, f task (λ steps. Leads rules steps (seen first) (seen last)) result.0 ended)
  task_as ends f rules (InFile db task) (stay, unsent, served, ended) = (
    stay,
    unsent,
    served,
    over_as files databases db.name.now (creation_by db.is_existing) (Written seen files holds lacks_folder contents remaining databases old new result) (λ first last. Tasks task (λ steps. Leads rules steps first last))
        (λ first last. ends task (λ steps. Leads rules steps first last)) (λ first last own is. f task (λ steps. Leads rules steps first last) own is) result.0 result.1 ended,
  )
  task_as ends f rules other ended = tt

  run_as : (reads then : List (List ℕ) → Reading → Type 0) → ((words : List (List ℕ)) (read : Reading) → reads words read → then words read) → (words : List (Bor (List ℕ))) (ends : List Rule → Action → Type 0) → ((rules : List Rule) (action : Action) → Ended rules action → ends rules action) → RunEnds seen files holds lacks_folder contents remaining databases old new result reads words Ended → RunEnds seen files holds lacks_folder contents remaining databases old new result then words ends
  run_as reads then by words ends f (inl (invocation, is, inl (rules, read, ended))) = inl (invocation, by _ _ is, inl (rules, read, f rules invocation.action ended))
  run_as reads then by words ends f (inl (invocation, is, inr unruled)) = inl (invocation, by _ _ is, inr unruled)
  run_as reads then by words ends f (inr ((read, is, ended), untouched)) = inr ((read, by _ read is, ended), untouched)

  is_batch : (task : Task) (asked : List Step → Type 0) (own : ℕ) → Tasks task asked own → Batches seen files holds lacks_folder contents remaining databases old new result task asked own
  is_batch task.Batch asked own ended = ended
  is_batch other asked own ended = tt

  is_deliver : (task : Task) (asked : List Step → Type 0) (own : ℕ) → Tasks task asked own → Delivers seen files holds lacks_folder contents remaining databases old new result task asked own
  is_deliver (task.Deliver names) asked own ended = ended
  is_deliver other asked own ended = tt

  is_gaps : (task : Task) (asked : List Step → Type 0) (own : ℕ) → Tasks task asked own → AsksGaps seen files holds lacks_folder contents remaining databases old new result task asked own
  is_gaps (task.Gaps name) asked own ended = ended
  is_gaps other asked own ended = tt

  is_serve : (task : Task) (asked : List Step → Type 0) (own : ℕ) → Tasks task asked own → Serves seen files holds lacks_folder contents remaining databases old new result task asked own
  is_serve (task.Serve port requests batches) asked own ended = ended
  is_serve other asked own ended = tt

  -- each kind
  pub record Kinds (words : List (Bor (List ℕ))) : Type 0 where
    pub batch : BatchRun seen files holds lacks_folder contents remaining databases old new result words
    pub deliver : DeliverRun seen files holds lacks_folder contents remaining databases old new result words
    pub gaps : GapsRun seen files holds lacks_folder contents remaining databases old new result words
    pub serve : ServeRun seen files holds lacks_folder contents remaining databases old new result words
    pub list : ListRun seen files holds lacks_folder contents remaining databases old new result words
    pub migrate : MigrateRun seen files holds lacks_folder contents remaining databases old new result words
    pub send : SendRun seen files holds lacks_folder contents remaining databases old new result sends words
    pub convert : ConvertRun seen files holds lacks_folder contents remaining databases old new result words
    pub check : CheckRun seen files holds lacks_folder contents remaining databases old new result words

  pub kinds : (words : List (Bor (List ℕ))) → RunEnds seen files holds lacks_folder contents remaining databases old new result Reads words Ended → Kinds words
  kinds words ended = record {
    batch = run_as Reads ReadsOther reads_other words (RunsTask seen files holds lacks_folder contents remaining databases old new result (Batches seen files holds lacks_folder contents remaining databases old new result)) (λ rules action is. task_as (Batches seen files holds lacks_folder contents remaining databases old new result) is_batch rules action is.0) ended;
    deliver = run_as Reads ReadsOther reads_other words (RunsTask seen files holds lacks_folder contents remaining databases old new result (Delivers seen files holds lacks_folder contents remaining databases old new result)) (λ rules action is. task_as (Delivers seen files holds lacks_folder contents remaining databases old new result) is_deliver rules action is.0) ended;
    gaps = run_as Reads ReadsOther reads_other words (RunsTask seen files holds lacks_folder contents remaining databases old new result (AsksGaps seen files holds lacks_folder contents remaining databases old new result)) (λ rules action is. task_as (AsksGaps seen files holds lacks_folder contents remaining databases old new result) is_gaps rules action is.0) ended;
    serve = run_as Reads ReadsOther reads_other words (RunsTask seen files holds lacks_folder contents remaining databases old new result (Serves seen files holds lacks_folder contents remaining databases old new result)) (λ rules action is. task_as (Serves seen files holds lacks_folder contents remaining databases old new result) is_serve rules action is.0) ended;
    list = run_as Reads ReadsOther reads_other words (Lists seen files holds lacks_folder contents remaining databases old new result) (λ rules action is. is.1) ended;
    migrate = run_as Reads ReadsOther reads_other words (Migrates seen files holds lacks_folder contents remaining databases old new result) (λ rules action is. is.2) ended;
    send = run_as Reads ReadsOther reads_other words (Sends seen files holds lacks_folder contents remaining databases old new result sends) (λ rules action is. is.3) ended;
    convert = run_as Reads Reads (λ words read is. is) words (Converts seen files holds lacks_folder contents remaining databases old new result) (λ rules action is. is.4) ended;
    check = run_as Reads ReadsOther reads_other words (Checks seen files holds lacks_folder contents remaining databases old new result) (λ rules action is. is.5) ended;
  }
