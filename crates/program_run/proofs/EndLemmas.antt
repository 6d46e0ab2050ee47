-- What led from one desk to another led from the files of which that was opened to those as which this is left.
use Rattle.std.proofs.Common.{◌≡◌, ◌⊎◌, ◌||◌, ℕ, Bool, true, false, List, [], ◌∷◌, Option, Some, None, Ok, Err, inl, inr, refl, subst, sym}
use Rattle.std.proofs.lemmas.List.Elements.{All-head, All-tail}
use Rattle.program_files.specs.Holdings.{Holdings}
use Rattle.onix_terms.specs.SeriesName.{series_name_of}
use Rattle.price_rules.specs.declared.precedence.Rule.{Rule}
use Rattle.series_rules.proofs.Questions.{question_changes_nothing}
use Rattle.series_rules.proofs.StepLemmas.{unchanged_all}
use Rattle.series_rules.specs.Changes.{changes, is_question}
use Rattle.series_rules.specs.Content.{SameContent}
use Rattle.series_rules.specs.Steps.{AreQuestions, Follows, HasAll, Leads, Step, has_change, in_doubt, with_answered}
use Rattle.series_rules.specs.Views.{DeskKind, LeavesOnly, View}
use Rattle.series_rules.specs.declared.requests.Request.{Request}
use Rattle.program_desks.specs.DeskFiles.{DeskFiles, LeavesAs, OpensAs}
use Rattle.program_desks.specs.declared.files_left.FilesLeft.{FilesLeft}
use Rattle.program_desks.specs.declared.kept_desks.Creation.{Creation}
use Rattle.program_desks.specs.declared.files_left.FilesLeft.TheVariants.{Closed, Unclosed, Unopened, Untouched}
use Rattle.program_run.specs.TaskEnds.{TaskEnds, TaskLeads, UnlessServing}
use Rattle.program_run.specs.OverFiles.{Closes, EndsOverFiles}
use Rattle.program_commands.proofs.TalkEnds.{batch_as, talks_as}
use Rattle.program_commands.specs.CommandEnds.{GapsEnds, RequestsEnd}
use Rattle.program_words.specs.declared.invocation.Task.{Task}
use Rattle.program_words.specs.declared.invocation.Task.TheVariants as task

sym_same : (L M : List Request) → SameContent L M → SameContent M L
sym_same L M same = record { agreements = λ name. sym (same.agreements name); firsts = λ series number. sym (same.firsts series number) }

or_both : (a b : Bool) → a ≡ false → b ≡ false → (a || b) ≡ false
or_both false b one two = two
or_both true b one two = absurd cc

-- questions change nothing
questions_change : (L : List Request) (steps : List Step) → AreQuestions steps → has_change L steps ≡ false
questions_change L [] are = refl
questions_change L ((r, Ok a) ∷ steps) are =
    or_both (changes L r) (has_change (r ∷ L) steps) (question_changes_nothing L r (All-head (λ (s : Step). is_question s.0 ≡ true) (r, Ok a) steps are))
    (questions_change (r ∷ L) steps (All-tail (λ (s : Step). is_question s.0 ≡ true) (r, Ok a) steps are))
questions_change L ((r, Err f) ∷ steps) are = questions_change L steps (All-tail (λ (s : Step). is_question s.0 ≡ true) (r, Err f) steps are)

module _ {k : DeskKind} (rules : List Rule) (steps : List Step) (old first last new : View k) (opens : OpensAs old first) (leaves : LeavesAs last new) (leads : Leads rules steps first last) where
  module _ (sound : new.sound) where
    opened : first.sound
    opened = leads.premise (leaves.premise sound)

    -- of every list
    follows : (L : List Request) → old.stands_for L → Follows rules L steps old new
    follows L stood = record {
      answers = then.answers;
      stands = leaves.stands sound (with_answered L steps) then.stands;
      left = λ x may. by x may (leaves.left sound);
    }
      where
        then : Follows rules L steps first last
        then = leads.follows L (opens.stands opened L stood) (leaves.premise sound)

        go : (x : k.Left) → HasAll k (with_answered L steps) (in_doubt L steps) x ⊎ ((has_change L steps ≡ false) × first.may_leave x) → HasAll k (with_answered L steps) (in_doubt L steps) x ⊎ ((has_change L steps ≡ false) × old.may_leave x)
        go x (inl has) = inl has
        go x (inr left) = inr (left.0, opens.all x (λ M held. opens.alone opened M held x left.1))

        by : (x : k.Left) → new.may_leave x → ((y : k.Left) → new.may_leave y → last.may_leave y) ⊎ ((M : List Request) → last.stands_for M → LeavesOnly new M)
            → HasAll k (with_answered L steps) (in_doubt L steps) x ⊎ ((has_change L steps ≡ false) × old.may_leave x)
        by x may (inl no_more) = go x (then.left x (no_more x may))
        by x may (inr alone) = inl (inl (alone (with_answered L steps) then.stands x may))

    questions : AreQuestions steps → (x : k.Left) → new.may_leave x → old.may_leave x
    questions are x may = opens.all x (λ L held. by L held (leaves.left sound))
      where
        by : (L : List Request) → old.stands_for L → ((y : k.Left) → new.may_leave y → last.may_leave y) ⊎ ((M : List Request) → last.stands_for M → LeavesOnly new M) → k.comes_to x L
        by L held (inl no_more) = opens.alone opened L held x (leads.questions are (leaves.premise sound) x (no_more x may))
        by L held (inr alone) =
            let then = leads.follows L (opens.stands opened L held) (leaves.premise sound) in
            k.by_content x (with_answered L steps) L (sym_same L (with_answered L steps) (unchanged_all L steps (questions_change L steps are))) (alone (with_answered L steps) then.stands x may)

  pub leads_between : Leads rules steps old new
  leads_between = record {
    premise = λ sound. opens.premise (opened sound);
    follows = λ L stood sound. follows sound L stood;
    questions = λ are sound x may. questions sound are x may;
    held = λ are sound x held. leaves.holds sound x (leads.held are (leaves.premise sound) x (opens.holds (opened sound) x held));
    faults = leads.faults;
  }

-- requests that were asked so were asked as well so
requests_as : (asked asks : List Step → Type 0) (written : List ℕ → Type 0) → ((steps : List Step) → asked steps → asks steps) → (rs : List Request) (status : ℕ) → RequestsEnd asked written rs status → RequestsEnd asks written rs status
requests_as asked asks written f rs status (result, talks, is) = (result, talks_as asked asks written written rs _ _ f (λ t was. was) (λ steps stop given. given) talks, is)

-- a command that asked so asked as well so
pub task_as : (asked asks : List Step → Type 0) (written : List ℕ → Type 0) → ((steps : List Step) → asked steps → asks steps) → (task : Task) (holds : Holdings) (told left : Option (List ℕ)) (status : ℕ)
    → TaskEnds asked written task holds told left status → TaskEnds asks written task holds told left status
task_as asked asks written f task.Batch holds told left status ((text, result, is, ran, same), taken) =
    ((text, result, is, batch_as asked asks written written f (λ t was. was) text result ran, same), taken)
task_as asked asks written f (task.Deliver names) holds told left status ended =
    (ended.0, ended.1, ended.2, ended.3, requests_as asked asks written f _ _ ended.4, ended.5)
task_as asked asks written f (task.Gaps name) holds told left status ended = by (series_name_of name.now) ended
  where
    by : (o : Option (List ℕ)) → GapsEnds asked written o status → GapsEnds asks written o status
    by (Some series) end = requests_as asked asks written f _ _ end
    by None end = (f [] end.0, end.1)
task_as asked asks written f (task.Serve port requests batches) holds told left status ended =
    (ended.0, (ended.1.0, ended.1.1, f _ ended.1.2), ended.2)

-- where neither of two calls changed something unless the command is `serve`, both left it so
pub both_unless_serving : {A : Type 0} (task : Task) (first then last : A) → UnlessServing task (then ≡ first) → UnlessServing task (last ≡ then) → UnlessServing task (last ≡ first)
both_unless_serving (task.Serve port requests batches) first then last one two = tt
both_unless_serving other first then last one two = subst (λ x. last ≡ x) one two

-- a command that ended over a desk ended so over its files
pub task_between : {k : DeskKind} (rules : List Rule) (written : List ℕ → Type 0) (task : Task) (holds : Holdings) (told left : Option (List ℕ)) (old first last new : View k) (own : ℕ) → OpensAs old first → LeavesAs last new
    → TaskLeads rules written task holds told left first last own → TaskLeads rules written task holds told left old new own
task_between rules written task holds told left old first last new own opens leaves ended =
    task_as (λ steps. Leads rules steps first last) (λ steps. Leads rules steps old new) written (λ steps leads. leads_between rules steps old first last new opens leaves leads) task holds told left own ended

-- what ended over a desk that was opened, and whose files were then closed, ended so over the files
pub over_files : {K : Type 0} {k : DeskKind} {C U N : Type 0} (files : DeskFiles K k C U N) (databases : K) (name : List ℕ) (creation : Creation) (written : List ℕ → Type 0) (ends : View k → View k → ℕ → Type 0)
    → ((old first last new : View k) (own : ℕ) → OpensAs old first → LeavesAs last new → ends first last own → ends old new own)
    → (first last : View k) (own status : ℕ) (left : FilesLeft K N U C) → OpensAs (files.found databases name creation) first → Closes files last own status left → ends first last own → EndsOverFiles files databases name creation written ends status left
over_files files databases name creation written ends between first last own status (Closed closed) opens (same, leaves, alone) ended =
    (subst (ends (files.found databases name creation) (files.closed closed)) (sym same) (between (files.found databases name creation) first last (files.closed closed) own opens leaves ended), alone)
over_files files databases name creation written ends between first last own status (Unclosed left) opens (three, leaves) ended =
    (three, own, between (files.found databases name creation) first last (files.unclosed left) own opens leaves ended)
over_files files databases name creation written ends between first last own status (Unopened left) opens closes ended = absurd closes
over_files files databases name creation written ends between first last own status (Untouched left) opens closes ended = absurd closes
