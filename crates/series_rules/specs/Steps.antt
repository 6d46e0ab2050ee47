-- What the steps of a desk come to, for every list of requests that it stood for.
use Rattle.std.specs.Prelude.{◌≡◌, ◌⊎◌, ◌||◌, All, Bool, true, false, Contains, IfErr, List, [], ◌∷◌, Result, Ok, Err, if◌then◌else◌, is_err, ⊤}
use Rattle.onix_records.specs.declared.faults.StoreFault.{StoreFault}
use Rattle.price_rules.specs.declared.precedence.Rule.{Rule}
use Rattle.series_rules.specs.Answers.{answer_to}
use Rattle.series_rules.specs.Changes.{changes, is_question}
use Rattle.series_rules.specs.Views.{Asks, DeskKind, IsFaultOf, View}
use Rattle.series_rules.specs.declared.answers.Answer.{Answer}
use Rattle.series_rules.specs.declared.requests.Request.{Request}

-- a request that was asked of a desk, and its answer or the fault of the store
abbrev pub Step : Type 0
Step = Request × Result Answer StoreFault

-- a desk was asked these steps, the first first, each as `answer` asks one; they led it from `old`
-- to `new`
abbrev pub Asked : {D : Type 0} → {k : DeskKind} → (D → View k) → List Rule → D → D
    → List Step → Type 0
Asked seen rules old new [] = new ≡ old
Asked {D} seen rules old new (s ∷ steps) =
    (next : D) × Asks s.0 (λ L. answer_to rules L s.0) (seen old) (seen next) s.1
    × Asked seen rules next new steps

-- L and then each request that was answered
abbrev pub with_answered : List Request → List Step → List Request
with_answered L [] = L
with_answered L ((r, Ok a) ∷ steps) = with_answered (r ∷ L) steps
with_answered L ((r, Err f) ∷ steps) = with_answered L steps

-- each answer is the definition's, after L and the requests that were answered before it
abbrev pub AreTrue : List Rule → List Request → List Step → Type 0
AreTrue rules L [] = ⊤
AreTrue rules L ((r, Ok a) ∷ steps) = (a ≡ answer_to rules L r) × AreTrue rules (r ∷ L) steps
AreTrue rules L ((r, Err f) ∷ steps) = AreTrue rules L steps

-- a request was answered that changed something
abbrev pub has_change : List Request → List Step → Bool
has_change L [] = false
has_change L ((r, Ok a) ∷ steps) = changes L r || has_change (r ∷ L) steps
has_change L ((r, Err f) ∷ steps) = has_change L steps

-- the requests, no questions, that had a fault of the store and behind which no answer changed
-- something
abbrev pub in_doubt : List Request → List Step → List Request
in_doubt L [] = []
in_doubt L ((r, Ok a) ∷ steps) = in_doubt (r ∷ L) steps
in_doubt L ((r, Err f) ∷ steps) =
    if has_change L steps || is_question r then in_doubt L steps else r ∷ in_doubt L steps

-- x is what those requests come to, or these and one that is in doubt
abbrev pub HasAll : (k : DeskKind) → List Request → List Request → k.Left → Type 0
HasAll k kept doubted x =
    k.comes_to x kept ⊎ ((r : Request) × Contains doubted r × k.comes_to x (r ∷ kept))

-- What steps came to after L, of a desk that was seen as `old` and then as `new`: each answer is
-- the definition's, and the desk stands for L with the requests that were answered. A crash leaves
-- all of these and at most one request in doubt; or, where no answer changed something, what it
-- could leave before.
pub record Follows {k : DeskKind} (rules : List Rule) (L : List Request) (steps : List Step)
    (old new : View k) : Type 0 where
  pub answers : AreTrue rules L steps
  pub stands : new.stands_for (with_answered L steps)
  pub left : (x : k.Left) → new.may_leave x
      → HasAll k (with_answered L steps) (in_doubt L steps) x
      ⊎ ((has_change L steps ≡ false) × old.may_leave x)

-- each request is a question
abbrev pub AreQuestions : List Step → Type 0
AreQuestions steps = All (λ s. is_question s.0 ≡ true) steps

-- each request is a question, or had a fault of the store
abbrev pub ChangeNothing : List Step → Type 0
ChangeNothing steps = All (λ s. (is_question s.0 ≡ true) ⊎ (is_err s.1 ≡ true)) steps

-- These steps led from a desk that was seen as `old` to what is seen as `new`.
pub record Leads {k : DeskKind} (rules : List Rule) (steps : List Step) (old new : View k)
    : Type 0 where
  pub premise : new.sound → old.sound
  -- of every list that the desk stood for
  pub follows : (L : List Request) → old.stands_for L → new.sound → Follows rules L steps old new
  -- questions add nothing to what a crash may leave, of a list or not
  pub questions : AreQuestions steps → new.sound
      → (x : k.Left) → new.may_leave x → old.may_leave x
  -- questions and faults leave what it holds, of a list or not
  pub held : ChangeNothing steps → new.sound → (x : k.Left) → old.holds x → new.holds x
  -- each fault is `Memory` or one that the desk may give
  pub faults : All (λ s. IfErr s.1 (IsFaultOf k)) steps

-- whatever was asked of a desk, one request after the other, led from it to what it became
abbrev pub TracesLead : {D : Type 0} → {k : DeskKind} → (D → View k) → List Rule → Type 0
TracesLead {D} seen rules =
    (steps : List Step) (old new : D) → Asked seen rules old new steps
    → Leads rules steps (seen old) (seen new)
