-- What led from one desk to another did so however they are seen.
use Rattle.std.proofs.Common.{◌≡◌, ◌⊎◌, List, [], ◌∷◌, Ok, Err, false, inl, inr}
use Rattle.std.proofs.lemmas.List.Elements.{All-cons, All-head, All-nil, All-tail}
use Rattle.std.specs.Prelude.{All, IfErr}
use Rattle.price_rules.specs.declared.precedence.Rule.{Rule}
use Rattle.series_rules.specs.Steps.{Follows, HasAll, Leads, Step, has_change, in_doubt, with_answered}
use Rattle.series_rules.specs.Views.{DeskKind, IsFaultOf, View}
use Rattle.series_rules.specs.declared.requests.Request.{Request}
use Rattle.program_desks.specs.DeskFiles.{SeenAs}

module _ {D : Type 0} (j k : DeskKind) (first : D → View j) (second : D → View k) (same : SeenAs first second) where
  fault_as : (s : Step) → IfErr s.1 (IsFaultOf j) → IfErr s.1 (IsFaultOf k)
  fault_as (r, Ok a) is = tt
  fault_as (r, Err f) (inl memory) = inl memory
  fault_as (r, Err f) (inr may) = inr (same.may_give f may)

  faults_as : (steps : List Step) → All (λ (s : Step). IfErr s.1 (IsFaultOf j)) steps → All (λ (s : Step). IfErr s.1 (IsFaultOf k)) steps
  faults_as [] all = All-nil (λ (s : Step). IfErr s.1 (IsFaultOf k))
  faults_as (s ∷ steps) all =
      All-cons (λ (s : Step). IfErr s.1 (IsFaultOf k)) s steps (fault_as s (All-head (λ (s : Step). IfErr s.1 (IsFaultOf j)) s steps all))
      (faults_as steps (All-tail (λ (s : Step). IfErr s.1 (IsFaultOf j)) s steps all))

  has_as : (kept doubts : List Request) (x : k.Left) → HasAll j kept doubts (same.to x) → HasAll k kept doubts x
  has_as kept doubts x (inl comes) = inl (same.comes_to x kept comes)
  has_as kept doubts x (inr (r, among, comes)) = inr (r, among, same.comes_to x (r ∷ kept) comes)

  pub leads_as : (rules : List Rule) (steps : List Step) (old new : D) → Leads rules steps (first old) (first new) → Leads rules steps (second old) (second new)
  leads_as rules steps old new leads = record {
    premise = λ sound. (same.sound old).0 (leads.premise ((same.sound new).1 sound));
    follows = λ L stood sound. follows L (leads.follows L ((same.stands old L).1 stood) ((same.sound new).1 sound));
    questions = λ are sound x may. (same.may_leave old x).0 (leads.questions are ((same.sound new).1 sound) (same.to x) ((same.may_leave new x).1 may));
    held = λ are sound x held. (same.holds new x).0 (leads.held are ((same.sound new).1 sound) (same.to x) ((same.holds old x).1 held));
    faults = faults_as steps leads.faults;
  }
    where
      left : (L : List Request) (x : k.Left) → HasAll j (with_answered L steps) (in_doubt L steps) (same.to x) ⊎ ((has_change L steps ≡ false) × (first old).may_leave (same.to x))
          → HasAll k (with_answered L steps) (in_doubt L steps) x ⊎ ((has_change L steps ≡ false) × (second old).may_leave x)
      left L x (inl has) = inl (has_as (with_answered L steps) (in_doubt L steps) x has)
      left L x (inr was) = inr (was.0, (same.may_leave old x).0 was.1)

      follows : (L : List Request) → Follows rules L steps (first old) (first new) → Follows rules L steps (second old) (second new)
      follows L then = record {
        answers = then.answers;
        stands = (same.stands new (with_answered L steps)).0 then.stands;
        left = λ x may. left L x (then.left (same.to x) ((same.may_leave new x).1 may));
      }
