-- One more connection of those that were served.
use Rattle.std.proofs.Common.{◌≡◌, ◌++◌, ◌∷◌, ◌∙◌, [], inl, inr, ℕ, Bool, List, Option, arith, refl, sym, subst, ap, append-nil}
use Rattle.std.specs.Io.KnownBytes.{Appends}
use Rattle.std.proofs.KnownBytes.{Appends-trans}
use Rattle.std.specs.List.{flat_map}
use Rattle.std.proofs.lemmas.List.Concat.{flat_map-append}
use Rattle.std.proofs.lemmas.List.Elements.{All-nil}
use Rattle.price_rules.specs.declared.precedence.Rule.{Rule}
use Rattle.series_rules.proofs.TraceLemmas.{trace_then}
use Rattle.series_rules.specs.Steps.{Asked, Step}
use Rattle.series_rules.specs.Views.{DeskKind, View}
use Rattle.desk_http.specs.Writing.{WritesFront}
use Rattle.program_commands.proofs.ConnectionLines.{lines_behind}
use Rattle.program_commands.specs.Connections.{Connection, IsServed}
use Rattle.program_commands.specs.Serving.{listening_line}
use Rattle.program_commands.specs.CommandEnds.{ConnectionsServed, ServeEnds}

abbrev pub steps_of : List Connection → List Step
steps_of served = flat_map (λ (c : Connection). c.steps) served

-- what was asked in one connection more
pub one_more_asked : {D : Type 0} {k : DeskKind} (seen : D → View k) (rules : List Rule) (old mid new : D) (served : List Connection) (c : Connection)
    → Asked seen rules old mid (steps_of served) → Asked seen rules mid new c.steps → Asked seen rules old new (steps_of (served ++ c ∷ []))
one_more_asked seen rules old mid new served c asked one =
    subst (Asked seen rules old new)
    (ap (λ t. steps_of served ++ t) (sym (append-nil c.steps)) ∙ sym (flat_map-append (λ (d : Connection). d.steps) served (c ∷ [])))
    (trace_then seen rules (steps_of served) c.steps old mid new asked one)

-- no client was served: the line of the port was not written, or a first part of it
pub unserved_ends : (asked : List Step → Type 0) (written : List ℕ → Type 0) (batches : Bool) (port count status : ℕ) → asked [] → status ≡ 3 → WritesFront written (listening_line port)
    → ServeEnds asked written batches port count status
unserved_ends asked written batches port count status none three front = ([], (omega arith, All-nil (IsServed batches), none), inl (three, refl, front))

-- clients were served behind the line of the port
pub served_ends : (asked : List Step → Type 0) (was before holds : Option (List ℕ)) (batches : Bool) (port count status : ℕ) → Appends was before (listening_line port)
    → ConnectionsServed asked (Appends before holds) batches count status → ServeEnds asked (Appends was holds) batches port count status
served_ends asked was before holds batches port count status line ended = (
  ended.0,
  ended.1,
  inr (
    lines_behind was before holds (listening_line port) ended.0 line ended.2.0,
    elim ended.2.1 [
      | inl done ↦ inl (done.0, done.1, Appends-trans was before holds _ _ line done.2)
      | inr three ↦ inr three
    ],
  ),
)
