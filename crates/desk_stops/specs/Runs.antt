-- Runs of a desk with stops: from what an opening finds to what a closing or a stop leaves.
-- A list of requests, and a list of events, has the latest first.
use Rattle.std.specs.Prelude.{◌≡◌, ◌⊎◌, false, List, [], ◌∷◌}
use Rattle.price_rules.specs.declared.precedence.Rule.{Rule}
use Rattle.series_rules.specs.Changes.{is_question}
use Rattle.series_rules.specs.Steps.{Asked, Step}
use Rattle.series_rules.specs.Views.{DeskKind, LeavesOnly, View}
use Rattle.series_rules.specs.declared.requests.Request.{Request}

-- how an open desk ended: it was closed, or a stop came between two calls, or inside the call of a
-- request
pub data End : Type 0 where
  Closing : End
  Stop : End
  StopInside : Request → End

-- what may happen: a desk was opened, it was asked these steps, the first first, and ended so; or
-- an opening gave no desk: it ended in a fault, or a stop came inside it
pub data Event : Type 0 where
  Used : List Step → End → Event
  FailedOpening : Event

-- what a stop may leave after the call, it could leave before, or it is what the list comes to with
-- the request, unless that is a question
abbrev pub AddsAtMost : {k : DeskKind} → Request → View k → View k → Type 0
AddsAtMost {k} r old new =
    (L : List Request) → old.stands_for L
    → (x : k.Left) → new.may_leave x
    → old.may_leave x ⊎ ((is_question r ≡ false) × k.comes_to x (r ∷ L))

-- Is empty: nothing was kept yet
module _ (k : DeskKind) (IsEmpty : k.Left → Type 0) where
  -- what is found is that of those requests: what they come to, or it is empty and they are none
  abbrev pub IsFoundFor : k.Left → List Request → Type 0
  IsFoundFor x L = k.comes_to x L ⊎ (IsEmpty x × (L ≡ []))

  -- a desk was opened where that was found: it stands for the requests of that, and a stop leaves
  -- what they come to alone
  pub record Opens (found : k.Left) (new : View k) : Type 0 where
    pub stands : new.sound → (L : List Request) → IsFoundFor found L → new.stands_for L
    pub alone : new.sound → (L : List Request) → IsFoundFor found L → LeavesOnly new L

  -- an opening that gave no desk left what is of the same requests
  abbrev pub KeepsFound : k.Left → k.Left → Type 0
  KeepsFound found left = (L : List Request) → IsFoundFor found L → IsFoundFor left L

  -- a desk that was closed left what is of the requests that it stood for
  abbrev pub Closes : View k → k.Left → Type 0
  Closes old left = (L : List Request) → old.stands_for L → IsFoundFor left L

module _ {D : Type 0} {k : DeskKind} (seen : D → View k) (rules : List Rule)
    (IsEmpty : k.Left → Type 0) where
  -- An open desk: it was opened where that was found, and asked these steps since. Each exit of a
  -- call kept its clause, and the premise holds.
  pub record IsOpen (found : k.Left) (steps : List Step) (desk : D) : Type 0 where
    pub first : D
    pub opens : Opens k IsEmpty found (seen first)
    pub were_asked : Asked seen rules first desk steps
    pub sound : (seen desk).sound

  -- so it ended, and left that. Where a stop came inside a call, `last` is the desk as it then was:
  -- what a stop may leave of it is what the call promises of an answer and of a fault alike
  abbrev pub Ends : D → End → k.Left → Type 0
  Ends desk Closing left = Closes k IsEmpty (seen desk) left
  Ends desk Stop left = (seen desk).may_leave left
  Ends desk (StopInside r) left =
      (last : D) × (seen last).sound × AddsAtMost r (seen desk) (seen last)
      × (seen last).may_leave left

  -- the event led from what was found to what was left
  abbrev pub Happens : k.Left → Event → k.Left → Type 0
  Happens found (Used steps end) left = (desk : D) × IsOpen found steps desk × Ends desk end left
  Happens found FailedOpening left = KeepsFound k IsEmpty found left

  -- those events led there from what was found at first
  abbrev pub Runs : k.Left → List Event → k.Left → Type 0
  Runs found [] left = left ≡ found
  Runs found (e ∷ h) left = (before : k.Left) × Runs found h before × Happens before e left
