-- The effective lists of a run with stops. Events and requests stand with the latest first.
use Rattle.std.specs.Prelude.{◌≡◌, ◌⊎◌, ℕ, zero, suc, Contains, IfOk, List, [], ◌∷◌, Result, if◌then◌else◌}
use Rattle.onix_records.specs.declared.faults.StoreFault.{StoreFault}
use Rattle.price_rules.specs.declared.precedence.Rule.{Rule}
use Rattle.series_rules.specs.Answers.{answer_to}
use Rattle.series_rules.specs.Changes.{is_question}
use Rattle.series_rules.specs.Steps.{AreTrue, Step, in_doubt, with_answered}
use Rattle.series_rules.specs.Views.{Asks, DeskKind, LeavesOnly, View}
use Rattle.series_rules.specs.declared.answers.Answer.{Answer}
use Rattle.series_rules.specs.declared.requests.Request.{Request}
use Rattle.desk_stops.specs.Runs.{End, Closing, Stop, StopInside, Event, Used, FailedOpening, IsFoundFor, IsOpen, Opens, Runs}

-- the requests in doubt where a desk ended so, that was asked these steps after L: none where it
-- was closed; at a stop those of the steps, and the one inside whose call it came, unless that is a
-- question
abbrev pub doubted_at : End → List Request → List Step → List Request
doubted_at Closing L steps = []
doubted_at Stop L steps = in_doubt L steps
doubted_at (StopInside r) L steps =
    if is_question r then in_doubt L steps else r ∷ in_doubt L steps

-- M is L, or L with one of these requests
abbrev pub HasAtMostOne : List Request → List Request → List Request → Type 0
HasAtMostOne L doubted M = (M ≡ L) ⊎ ((r : Request) × Contains doubted r × (M ≡ r ∷ L))

-- M is an effective list of the events, where it was L0 at first: it has L0 and then the answered
-- requests, each of which had the answer to it after what the list has before it, and at each stop
-- perhaps one more, which was in doubt
abbrev pub IsEffective : List Rule → List Request → List Event → List Request → Type 0
IsEffective rules L0 [] M = M ≡ L0
IsEffective rules L0 (Used steps end ∷ h) M =
    (L : List Request) × IsEffective rules L0 h L × AreTrue rules L steps
    × HasAtMostOne (with_answered L steps) (doubted_at end L steps) M
IsEffective rules L0 (FailedOpening ∷ h) M = IsEffective rules L0 h M

module _ {D : Type 0} {k : DeskKind} (seen : D → View k) (rules : List Rule)
    (IsEmpty : k.Left → Type 0) where
  -- a desk that was just opened, after any run, stands for an effective list, and a stop leaves
  -- what comes of that list and nothing else. An effective list (`IsEffective`) has the first list
  -- and then the answered requests, in order, and at each stop perhaps one more: no question,
  -- faulted or stopped inside since the last opening, with no answered request since then that
  -- changed the desk. It explains all answers
  abbrev pub WhatIsOpenedIsEffective : Type 0
  WhatIsOpenedIsEffective =
      (L0 : List Request) (found : k.Left) → IsFoundFor k IsEmpty found L0
      → (h : List Event) (before : k.Left) → Runs seen rules IsEmpty found h before
      → (desk : D) → Opens k IsEmpty before (seen desk) → (seen desk).sound
      → (L : List Request) × IsEffective rules L0 h L × (seen desk).stands_for L
      × LeavesOnly (seen desk) L

  -- what a stop, a closing or an opening without a desk leaves is that of an effective list
  abbrev pub WhatIsLeftIsEffective : Type 0
  WhatIsLeftIsEffective =
      (L0 : List Request) (found : k.Left) → IsFoundFor k IsEmpty found L0
      → (h : List Event) (left : k.Left) → Runs seen rules IsEmpty found h left
      → (L : List Request) × IsEffective rules L0 h L × IsFoundFor k IsEmpty left L

  -- an open desk stands for an effective list with what was answered since, and answers each
  -- further request, or one that comes again, as a desk that was never stopped does after that list
  abbrev pub AnsweredAsIfNeverStopped : Type 0
  AnsweredAsIfNeverStopped =
      (L0 : List Request) (found : k.Left) → IsFoundFor k IsEmpty found L0
      → (h : List Event) (before : k.Left) → Runs seen rules IsEmpty found h before
      → (steps : List Step) (desk : D) → IsOpen seen rules IsEmpty before steps desk
      → (L : List Request) × IsEffective rules L0 h L × AreTrue rules L steps
      × (seen desk).stands_for (with_answered L steps)
      × ((r : Request) (o : Result Answer StoreFault) (next : D)
      → Asks r (λ M. answer_to rules M r) (seen desk) (seen next) o → (seen next).sound
      → IfOk o (λ a. a ≡ answer_to rules (with_answered L steps) r))

-- L0 and then the requests that were answered
abbrev pub answered_after : List Request → List Event → List Request
answered_after L0 [] = L0
answered_after L0 (Used steps end ∷ h) = with_answered (answered_after L0 h) steps
answered_after L0 (FailedOpening ∷ h) = answered_after L0 h

-- how many stops found a desk open
abbrev pub stops_in : List Event → ℕ
stops_in [] = zero
stops_in (Used steps Closing ∷ h) = stops_in h
stops_in (Used steps _ ∷ h) = suc (stops_in h)
stops_in (FailedOpening ∷ h) = stops_in h

-- M is L with at most n requests among it
abbrev pub HasMore : ℕ → List Request → List Request → Type 0
HasMore n L [] = L ≡ []
HasMore n L (x ∷ M) =
    ((K : List Request) × (L ≡ x ∷ K) × HasMore n K M)
    ⊎ ((m : ℕ) × (n ≡ suc m) × HasMore m L M)

-- an effective list is the first list and the answered requests in order, with at most one further
-- request for each stop
abbrev pub AnsweredAreWhole : Type 0
AnsweredAreWhole =
    (rules : List Rule) (L0 : List Request) (h : List Event) (M : List Request)
    → IsEffective rules L0 h M
    → HasMore (stops_in h) (answered_after L0 h) M
