-- After every run with stops, what is there is that of an effective list.
use Rattle.std.proofs.Common.{◌≡◌, ◌⊎◌, ◌∷◌, zero, Bool, true, false, List, [], Ok, Err, Result, inl, inr, refl, sym, subst, arith, cond}
use Rattle.onix_records.specs.declared.faults.StoreFault.{StoreFault}
use Rattle.price_rules.specs.declared.precedence.Rule.{Rule}
use Rattle.series_rules.proofs.StepLemmas.{follows, more_doubted, unchanged_all}
use Rattle.series_rules.proofs.TraceLemmas.{trace_premise}
use Rattle.series_rules.specs.Answers.{answer_to}
use Rattle.series_rules.specs.Changes.{is_question}
use Rattle.series_rules.specs.Steps.{Follows, HasAll, Step, has_change, in_doubt, with_answered}
use Rattle.series_rules.specs.Views.{Asks, DeskKind, View}
use Rattle.series_rules.specs.declared.answers.Answer.{Answer}
use Rattle.series_rules.specs.declared.requests.Request.{Request}
use Rattle.std.specs.Prelude.{IfOk}
use Rattle.desk_stops.specs.Effective.{AnsweredAsIfNeverStopped, HasAtMostOne, WhatIsLeftIsEffective, WhatIsOpenedIsEffective, doubted_at}
use Rattle.desk_stops.specs.Runs.{AddsAtMost, Closing, End, Ends, FailedOpening, IsFoundFor, IsOpen, Stop, StopInside, Used}

-- the request that the stop came into
stopped_in : (k : DeskKind) (kept doubted : List Request) (r : Request) (b : Bool) → b ≡ false → (x : k.Left) → k.comes_to x (r ∷ kept) → HasAll k kept (cond b doubted (r ∷ doubted)) x
stopped_in k kept doubted r true none x came = absurd cc
stopped_in k kept doubted r false none x came = inr (r, (zero, omega arith, refl), came)

module _ {D : Type 0} {k : DeskKind} (seen : D → View k) (rules : List Rule) (IsEmpty : k.Left → Type 0) where
  -- what is left is that of the list, or of the list with one that was in doubt
  of_list : (kept doubted : List Request) (x : k.Left) → HasAll k kept doubted x → (M : List Request) × HasAtMostOne kept doubted M × IsFoundFor k IsEmpty x M
  of_list kept doubted x (inl comes) = (kept, inl refl, inl comes)
  of_list kept doubted x (inr (r, among, comes)) = (r ∷ kept, inr (r, among, refl), inl comes)

  module _ (found : k.Left) (L : List Request) (is : IsFoundFor k IsEmpty found L) (steps : List Step) (desk : D) (opened : IsOpen seen rules IsEmpty found steps desk) where
    sound_first : (seen opened.first).sound
    sound_first = trace_premise seen rules steps opened.first desk opened.were_asked opened.sound

    followed : Follows rules L steps (seen opened.first) (seen desk)
    followed = follows seen rules steps opened.first desk opened.were_asked L (opened.opens.stands sound_first L is) opened.sound

    at_stop : (x : k.Left) → (seen desk).may_leave x → HasAll k (with_answered L steps) (in_doubt L steps) x
    at_stop x may = go (followed.left x may)
      where
        go : HasAll k (with_answered L steps) (in_doubt L steps) x ⊎ ((has_change L steps ≡ false) × (seen opened.first).may_leave x) → HasAll k (with_answered L steps) (in_doubt L steps) x
        go (inl has) = has
        go (inr (same, before)) = inl (k.by_content x L (with_answered L steps) (unchanged_all L steps same) (opened.opens.alone sound_first L is x before))

    inside : (r : Request) (last : View k) → AddsAtMost r (seen desk) last → (x : k.Left) → last.may_leave x → HasAll k (with_answered L steps) (doubted_at (StopInside r) L steps) x
    inside r last adds x may = go (adds (with_answered L steps) followed.stands x may)
      where
        go : (seen desk).may_leave x ⊎ ((is_question r ≡ false) × k.comes_to x (r ∷ with_answered L steps)) → HasAll k (with_answered L steps) (doubted_at (StopInside r) L steps) x
        go (inl before) = more_doubted k rules (with_answered L steps) (in_doubt L steps) r (is_question r) x (at_stop x before)
        go (inr (changes, came)) = stopped_in k (with_answered L steps) (in_doubt L steps) r (is_question r) changes x came

    ended : (end : End) (x : k.Left) → Ends seen rules IsEmpty desk end x → (M : List Request) × HasAtMostOne (with_answered L steps) (doubted_at end L steps) M × IsFoundFor k IsEmpty x M
    ended Closing x closes = (with_answered L steps, inl refl, closes (with_answered L steps) followed.stands)
    ended Stop x may = of_list (with_answered L steps) (in_doubt L steps) x (at_stop x may)
    ended (StopInside r) x (last, sound, adds, may) = of_list (with_answered L steps) (doubted_at (StopInside r) L steps) x (inside r (seen last) adds x may)

    answered : (r : Request) (o : Result Answer StoreFault) (next : D) → Asks r (λ M. answer_to rules M r) (seen desk) (seen next) o → (seen next).sound → IfOk o (λ a. a ≡ answer_to rules (with_answered L steps) r)
    answered r (Ok a) next asks sound = (asks.ok (with_answered L steps) followed.stands sound).0
    answered r (Err f) next asks sound = tt

  pub what_is_left_is_effective : WhatIsLeftIsEffective seen rules IsEmpty
  what_is_left_is_effective L0 found at_first [] left same = (L0, refl, subst (λ x. IsFoundFor k IsEmpty x L0) (sym same) at_first)
  what_is_left_is_effective L0 found at_first (FailedOpening ∷ h) left (before, runs, keeps) =
      let was = what_is_left_is_effective L0 found at_first h before runs in
      (was.0, was.1, keeps was.0 was.2)
  what_is_left_is_effective L0 found at_first (Used steps end ∷ h) left (before, runs, (desk, opened, ends)) =
      let was = what_is_left_is_effective L0 found at_first h before runs in
      let now = ended before was.0 was.2 steps desk opened end left ends in
      (now.0, (was.0, was.1, (followed before was.0 was.2 steps desk opened).answers, now.1), now.2)

  pub what_is_opened_is_effective : WhatIsOpenedIsEffective seen rules IsEmpty
  what_is_opened_is_effective L0 found at_first h before runs desk opens sound =
      let was = what_is_left_is_effective L0 found at_first h before runs in
      (was.0, was.1, opens.stands sound was.0 was.2, opens.alone sound was.0 was.2)

  pub answered_as_if_never_stopped : AnsweredAsIfNeverStopped seen rules IsEmpty
  answered_as_if_never_stopped L0 found at_first h before runs steps desk opened =
      let was = what_is_left_is_effective L0 found at_first h before runs in
      let it = followed before was.0 was.2 steps desk opened in
      (was.0, was.1, it.answers, it.stands, answered before was.0 was.2 steps desk opened)
