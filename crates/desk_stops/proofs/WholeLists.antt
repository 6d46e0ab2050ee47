-- An effective list has all that was answered, and at most one further request for each stop.
use Rattle.std.proofs.Common.{ℕ, zero, suc, List, [], ◌∷◌, Ok, Err, refl, subst, sym, inl, inr, arith}
use Rattle.series_rules.specs.Steps.{Step, with_answered}
use Rattle.series_rules.specs.declared.requests.Request.{Request}
use Rattle.desk_stops.specs.Effective.{AnsweredAreWhole, HasAtMostOne, HasMore, answered_after, stops_in}
use Rattle.desk_stops.specs.Runs.{Closing, FailedOpening, Stop, StopInside, Used}

more_same : (n : ℕ) (L : List Request) → HasMore n L L
more_same n [] = refl
more_same n (x ∷ L) = inl (L, refl, more_same n L)

more_suc : (n : ℕ) (L M : List Request) → HasMore n L M → HasMore (suc n) L M
more_suc n L [] it = it
more_suc n L (x ∷ M) (inl it) = inl (it.0, it.1, more_suc n it.0 M it.2)
more_suc n L (x ∷ M) (inr it) = inr (n, refl, subst (λ m. HasMore m L M) (sym it.1) (more_suc it.0 L M it.2))

more_answered : (n : ℕ) (L M : List Request) (steps : List Step) → HasMore n L M → HasMore n (with_answered L steps) (with_answered M steps)
more_answered n L M [] it = it
more_answered n L M ((r, Ok a) ∷ steps) it = more_answered n (r ∷ L) (r ∷ M) steps (inl (L, refl, it))
more_answered n L M ((r, Err f) ∷ steps) it = more_answered n L M steps it

more_at_stop : (n : ℕ) (L M doubted N : List Request) → HasMore n L M → HasAtMostOne M doubted N → HasMore (suc n) L N
more_at_stop n L M doubted N it (inl same) = subst (HasMore (suc n) L) (sym same) (more_suc n L M it)
more_at_stop n L M doubted N it (inr (r, among, same)) = subst (HasMore (suc n) L) (sym same) (inr (n, refl, it))

more_closed : (n : ℕ) (L M N : List Request) → HasMore n L M → HasAtMostOne M [] N → HasMore n L N
more_closed n L M N it (inl same) = subst (HasMore n L) (sym same) it
more_closed n L M N it (inr (r, (i, few, is), same)) = absurd (omega (arith, few))

pub answered_are_whole : AnsweredAreWhole
answered_are_whole rules L0 [] M same = subst (HasMore zero L0) (sym same) (more_same zero L0)
answered_are_whole rules L0 (FailedOpening ∷ h) M it = answered_are_whole rules L0 h M it
answered_are_whole rules L0 (Used steps Closing ∷ h) M (L, was, answers, has) =
    more_closed (stops_in h) _ (with_answered L steps) M (more_answered (stops_in h) (answered_after L0 h) L steps (answered_are_whole rules L0 h L was)) has
answered_are_whole rules L0 (Used steps Stop ∷ h) M (L, was, answers, has) =
    more_at_stop (stops_in h) _ (with_answered L steps) _ M (more_answered (stops_in h) (answered_after L0 h) L steps (answered_are_whole rules L0 h L was)) has
answered_are_whole rules L0 (Used steps (StopInside r) ∷ h) M (L, was, answers, has) =
    more_at_stop (stops_in h) _ (with_answered L steps) _ M (more_answered (stops_in h) (answered_after L0 h) L steps (answered_are_whole rules L0 h L was)) has
