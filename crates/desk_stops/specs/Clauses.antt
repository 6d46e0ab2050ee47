-- What is promised of a call of a desk, as what is asked of a step.
use Rattle.std.specs.Prelude.{◌≡◌, ◌⊎◌, true, List, Result, Ok, Err}
use Rattle.onix_records.specs.declared.faults.StoreFault.{StoreFault}
use Rattle.price_rules.specs.declared.precedence.Rule.{Rule}
use Rattle.series_rules.specs.Answers.{answer_to}
use Rattle.series_rules.specs.Changes.{is_question}
use Rattle.series_rules.specs.Views.{Asks, AsksOnly, DeskKind, View}
use Rattle.series_rules.specs.declared.answers.Answer.{Answer}
use Rattle.series_rules.specs.declared.requests.Request.{Request}

-- the answer that is made of what a call gave, or its fault
abbrev pub outcome : {X : Type 0} → (X → Answer) → Result X StoreFault → Result Answer StoreFault
outcome made (Ok x) = Ok (made x)
outcome made (Err f) = Err f

-- Each way out of a call of a desk, which gives X, of which the answer to a request is made, is one
-- of that request. So it is with `agree`, `deliver` and `waive`, and with the calls that only ask.
abbrev pub CallsAreSteps : {D : Type 0} → {k : DeskKind} → Type 0 → (D → View k) → List Rule
    → Type 0
CallsAreSteps {D} X seen rules =
    (r : Request) (made : X → Answer) (given : List Request → X)
    → ((L : List Request) → answer_to rules L r ≡ made (given L))
    → (o : Result X StoreFault) (old new : D)
    → Asks r given (seen old) (seen new) o
    ⊎ ((is_question r ≡ true) × AsksOnly given (seen old) (seen new) o)
    → Asks r (λ L. answer_to rules L r) (seen old) (seen new) (outcome made o)
