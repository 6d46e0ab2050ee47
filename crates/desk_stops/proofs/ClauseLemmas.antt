-- What the calls of a desk promise makes them steps.
use Rattle.std.proofs.Common.{◌≡◌, List, Result, Ok, Err, inl, inr, sym, ap, ◌∙◌}
use Rattle.onix_records.specs.declared.faults.StoreFault.{StoreFault}
use Rattle.price_rules.specs.declared.precedence.Rule.{Rule}
use Rattle.series_rules.proofs.ViewLemmas.{asks_of}
use Rattle.series_rules.specs.Answers.{answer_to}
use Rattle.series_rules.specs.Views.{Asks, DeskKind, View}
use Rattle.series_rules.specs.declared.answers.Answer.{Answer}
use Rattle.series_rules.specs.declared.requests.Request.{Request}
use Rattle.desk_stops.specs.Clauses.{CallsAreSteps, outcome}

asked : {X : Type 0} {k : DeskKind} (rules : List Rule) (r : Request) (made : X → Answer) (given : List Request → X) → ((L : List Request) → answer_to rules L r ≡ made (given L))
    → (o : Result X StoreFault) (old new : View k) → Asks r given old new o → Asks r (λ L. answer_to rules L r) old new (outcome made o)
asked rules r made given is (Ok x) old new it = record {
  premise = it.premise;
  ok = λ L stands sound. let done = it.ok L stands sound in (ap made done.0 ∙ sym (is L), done.1);
  err = λ L stands sound. tt;
  crash = it.crash;
  changed = it.changed;
  question = it.question;
  undone = λ sound. tt;
  fault = tt;
}
asked rules r made given is (Err f) old new it = record {
  premise = it.premise;
  ok = λ L stands sound. tt;
  err = it.err;
  crash = it.crash;
  changed = λ L stands sound did. tt;
  question = it.question;
  undone = it.undone;
  fault = it.fault;
}

pub calls_are_steps : {D X : Type 0} {k : DeskKind} (seen : D → View k) (rules : List Rule) → CallsAreSteps X seen rules
calls_are_steps seen rules r made given is o old new (inl asks) = asked rules r made given is o (seen old) (seen new) asks
calls_are_steps seen rules r made given is o old new (inr (asks, only)) = asked rules r made given is o (seen old) (seen new) (asks_of r given (seen old) (seen new) o asks only)
