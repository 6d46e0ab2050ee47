use Rattle.std.proofs.Common.{refl, sym, ◌∙◌}
use Rattle.desk_catalogue.proofs.DoesLemmas.{called, did_also, did_nothing}
use Rattle.desk_catalogue.proofs.messages.may_have_minimums.Goals as goal

pub returns-then-among-clause-does : goal.returns-then-among-clause-does
returns-then-among-clause-does g c = did_nothing (λ rows. (refl, λ without. absurd cc))

pub returns-clause-does : goal.returns-clause-does
returns-clause-does g c = did_also (called c.has_minimums.ensures) (λ rows after has one. (one.1, λ without. sym one.0 ∙ without))
