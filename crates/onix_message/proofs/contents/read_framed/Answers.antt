use Rattle.std.proofs.Common.{List, ℕ, ◌∙◌, sym, subst}
use Rattle.onix_records.specs.Grammar.{IsMessage}
use Rattle.onix_message.proofs.contents.read_framed.Goals as goal

pub returns-in-Err-Malformed-clause-none : goal.returns-in-Err-Malformed-clause-none
returns-in-Err-Malformed-clause-none c = λ _ h p m.
    (rw c.in-Err-Malformed.field-0-is at c.in-Err-Malformed.ensures.fault).0 h p
    (subst (λ (rs : List (List (List ℕ))). IsMessage rs h p) (sym (c.as_records.ensures ∙ c.in_ok-records.ensures)) m)
