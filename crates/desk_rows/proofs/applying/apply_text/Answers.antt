use Rattle.desk_catalogue.proofs.DoesLemmas.{did_as}
use Rattle.desk_rows.proofs.applying.apply_text.Goals as goal

pub returns : goal.returns
returns g c = did_as c.in_ok-apply_at.ensures (λ rows now one. (c.in_ok-standing.standing, c.in_ok-standing.ensures.0, c.in_ok-standing.ensures.1, c.in_ok-apply_at.field-0, one))
