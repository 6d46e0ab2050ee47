use Rattle.std.proofs.Common.{ap, length, ◌∙◌}
use Rattle.std.specs.Cmp.Lexicographic.{slice_cmp}
use Rattle.std.specs.Option.{unwrap_or}
use Rattle.std.specs.Ordering.{is_lt, nat_cmp}
use Rattle.desk_memory.proofs.InOrder.{position_or_end}
use Rattle.desk_memory.proofs.desk.place_for.Goals as goal

pub returns : goal.returns
returns c = c.unwrap_or.ensures
    ∙ ap (λ o. unwrap_or o (length c.args.kept.now)) c.place_after.ensures
    ∙ position_or_end (λ s. is_lt (slice_cmp nat_cmp c.args.name.now s.agreement.name)) c.args.kept.now
