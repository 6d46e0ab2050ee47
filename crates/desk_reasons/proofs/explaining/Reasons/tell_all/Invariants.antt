use Rattle.std.proofs.Common.{◌≡◌, length}
use Rattle.std.specs.Prelude.{fold}
use Rattle.desk_reasons.specs.Lines.{room_after}
use Rattle.desk_reasons.specs.Refused.{malformed_row}
use Rattle.desk_reasons.proofs.explaining.Reasons.tell_all.Given as goal

abbrev pub invariant-loop-rest : goal.invariant-loop-rest
invariant-loop-rest l =
    fold (λ room request. room_after room (malformed_row request)) l.self.room l.rest
    ≡ fold (λ room request. room_after room (malformed_row request)) l.fn.self.room l.fn.requests

abbrev pub decreases-loop-rest : goal.decreases-loop-rest
decreases-loop-rest l = length l.rest
