use Rattle.std.proofs.Common.{ap, map, ◌∙◌}
use Rattle.desk_texts.specs.Requests.{requests_of}
use Rattle.desk_texts.specs.Pieces.{pieces}
use Rattle.desk_texts.specs.RequestRows.{request_of}
use Rattle.desk_texts.proofs.request_rows.requests_in.Goals as goal

pub returns-in-Ok : goal.returns-in-Ok
unfolding requests_of
returns-in-Ok g c =
    let read = c.in_ok-reader.ensures.records in
    ((read.0, read.1), c.in-Ok.ensures.requests ∙ ap (λ rows. map request_of (pieces rows)) read.2)
