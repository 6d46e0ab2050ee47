use Rattle.http_requests.specs.Posted.{size_asked}
use Rattle.http_requests.proofs.FieldLemmas.{size_found}
use Rattle.http_requests.proofs.parts.Head.body_size.Goals as goal

pub returns-clause-size : goal.returns-clause-size
unfolding size_asked
returns-clause-size c h is =
    size_found c.only_field.result _ c.body_size.result (c.only_field.ensures.one h is) (c.only_field.ensures.more h is) c.body_size.ensures.one c.body_size.ensures.more
