use Rattle.http_requests.specs.Fields.{field_values}
use Rattle.http_requests.proofs.parts.Head.only_field.Goals as goal

pub returns-clause-one : goal.returns-clause-one
unfolding field_values
returns-clause-one c h is = rw (← is.fields) (rw (c.deref.ensures.value, c.deref-2.ensures.value) at c.only_value.ensures.one)

pub returns-clause-more : goal.returns-clause-more
unfolding field_values
returns-clause-more c h is = rw (← is.fields) (rw (c.deref.ensures.value, c.deref-2.ensures.value) at c.only_value.ensures.more)
