use Rattle.desk_http.specs.Routing.{route_asked}
use Rattle.desk_http.proofs.routing.read_route.Goals as goal

pub returns : goal.returns
unfolding route_asked
returns c h is =
    rw (← c.has_field.ensures h is, c.if-has_field.false, ← c.target_text.ensures h is, ← c.method.ensures h is, ← c.cut.ensures.before) c.take_route.ensures
