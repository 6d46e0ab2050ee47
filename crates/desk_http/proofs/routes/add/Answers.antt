use Rattle.matchit.specs.Route.{parse_route}
use Rattle.desk_http.proofs.InsertLemmas.{inserted_ok}
use Rattle.desk_http.proofs.routes.add.Goals as goal

pub returns : goal.returns
returns c = inserted_ok (parse_route c.args.text.now) c.args.route c.args.router.now c.insert.new.self c.insert.result c.insert.ensures
