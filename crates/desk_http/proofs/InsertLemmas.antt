-- What a route that went in leaves.
use Rattle.std.proofs.Common.{◌≡◌, Result, Ok, Err}
use Rattle.std.specs.Prelude.{OnOk}
use Rattle.matchit.specs.Rows.{RowsOf}
use Rattle.matchit.specs.Route.{Scan}
use Rattle.matchit.specs.Router.{RouteOf, InsertsRead}
use Rattle.matchit.specs.declared.error.InsertError.{InsertError}
use Rattle.desk_http.specs.declared.routes.Route.{Route}
use Rattle.desk_http.specs.Table.{with_read}

pub inserted_ok : (s : Result Scan InsertError) (value : Route) (old new : RowsOf (RouteOf Route)) (r : Result (Unit {0}) InsertError)
    → InsertsRead s value old new r → OnOk r (new ≡ with_read s value old)
inserted_ok (Ok s) value old new (Ok u) h = h.1
inserted_ok (Err e) value old new (Ok u) h = h.0
inserted_ok s value old new (Err e) h = tt
