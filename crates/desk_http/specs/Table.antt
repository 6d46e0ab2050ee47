-- The rows of the desk's router.
use Rattle.std.specs.Prelude.{ℕ, List, [], Result, Ok, Err, codes}
use Rattle.matchit.specs.Rows.{RowsOf}
use Rattle.matchit.specs.Order.{placed}
use Rattle.matchit.specs.Route.{Scan, parse_route}
use Rattle.matchit.specs.Router.{RouteOf, route_from}
use Rattle.matchit.specs.declared.error.InsertError.{InsertError}
use Rattle.desk_http.specs.declared.routes.Route.{Route}
use Rattle.desk_http.specs.declared.routes.Route.TheVariants as r

-- the rows with a route that was read
abbrev pub with_read : Result Scan InsertError → Route → RowsOf (RouteOf Route)
    → RowsOf (RouteOf Route)
with_read (Ok s) value rows = placed (s.pattern, route_from s value) rows
with_read (Err e) value rows = rows

abbrev pub with_route : List ℕ → Route → RowsOf (RouteOf Route) → RowsOf (RouteOf Route)
with_route text value rows = with_read (parse_route text) value rows

unfoldable pub table : RowsOf (RouteOf Route)
table =
    with_route (codes "/series/{name}/catalogue") r.Catalogue
    (with_route (codes "/series/{name}/gaps") r.Gaps
    (with_route (codes "/articles/{isbn}/calendar") r.Calendar
    (with_route (codes "/articles/{isbn}/choice") r.Choice
    (with_route (codes "/articles/{isbn}/price") r.Price
    (with_route (codes "/messages") r.Messages [])))))
