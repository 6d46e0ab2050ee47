-- The route that a head asks for.
use Rattle.std.specs.Prelude.{ℕ, ◌==◌, List, nat_lt, length, bytes_eq, if◌then◌else◌, Option, Result, Ok, Err, codes}
use Rattle.std.specs.List.{after_first, before_first}
use Rattle.httparse.specs.Grammar.{RequestHead}
use Rattle.http_requests.specs.declared.refusal.Refusal.{Refusal}
use Rattle.http_requests.specs.declared.refusal.Refusal.TheVariants as refusal
use Rattle.http_requests.specs.declared.refusal.Method.{Method}
use Rattle.http_requests.specs.declared.refusal.Method.TheVariants as method
use Rattle.desk_http.specs.declared.routes.Route.{Route}
use Rattle.desk_http.specs.declared.routes.Route.TheVariants as route
use Rattle.http_requests.specs.Fields.{field_values}
use Rattle.desk_http.specs.Keys.{route_at}
use Rattle.http_requests.specs.Steps.{◌>>=◌, or_refuse}

-- the path of a target: what stands before the first question mark
abbrev pub path_of : List ℕ → List ℕ
path_of target = before_first (λ b. b == 63) target

-- the query of a target: what stands behind it
abbrev pub query_of : List ℕ → List ℕ
query_of target = after_first (λ b. b == 63) target

-- the method that a route takes
abbrev pub method_of : Route → Method
method_of route.Messages = method.Post
method_of _ = method.Get

-- the name of a method
abbrev pub method_name : Method → List ℕ
method_name method.Get = codes "GET"
method_name method.Post = codes "POST"

-- the route, where it is asked by its method
abbrev pub route_by : List ℕ → Route → Result Route Refusal
route_by name r =
    if bytes_eq name (method_name (method_of r)) then Ok r
    else Err (refusal.MethodNotAllowed (method_of r))

-- the route that a head asks for, whose path has this route, or none
abbrev pub route_taken : Option Route → RequestHead → Result Route Refusal
route_taken found h =
    if nat_lt 0 (length (field_values (codes "transfer-encoding") h))
    then Err refusal.TransferEncoding
    else or_refuse refusal.NotFound found >>= route_by h.method

-- the route of a path that is asked by the method of that name
abbrev pub route_found : List ℕ → List ℕ → Result Route Refusal
route_found path name = or_refuse refusal.NotFound (route_at path) >>= route_by name

-- the route that a head asks for
unfoldable pub route_asked : RequestHead → Result Route Refusal
route_asked h = route_taken (route_at (path_of h.target)) h
