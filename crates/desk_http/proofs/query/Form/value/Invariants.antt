use Rattle.std.proofs.Common.{◌≡◌, drop, nat_eq, ◌++◌}
use Rattle.std.specs.Prelude.{map, option_map, option_to_list}
use Rattle.std.specs.Cmp.Lexicographic.{pointwise}
use Rattle.http_requests.specs.Fields.{values_where}
use Rattle.desk_http.specs.Query.{texts}
use Rattle.desk_http.proofs.query.Form.value.Given as goal

abbrev pub invariant-loop-name : goal.invariant-loop-name
invariant-loop-name l =
    values_where (λ name. pointwise nat_eq name l.key) l.self
    ≡ option_to_list (option_map (λ v. v.now) l.found) ++ values_where (λ name. pointwise nat_eq name l.key) (map texts (drop l.name-index l.name-items))
