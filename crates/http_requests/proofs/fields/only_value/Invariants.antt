use Rattle.std.proofs.Common.{◌≡◌, length, ◌++◌, All}
use Rattle.std.specs.Prelude.{map, option_map, option_to_list}
use Rattle.httparse.specs.Spans.{header_bytes, IsHeaderWithin}
use Rattle.http_requests.specs.Fields.{same_name, values_where}
use Rattle.http_requests.proofs.fields.only_value.Given as goal

abbrev pub invariant-loop-rest : goal.invariant-loop-rest
invariant-loop-rest l = record {
  within : All (IsHeaderWithin (length l.bytes)) l.rest;
  values : values_where (λ n. same_name n l.name) (map (header_bytes l.bytes) l.spans)
      ≡ option_to_list (option_map (λ v. v.now) l.found) ++ values_where (λ n. same_name n l.name) (map (header_bytes l.bytes) l.rest);
}

abbrev pub decreases-loop-rest : goal.decreases-loop-rest
decreases-loop-rest l = length l.rest
