use Rattle.std.proofs.Common.{[]}
use Rattle.onix_records.specs.Opening.{opening_fields}
use Rattle.onix_records.proofs.TenFields.{ten-are}
use Rattle.onix_records.proofs.opening.read_opening_fields.Goals as goal

pub returns : goal.returns
unfolding opening_fields
returns c = rw (ten-are (λ f. f.now) c.args.fields.now (record { ref_ptr = (0, 0); now = [] }) c.in-len10.len_at_least c.in-len10.len_below) c.make_opening.ensures
