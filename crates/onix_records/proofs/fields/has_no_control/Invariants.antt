use Rattle.std.proofs.Common.{◌≡◌, take}
use Rattle.std.specs.List.{list_all}
use Rattle.onix_records.proofs.CleanFields.{is_plain}
use Rattle.onix_records.proofs.fields.has_no_control.Given as goal

abbrev pub invariant-loop-byte : goal.invariant-loop-byte
invariant-loop-byte l = l.is_plain ≡ list_all is_plain (take l.byte-index l.bytes)
