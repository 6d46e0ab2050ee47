-- Why the records of a delivery are no message, as its answer computes it.
use Rattle.std.specs.Prelude.{◌≡◌, ℕ, List, None, ⊤}
use Rattle.onix_records.specs.Message.{bad_row, message_of}
use Rattle.onix_message.specs.declared.message.MessageFault.{MessageFault}
use Rattle.onix_message.specs.declared.message.MessageFault.TheVariants as fault

-- the records are no message as it is computed, and this is their bad row; or memory ran out
abbrev pub IsComputedFault : List (List (List ℕ)) → MessageFault → Type 0
IsComputedFault records (fault.Malformed row) =
    (message_of records ≡ None) × (row ≡ bad_row records)
IsComputedFault records fault.Memory = ⊤
