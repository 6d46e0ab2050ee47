-- Why a message was not read.
use Rattle.std.specs.Prelude.{ℕ, List, ⊤}
use Rattle.onix_records.specs.Grammar.{IsBadRow, IsMessage}
use Rattle.onix_records.specs.declared.parts.Header.{Header}
use Rattle.onix_records.specs.declared.parts.Product.{Product}
use Rattle.onix_message.specs.declared.message.MessageFault.{MessageFault}
use Rattle.onix_message.specs.declared.message.MessageFault.TheVariants as fault

-- the records are no message, and this is the row at which they stop being one; or memory ran out
abbrev pub Explains : List (List (List ℕ)) → MessageFault → Type 0
Explains records (fault.Malformed row) =
    ((h : Header) (c : List Product) → IsMessage records h c → ⊥) × IsBadRow records row
Explains records fault.Memory = ⊤
