-- Where records are no message, none is computed.
use Rattle.std.proofs.Common.{◌≡◌, ℕ, List, Option, Some, None, refl}
use Rattle.onix_records.specs.Grammar.{IsMessage}
use Rattle.onix_records.specs.Message.{message_of}
use Rattle.onix_records.specs.declared.parts.Header.{Header}
use Rattle.onix_records.specs.declared.parts.Product.{Product}
use Rattle.onix_records.proofs.RowParts.{message-meant}

none-computed : (m : Option (Header × List Product)) → ((h : Header) (c : List Product) → m ≡ Some (h, c) → ⊥) → m ≡ None
none-computed None never = refl
none-computed (Some (h, c)) never = absurd (never h c refl)

pub computed-none : (records : List (List (List ℕ))) → ((h : Header) (c : List Product) → IsMessage records h c → ⊥) → message_of records ≡ None
computed-none records never = none-computed (message_of records) (λ h c e. never h c (message-meant records h c e))
