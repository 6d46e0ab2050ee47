-- Clients that come one after the other.
use Rattle.std.specs.Prelude.{◌≡◌, Bool, true, Option, Some, Result, Ok, ⊤}
use Rattle.program_clients.specs.declared.fault.Fault.{Fault}
use Rattle.program_clients.specs.declared.clients.Protocol.{Protocol}
use Rattle.program_clients.specs.declared.clients.Protocol.TheVariants as protocol

-- a client may come by that protocol. Batches: whether these are taken
abbrev pub MayCome : Bool → Protocol → Type 0
MayCome batches protocol.Exchange = ⊤
MayCome batches protocol.Batch = batches ≡ true

-- what waiting for a client gives: its protocol, which may come, and the two ways of its
-- connection; or that it was gone
abbrev pub Accepts : {R W : Type 0} → Bool → Result (Option (Protocol × R × W)) Fault → Type 0
Accepts batches (Ok (Some client)) = MayCome batches client.0
Accepts batches _ = ⊤
