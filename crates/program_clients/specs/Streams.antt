-- By what a connection is served, and where batches are taken.
use Rattle.std.specs.Prelude.{◌≡◌, Bool, false, true, Option, Some, Result, Ok, ⊤}
use Rattle.program_clients.specs.declared.fault.Fault.{Fault}
use Rattle.program_clients.specs.Clients.{MayCome}
use Rattle.program_clients.specs.declared.entrances.Opened.{Opened}
use Rattle.program_clients.specs.declared.entrances.Opened.TheVariants as opened
use Rattle.program_clients.specs.declared.clients.Protocol.{Protocol}
use Rattle.program_clients.specs.declared.clients.Protocol.TheVariants.{Batch, Exchange}
use Rattle.program_clients.specs.declared.timed.Stream.{Stream}
use Rattle.program_clients.specs.declared.timed.Stream.TheVariants.{Port, Socket}
use Rattle.program_clients.specs.declared.timed.Timed.{Timed}

-- an exchange at a port, and a batch at a socket of the file system
abbrev pub protocol_of : Stream → Protocol
protocol_of (Port stream) = Exchange
protocol_of (Socket stream) = Batch

-- what waiting for a client over a stream gives: its protocol, that of the stream, which may come.
-- Batches: whether these are taken
abbrev pub AcceptsStream : {C : Type 0} → Bool
    → Result (Option (Protocol × Timed C × Timed C)) Fault → Type 0
AcceptsStream batches (Ok (Some client)) =
    (client.0 ≡ protocol_of client.1.stream) × MayCome batches client.0
AcceptsStream batches _ = ⊤

-- what is listened at is a port and a socket
abbrev pub are_both : Opened → Bool
are_both (opened.Port port) = false
are_both (opened.Both doors) = true
