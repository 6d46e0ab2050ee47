-- How a message of packed products ends, step by step.
use Rattle.std.proofs.Common.{ℕ, ◌+◌, ◌++◌, List, Option}
use Rattle.std.specs.Option.{option_map_or}
use Rattle.std.specs.Prelude.{Result, Ok, Err}
use Rattle.std.specs.Prelude.{⊤}
use Rattle.feed_mapping.specs.Records.{Records}
use Rattle.feed_conversion.specs.Packing.{Converted, Settings, Packing, all_parts}
use Rattle.feed_conversion.specs.Tallies.{counted}
use Rattle.feed_conversion.specs.declared.tally.Counted.{Counted}
use Rattle.feed_conversion.specs.declared.refusal.Refusal.{Refusal}
use Rattle.feed_conversion.specs.declared.refusal.Refusal.TheVariants as why

abbrev pub converted : List (List ℕ) → Counted → Converted
converted parts told = record { parts = parts; counted = told }

-- a product in the part that was begun
abbrev pub joined : Packing → Records → Packing
joined w records = record w { begun = w.begun ++ records }

-- a message that needs more parts than there are is refused
abbrev pub ended_at : Settings → Packing → Option ⊤ → Result Converted Refusal
ended_at t w beyond = option_map_or (λ place. Err (why.Parts (w.full + 1) place)) beyond (Ok (converted (all_parts t w) (counted w.tally)))

-- and before it one of which too many products are wrong
abbrev pub ended_by : Settings → Packing → Option Refusal → Result Converted Refusal
ended_by t w refused = option_map_or Err refused (ended_at t w w.beyond)
