-- How a conversion ends, by the state that it comes to.
use Rattle.std.specs.Prelude.{◌≡◌, ℕ, List, Option, Result, Ok, Err, IfErr, IfOk, fold}
use Rattle.feed_outline.specs.declared.message_reading.Fault.{Fault as Unread}
use Rattle.feed_conversion.specs.declared.refusal.Fault.{Fault}
use Rattle.feed_conversion.specs.declared.refusal.Fault.TheVariants as fault
use Rattle.feed_conversion.specs.declared.refusal.Refusal.{Refusal}
use Rattle.feed_conversion.specs.Conversion.{Options}
use Rattle.feed_conversion.specs.Outcomes.{ExplainsFault, Yields}
use Rattle.feed_conversion.specs.Packing.{Converted}
use Rattle.feed_conversion.specs.declared.tally.Counted.{Counted}
use Rattle.feed_conversion.specs.private.Stages.{Taken, taken}

-- how it ended at the end of the message, by what comes of it
abbrev pub Ends : {P : Type 0} → Result Counted Fault → P
    → Result (Taken P) Refusal → Type 0
Ends (Ok told) parts comes = comes ≡ Ok (taken parts told)
Ends (Err (fault.Refused refusal)) parts comes = comes ≡ Err refusal
Ends (Err fault.Memory) parts comes = Unit {0}
Ends (Err (fault.Unread unread told)) parts comes = ⊥

-- a fault of what was not read, unless memory ran out
abbrev pub IsUnread : Result Counted Fault → Unread → Type 0
IsUnread (Err (fault.Unread unread told)) was = unread ≡ was
IsUnread (Err fault.Memory) was = Unit {0}
IsUnread other was = ⊥

-- what the contract of a conversion says
abbrev pub Comes : {P : Type 0} → (P → List ℕ → P) → Option (List ℕ) → Options → Taken P
    → Result Counted Fault → P → Type 0
Comes k bytes o before ended parts =
    IfOk ended (λ told. (made : Converted) × Yields bytes o (Ok made) × (told ≡ made.counted)
    × (parts ≡ fold k before.parts made.parts))
    × IfErr ended (λ e. ExplainsFault bytes o e)
