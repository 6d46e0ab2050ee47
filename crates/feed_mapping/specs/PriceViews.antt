-- What is read of a Price, without where it lies in memory.
use Rattle.std.specs.Prelude.{ℕ, List, Option, option_map}
use Rattle.std.specs.Borrow.{Bor}
use Rattle.feed_mapping.specs.Notes.{Reason, reason_view}
use Rattle.feed_mapping.specs.declared.notes.Reason.{Reason as Lent}

-- a text, where there is one
abbrev pub text_view : Option (Bor (List ℕ)) → Option (List ℕ)
text_view text = option_map (λ t. t.now) text

-- a reason, where there is one
abbrev pub reason_read : Option Lent → Option Reason
reason_read reason = option_map reason_view reason
