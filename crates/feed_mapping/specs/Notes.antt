-- Notes on what of a message is left out, or read as another than it stands.
use Rattle.std.specs.Prelude.{ℕ, Bool, true, false, List, [], ◌∷◌, Option, if◌then◌else◌}
use Rattle.std.specs.List.{flat_map}
use Rattle.feed_mapping.specs.declared.notes.Foreign.{Foreign as ForeignWhy}
use Rattle.feed_mapping.specs.declared.notes.Note.{Note as Lent}
use Rattle.feed_mapping.specs.declared.notes.Reason.{Reason as LentReason}
use Rattle.feed_mapping.specs.declared.notes.ReasonKind.{ReasonKind}
use Rattle.feed_mapping.specs.declared.notes.Foreign.TheVariants as other
use Rattle.feed_mapping.specs.declared.notes.ReasonKind.TheVariants.{Foreign, Wrong}
use Rattle.feed_mapping.specs.declared.notes.Wrong.{Wrong as WrongWhy}

-- why something is left out, and the text that is the reason, where there is one
pub record Reason : Type 0 where
  pub kind : ReasonKind
  pub text : List ℕ

-- some reasons, each where it holds
abbrev pub Reasons : Type 0
Reasons = List (Option Reason)

-- that the desk has no field for something, with the text that the reason is about
abbrev pub foreign : ForeignWhy → List ℕ → Reason
foreign kind text = record { kind = Foreign kind; text = text }

-- that the desk would not take something, with the text that the reason is about
abbrev pub wrong : WrongWhy → List ℕ → Reason
wrong kind text = record { kind = Wrong kind; text = text }

-- whether the desk would not take it; else it is foreign: the desk has no field for it
abbrev pub is_wrong : ReasonKind → Bool
is_wrong (Foreign kind) = false
is_wrong (Wrong kind) = true

-- the reason is that a product is of other suppliers alone
abbrev pub is_of_others : ReasonKind → Bool
is_of_others (Foreign other.OfOthers) = true
is_of_others kind = false

-- ---- without where they lie in memory

-- a reason, as its kind and its text
abbrev pub reason_view : LentReason → Reason
reason_view r = record { kind = r.kind; text = r.text.now }

-- notes, as the reasons for which something is left out or is wrong: what is said beside that, and
-- of what a note speaks, no contract says
abbrev pub note_views : List Lent → List Reason
note_views notes = flat_map (λ n. if n.is_aside then [] else reason_view n.reason ∷ []) notes
