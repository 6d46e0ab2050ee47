-- How one FILE ends.
use Rattle.std.specs.Prelude.{◌≡◌, ◌≤◌, ◌⊎◌, ℕ, ◌++◌, Bool, true, false, List, [], Option}
use Rattle.std.specs.Prelude.{Some, None, ⊤, length}
use Rattle.std.specs.Prelude.{Ok}
use Rattle.std.specs.List.{concat}
use Rattle.feed_xml.specs.declared.fault.Fault.TheVariants as document
use Rattle.csv_records.specs.RecordTexts.{limit}
use Rattle.program_files.specs.Holdings.{Holdings}
use Rattle.program_files.specs.Names.{is_packed}
use Rattle.feed_outline.specs.declared.message_reading.Fault.TheVariants as unread
use Rattle.feed_conversion.specs.Conversion.{Options}
use Rattle.feed_conversion.specs.Outcomes.{ExplainsFault, Yields}
use Rattle.feed_conversion.specs.Packing.{Converted}
use Rattle.feed_conversion.specs.Tallies.{is_flawed}
use Rattle.feed_conversion.specs.declared.tally.Counted.{Counted}
use Rattle.feed_conversion.specs.declared.refusal.Fault.{Fault}
use Rattle.feed_conversion.specs.declared.refusal.Fault.TheVariants as fault
use Rattle.feed_files.specs.declared.ended.Ended.{Ended}
use Rattle.feed_files.specs.declared.ended.Ended.TheVariants as ended

-- the status of a FILE that ended so
abbrev pub status_of : Ended → ℕ
status_of ended.Done = 0
status_of ended.LeftOut = 1
status_of ended.Refused = 1
status_of ended.Packed = 1
status_of ended.Fault = 3

-- a FILE that ended so was converted
abbrev pub is_converted : Ended → Bool
is_converted ended.Done = true
is_converted ended.LeftOut = true
is_converted other = false

-- one that was converted, of whose products this is told, ended so
abbrev pub IsOfCounted : Counted → Ended → Type 0
IsOfCounted told ended.Done = is_flawed told ≡ false
IsOfCounted told ended.LeftOut = is_flawed told ≡ true
IsOfCounted told other = ⊥

-- the fault is of what the bytes say: no read failed, memory did not run out, and nothing but the
-- bytes was refused
abbrev pub IsRefusal : Fault → Type 0
IsRefusal (fault.Unread (unread.Document document.Read) told) = ⊥
IsRefusal (fault.Unread (unread.Document document.Memory) told) = ⊥
IsRefusal (fault.Unread (unread.Document document.Refused) told) = ⊥
IsRefusal fault.Memory = ⊥
IsRefusal other = ⊤

-- a FILE that was not converted ended so
abbrev pub IsUnconverted : Fault → Ended → Type 0
IsUnconverted f e = (e ≡ ended.Fault) ⊎ ((e ≡ ended.Refused) × IsRefusal f)

-- a packed FILE ended so: it was not read, and a fault is one of telling that
abbrev pub StaysPacked : Ended → Type 0
StaysPacked e = (e ≡ ended.Packed) ⊎ (e ≡ ended.Fault)

-- how a run is asked to convert
pub record Asking : Type 0 where
  pub options : Options
  pub folder : Option (List ℕ)

abbrev pub asking : Options → Option (List ℕ) → Asking
asking options folder = record { options = options; folder = folder }

-- what became of a FILE: how it ended, what was written of it to standard output, and what names
-- held before and after
pub record FileEnd : Type 0 where
  pub ended : Ended
  pub output : List ℕ
  pub before : Holdings
  pub after : Holdings

abbrev pub file_end : Ended → List ℕ → Holdings → Holdings → FileEnd
file_end ended output before after = record {
  ended = ended;
  output = output;
  before = before;
  after = after;
}

-- nothing was written of it, and no name holds anything else
abbrev pub LeavesNothing : FileEnd → Type 0
LeavesNothing e = (e.output ≡ []) × (e.after ≡ e.before)

-- the texts of parts are told: they are no longer than the largest message, which is in memory
abbrev pub AreTold : List (List ℕ) → Type 0
AreTold parts = length (concat parts) ≤ limit

-- The parts of a FILE were written: into a folder, of whose files nothing is told, or to standard
-- output, one after the other.
abbrev pub WritesTo : Option (List ℕ) → List (List ℕ) → FileEnd → Type 0
WritesTo (Some folder) parts e = e.output ≡ []
WritesTo None parts e = (e.after ≡ e.before) × (AreTold parts → e.output ≡ concat parts)

-- a first part of them was
abbrev pub MayWriteTo : Option (List ℕ) → List (List ℕ) → FileEnd → Type 0
MayWriteTo (Some folder) parts e = e.output ≡ []
MayWriteTo None parts e =
    (e.after ≡ e.before) × (AreTold parts → (rest : List ℕ) × (e.output ++ rest ≡ concat parts))

-- how a FILE of this name and of these bytes, where they are told, ends so
abbrev pub FileEndsAs : Ended → Asking → List ℕ → Option (List ℕ) → FileEnd → Type 0
FileEndsAs ended.Refused a name bytes e =
    LeavesNothing e × ((f : Fault) × IsRefusal f × ExplainsFault bytes a.options f)
FileEndsAs ended.Packed a name bytes e = LeavesNothing e × (is_packed name ≡ true)
FileEndsAs ended.Fault a name bytes e =
    LeavesNothing e
    ⊎ ((made : Converted) × Yields bytes a.options (Ok made)
    × MayWriteTo a.folder made.parts e)
FileEndsAs converted a name bytes e =
    (made : Converted) × Yields bytes a.options (Ok made) × IsOfCounted made.counted converted
    × WritesTo a.folder made.parts e

-- How a FILE of this name and of these bytes, where they are told, ends: its messages are written,
-- where it was converted, with or without wrong products; nothing is, where it was refused for what
-- its bytes say, or since it is packed by its name; after a fault at most a part of them is.
abbrev pub IsEnd : Asking → List ℕ → Option (List ℕ) → FileEnd → Type 0
IsEnd a name bytes e = FileEndsAs e.ended a name bytes e
