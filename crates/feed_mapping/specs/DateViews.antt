-- Dates without where they lie in memory.
use Rattle.std.specs.Prelude.{Result}
use Rattle.std.specs.Result.{result_map_both}
use Rattle.feed_mapping.specs.Notes.{Reason as ReasonKind, reason_view}
use Rattle.feed_mapping.specs.declared.dates.Days.{Days}
use Rattle.feed_mapping.specs.declared.notes.Reason.{Reason}

-- what was read of dates
abbrev pub days_read : Result Days Reason → Result Days ReasonKind
days_read r = result_map_both (λ d. d) reason_view r
