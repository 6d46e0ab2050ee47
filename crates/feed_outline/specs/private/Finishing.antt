-- What comes of a message at its end.
use Rattle.std.specs.Prelude.{Bool, [], Option, Some, None, Result, Ok, Err}
use Rattle.std.specs.Prelude.{if◌then◌else◌}
use Rattle.feed_outline.specs.declared.dialect.Wrong.{Wrong}
use Rattle.feed_outline.specs.declared.dialect.Wrong.TheVariants.{Root}
use Rattle.feed_outline.specs.declared.message_reading.Fault.{Fault}
use Rattle.feed_outline.specs.declared.message_reading.Fault.TheVariants.{Message, Reference, TooLarge}
use Rattle.feed_outline.specs.declared.message_reading.Stopped.{Stopped}
use Rattle.feed_outline.specs.Dialect.{Dialect}
use Rattle.feed_outline.specs.private.Feed.{Feed, fits}

-- no message was read, for this reason
abbrev pub stopped : {T : Type 0} → Fault → Feed T → Stopped T
stopped fault f = record { fault = fault; taker = f.taker; told = tt }

abbrev pub finished_with : {T : Type 0}
    → Option (Result Dialect Wrong) → Bool → Bool → Feed T → Result T (Stopped T)
finished_with None known small f = Err (stopped (Message (Root [])) f)
finished_with (Some (Err wrong)) known small f = Err (stopped (Message wrong) f)
finished_with (Some (Ok d)) known small f =
    if known
    then (if small then Ok f.taker else Err (stopped TooLarge f))
    else Err (stopped Reference f)

-- what comes of a message at its end
abbrev pub finished : {T : Type 0} → Feed T → Result T (Stopped T)
finished f = finished_with f.root f.known (fits f.child) f
