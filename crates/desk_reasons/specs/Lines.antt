-- What the lines on malformed requests count, and the text of one.
use Rattle.std.specs.Prelude.{ℕ, ◌+◌, ◌-◌, ◌^◌, ◌++◌, ◌∷◌, [], List, Option, Some, None}
use Rattle.std.specs.Prelude.{chars, codes, min}
use Rattle.desk_reasons.specs.declared.explaining.Room.{Room}
use Rattle.series_rules.specs.declared.answers.Answer.{Answer}
use Rattle.series_rules.specs.declared.answers.Answer.TheVariants as answer
use Rattle.series_rules.specs.declared.answers.DeliveryAnswer.TheVariants as delivery
use Rattle.watched_output.specs.Shown.{shown}

-- the room once one more request was malformed
abbrev pub counted : Room → Room
counted room = record room { malformed = min (room.malformed + 1) (2 ^ 64 - 1) }

-- the room behind a request that is malformed at a row, or not
abbrev pub room_after : Room → Option ℕ → Room
room_after room None = room
room_after room (Some row) = counted room

-- the row at which a request or a message is malformed, where that is its answer
abbrev pub row_of : Answer → Option ℕ
row_of (answer.Malformed row) = Some row
row_of (answer.Delivery (delivery.Malformed row)) = Some row
row_of _ = None

-- the name of the file, where there is one
abbrev pub named : List ℕ → List ℕ
named [] = []
named (c ∷ name) = shown 100 (chars (c ∷ name)) ++ codes ": "

-- the line on what stands at a place of a file
abbrev pub line_text : List ℕ → List ℕ → List ℕ → List ℕ
line_text name place cause =
    codes "onixdesk: " ++ named name ++ place ++ codes ":" ++ cause ++ codes "\n"
