use Rattle.std.proofs.Common.{◌≡◌, ◌∷◌, ◌||◌, [], length}
use Rattle.csv_records.specs.RecordTexts.{records_of}
use Rattle.std.specs.List.{list_any}
use Rattle.desk_texts.specs.Records.{begins_with}
use Rattle.program_commands.specs.Sending.{unanswered}
use Rattle.program_commands.proofs.sending.look_over.Given as goal

-- the records that are left come to what all come to
abbrev pub invariant-reading : goal.invariant-reading
invariant-reading l = record {
  counted : unanswered l.missing l.reader ≡ unanswered l.asked (records_of l.text);
  refused_is : (l.refused || list_any (begins_with ("refused" ∷ [])) l.reader) ≡ list_any (begins_with ("refused" ∷ [])) (records_of l.text);
}

abbrev pub decreases-reading : goal.decreases-reading
decreases-reading l = length l.reader
