use Rattle.std.proofs.Common.{◌≡◌, ◌++◌, length, true}
use Rattle.desk_texts.specs.Pieces.{pieces}
use Rattle.desk_texts.proofs.PieceLists.{is_one_piece}
use Rattle.desk_texts.proofs.pieces.read_pieces.Given as goal

-- what the reader has left comes behind the piece that is not done
abbrev pub invariant-reading : goal.invariant-reading
invariant-reading l = record {
  so_far : l.cut ++ pieces (l.piece ++ l.reader) ≡ pieces l.fn.reader;
  whole : is_one_piece l.piece ≡ true;
}

abbrev pub decreases-reading : goal.decreases-reading
decreases-reading l = length l.reader
