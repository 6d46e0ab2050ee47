use Rattle.std.proofs.Common.{◌≡◌, ◌++◌, length, map}
use Rattle.std.specs.Vec.Iter.{into_iter_items, into_iter_len}
use Rattle.desk_texts.specs.Pieces.{pieces}
use Rattle.desk_texts.specs.RequestRows.{request_of}
use Rattle.desk_texts.proofs.request_rows.read_requests.Given as goal

abbrev pub invariant-loop-piece : goal.invariant-loop-piece
invariant-loop-piece g l = record {
  so_far : l.requests ++ map request_of (into_iter_items l.piece-iterator) ≡ map request_of (pieces l.fn.reader);
  counted : into_iter_len l.piece-iterator ≡ length (into_iter_items l.piece-iterator);
}
