use Rattle.std.proofs.Common.{◌≡◌, ◌∙◌, length, ap, sym, refl, true, false}
use Rattle.csv.specs.Records.{fields_of}
use Rattle.desk_texts.specs.Pieces.{request_names}
use Rattle.desk_texts.specs.Records.{begins_with}
use Rattle.desk_texts.proofs.PieceLists.{next_begins, next_joins, none_next, one_piece_more}
use Rattle.desk_texts.proofs.pieces.read_pieces.Goals as goal
use Rattle.desk_texts.proofs.pieces.read_pieces.Goals.{then-begins_piece+in_ok-close_piece, else-begins_piece}

pub reading-preserved : goal.reading-preserved
reading-preserved c =
    let inv = c.reading.invariant in
    let row = fields_of c.read.new.into in
    let all_is = rw (c.in_ok-read.ensures.found c.if-branch.true) at inv.so_far in
    elim c.if-begins_piece.branch [
      | then-begins_piece+in_ok-close_piece w ↦
          let begins : begins_with request_names row ≡ true = sym c.begins_piece.ensures ∙ w.if-begins_piece.true in
          record {
            so_far = rw (w.cut-is, w.in_ok-close_piece.ensures, c.in_ok-push_read.ensures.ok, w.piece-is, w.new-piece-then-begins_piece.ensures) (next_begins c.reading.cut _ c.reading.piece c.read.new.self row inv.whole begins all_is);
            whole = rw (c.in_ok-push_read.ensures.ok, w.piece-is, w.new-piece-then-begins_piece.ensures) refl;
          }
      | else-begins_piece w ↦
          let joins : begins_with request_names row ≡ false = sym c.begins_piece.ensures ∙ w.if-begins_piece.false in
          record {
            so_far = rw (w.cut-is, c.in_ok-push_read.ensures.ok, w.piece-is) (next_joins c.reading.cut _ c.reading.piece c.read.new.self row all_is);
            whole = rw (c.in_ok-push_read.ensures.ok, w.piece-is) (one_piece_more c.reading.piece row inv.whole joins);
          }
    ]

pub returns-clause-pieces : goal.returns-clause-pieces
returns-clause-pieces c =
    let inv = c.reading.invariant in
    let none = c.in_ok-read.ensures.ended c.if-branch.false in
    rw c.in_ok-close_piece-2.ensures (none_next c.reading.cut _ c.reading.piece c.reading.reader inv.whole (ap length none.0) inv.so_far)
