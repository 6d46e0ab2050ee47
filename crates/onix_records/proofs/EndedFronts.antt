-- A front is a message exactly where its last row is an EndMessage.
use Rattle.std.proofs.Common.{◌≡◌, ◌∙◌, ◌+◌, ℕ, List, Some, sym, ap, arith, length, map}
use Rattle.std.specs.Prelude.{◌↔◌}
use Rattle.std.proofs.lemmas.Option.{same_Some}
use Rattle.onix_records.specs.Grammar.{BeginsMessage, EndsMessage, IsMessage}
use Rattle.onix_records.specs.Message.{parts_of}
use Rattle.onix_records.specs.PartRows.{content_rows, rows_after}
use Rattle.onix_records.specs.Opening.{opening_of}
use Rattle.onix_records.specs.Row.{message_row, row_of}
use Rattle.onix_records.specs.declared.parts.Product.{Product}
use Rattle.onix_records.specs.declared.row.Row.{Row}
use Rattle.onix_records.specs.declared.row.Row.TheVariants as row
use Rattle.onix_records.proofs.Bare.{all-bare}
use Rattle.onix_records.proofs.Fronts.{Reads, cons-parts, is-message, same-map}
use Rattle.onix_records.proofs.RowParts.{rows-rebuilt}
use Rattle.onix_records.proofs.Orders.{last-push, last_of}

begun : (records : List (List (List ℕ))) (b : BeginsMessage records) → Reads b.opening b.rest b.rows
begun records b =
    let size : length records ≡ length b.rest + 1 = rw b.split (omega arith) in
    let within = b.within in
    record { within = omega (arith, size, within); reads = b.reads; order = b.order; counts = b.counts }

-- the parts that the rows of a front make are the contents, where the last row is an end
ended-message : (records : List (List (List ℕ))) (b : BeginsMessage records) → EndsMessage b.rows → (c : List Product) × IsMessage records b.opening.header c
ended-message records b (before, count, e) =
    let o = b.opening in
    let reads = begun records b in
    let last : last_of (message_row o) b.rows ≡ row.EndMessage count = ap (λ (t : List Row). last_of (message_row o) t) e ∙ last-push (message_row o) before (row.EndMessage count) in
    let r = rows-rebuilt o.header b.rows count (all-bare o b.rest b.rows reads.reads) reads.order last in
    ((parts_of b.rows).products, is-message records b.first b.rest o (parts_of b.rows).products count b.split b.header (rw (← r.0) reads) r.1)

-- the rows of a message are those of its contents, and the end
message-ended : (records : List (List (List ℕ))) (b : BeginsMessage records) (c : List Product) → IsMessage records b.opening.header c → EndsMessage b.rows
message-ended records b c m =
    let p = cons-parts _ _ _ _ (sym b.split ∙ m.split) in
    let same : record { form = m.form; header = b.opening.header } ≡ b.opening = same_Some _ _ (sym m.header ∙ ap opening_of (sym p.0) ∙ b.header) in
    let reads : map (row_of b.opening) b.rest ≡ map Some (rows_after c) = rw (p.1, ← same) m.reads in
    (content_rows c, 1 + length (content_rows c), same-map b.rows (rows_after c) (sym b.reads ∙ reads))

pub ended-fronts : (records : List (List (List ℕ))) (b : BeginsMessage records) → EndsMessage b.rows ↔ ((c : List Product) × IsMessage records b.opening.header c)
ended-fronts records b = (ended-message records b, λ m. message-ended records b m.0 m.1)
