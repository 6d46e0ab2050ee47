use Rattle.std.proofs.Common.{None, Some, sym, ap}
use Rattle.std.specs.Prelude.{option_map}
use Rattle.desk_catalogue.proofs.DoesLemmas.{did_as}
use Rattle.desk_rows.specs.declared.answers_at.Stored.{Stored}
use Rattle.desk_rows.proofs.ListedRows.{tells_text}
use Rattle.desk_rows.proofs.listing.text_in.Goals as goal

pub returns-in-Some : goal.returns-in-Some
returns-in-Some g c =
    did_as c.in_ok-stored.ensures
    (λ rows now one. tells_text c.args.series.now c.args.number rows now c.in_ok-stored.stored (Some c.in-Some.stored.text) one.0 (ap (option_map (λ (x : Stored). x.text)) (sym c.in-Some.is)) one.1.0)

pub returns-in-None : goal.returns-in-None
returns-in-None g c =
    did_as c.in_ok-stored.ensures
    (λ rows now one. tells_text c.args.series.now c.args.number rows now c.in_ok-stored.stored None one.0 (ap (option_map (λ (x : Stored). x.text)) (sym c.in-None.is)) one.1.0)
