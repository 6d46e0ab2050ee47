use Rattle.std.proofs.Common.{subst, ◌∙◌}
use Rattle.desk_tables.specs.Rows.{DeskRows}
use Rattle.desk_catalogue.proofs.DoesLemmas.{called, did_then}
use Rattle.desk_catalogue.specs.ReadRecords.{AreReadOf}
use Rattle.desk_catalogue.proofs.CatalogueLemmas.{catalogue_read}
use Rattle.desk_catalogue.proofs.catalogues.read_catalogue.Goals as goal

pub returns : goal.returns
returns g c =
    let records = c.in_ok-records.records.items in
    record {
      catalogue = did_then (called c.in_ok-records.ensures) c.read_records.ensures
          (λ rows between after part one two. (
            two.0 ∙ one.1,
            λ whole held. catalogue_read c.args.series.now records rows whole one.0 held part (subst (λ (d : DeskRows). AreReadOf records d part) one.1 (subst (λ l. AreReadOf l between part) c.as_slice.ensures.value two.1)),
          ));
    }
