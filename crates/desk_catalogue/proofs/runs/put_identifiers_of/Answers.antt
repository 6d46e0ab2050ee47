use Rattle.std.proofs.Common.{◌∙◌}
use Rattle.desk_catalogue.proofs.runs.put_identifiers_of.Goals as goal

pub returns : goal.returns
returns g c = rw (c.as_slice.ensures.value ∙ c.in_ok-records.ensures, c.as_slice-2.ensures.value ∙ c.in_ok-articles.ensures) at c.put_records_and_articles.ensures
