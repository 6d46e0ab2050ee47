use Rattle.std.proofs.Common.{◌∙◌}
use Rattle.desk_catalogue.proofs.records.put_identified.Goals as goal

pub returns : goal.returns
returns g c = rw (c.from_ref.ensures.value, c.as_slice.ensures.value ∙ c.in_ok-articles.ensures) at c.put_records_and_articles.ensures
