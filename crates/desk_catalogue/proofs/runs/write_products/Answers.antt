use Rattle.desk_catalogue.proofs.DoesLemmas.{changed_then}
use Rattle.desk_catalogue.proofs.runs.write_products.Goals as goal

pub returns : goal.returns
returns g c = changed_then c.in_ok-put_identifiers_of.ensures c.put_supplies_of.ensures
