use Rattle.std.proofs.Common.{◌≡◌, ◌++◌, map}
use Rattle.serde_json.specs.View.{view}
use Rattle.catalogue_rules.specs.Records.{by_bytes, records_of}
use Rattle.desk_http.specs.CatalogueJson.{entry}
use Rattle.desk_http.proofs.catalogue_json.entry_list.Given as goal

abbrev pub invariant-loop-reference : goal.invariant-loop-reference
invariant-loop-reference l = map view l.list.items ++ map entry (by_bytes l.reference-iterator) ≡ map entry (records_of l.catalogue)
