use Rattle.std.proofs.Common.{◌≡◌, ◌++◌}
use Rattle.std.specs.List.{flat_map}
use Rattle.catalogue_rules.specs.Records.{by_bytes}
use Rattle.desk_texts.specs.CatalogueText.{catalogue_records, entry_records}
use Rattle.desk_texts.proofs.catalogue_text.push_catalogue.Given as goal

abbrev pub invariant-loop-reference : goal.invariant-loop-reference
invariant-loop-reference l = l.records ++ flat_map entry_records (by_bytes l.reference-iterator) ≡ l.fn.records ++ catalogue_records l.series l.catalogue
