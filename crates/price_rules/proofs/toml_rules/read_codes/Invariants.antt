use Rattle.std.proofs.Common.{◌≡◌, drop}
use Rattle.toml.specs.View.{items_view}
use Rattle.price_rules.specs.RulesFile.{codes_of}
use Rattle.price_rules.proofs.TomlTables.{codes_before}
use Rattle.price_rules.proofs.toml_rules.read_codes.Given as goal

abbrev pub invariant-loop-item : goal.invariant-loop-item
invariant-loop-item l =
    codes_of (items_view l.items) ≡ codes_before l.found (codes_of (items_view (drop l.item-index l.items)))
