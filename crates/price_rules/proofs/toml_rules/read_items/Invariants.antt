use Rattle.std.proofs.Common.{◌≡◌, ◌+◌, ◌≤◌, length, drop}
use Rattle.toml.specs.View.{items_view}
use Rattle.price_rules.specs.RulesFile.{rules_from}
use Rattle.price_rules.proofs.TomlTables.{rules_before}
use Rattle.price_rules.proofs.toml_rules.read_items.Given as goal

abbrev pub invariant-loop-item : goal.invariant-loop-item
invariant-loop-item l = record {
  number : l.number ≡ l.item-index + 1;
  few : l.item-index ≤ 1_000;
  count : length l.rules.items ≡ l.item-index;
  rest : rules_from 1 (items_view l.items) ≡ rules_before l.rules.items (rules_from l.number (items_view (drop l.item-index l.items)));
}
