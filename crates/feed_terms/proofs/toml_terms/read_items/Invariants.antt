use Rattle.std.proofs.Common.{◌≡◌, ◌≤◌, [], length, drop}
use Rattle.toml.specs.View.{items_view}
use Rattle.feed_terms.specs.TermsFile.{terms_behind}
use Rattle.feed_terms.proofs.toml_terms.read_items.Given as goal

abbrev pub invariant-loop-item : goal.invariant-loop-item
invariant-loop-item l = record {
  few : length l.terms.items ≤ 1_000;
  rest : terms_behind [] (items_view l.items) ≡ terms_behind l.terms.items (items_view (drop l.item-index l.items));
}
