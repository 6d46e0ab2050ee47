use Rattle.std.proofs.Common.{◌≡◌, [], drop}
use Rattle.toml.specs.View.{items_view}
use Rattle.feed_terms.specs.TermsFile.{types_behind}
use Rattle.feed_terms.proofs.toml_terms.read_types.Given as goal

abbrev pub invariant-loop-item : goal.invariant-loop-item
invariant-loop-item l = types_behind [] (items_view l.items) ≡ types_behind l.found (items_view (drop l.item-index l.items))
