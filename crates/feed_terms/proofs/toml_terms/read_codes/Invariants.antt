use Rattle.std.proofs.Common.{◌≡◌, [], drop}
use Rattle.toml.specs.View.{items_view}
use Rattle.feed_terms.specs.TermsFile.{typed_behind}
use Rattle.feed_terms.proofs.toml_terms.read_codes.Given as goal

abbrev pub invariant-loop-item : goal.invariant-loop-item
invariant-loop-item l = typed_behind [] (items_view l.items) ≡ typed_behind l.found (items_view (drop l.item-index l.items))
