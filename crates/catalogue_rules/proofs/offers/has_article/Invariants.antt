use Rattle.std.proofs.Common.{◌≡◌, false, take}
use Rattle.std.specs.List.{list_any}
use Rattle.catalogue_rules.specs.Offers.{is_article}
use Rattle.catalogue_rules.proofs.offers.has_article.Given as goal

abbrev pub invariant-loop-id : goal.invariant-loop-id
invariant-loop-id l = list_any (is_article l.isbn) (take l.id-index l.entry.ids) ≡ false
