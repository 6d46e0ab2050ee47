use Rattle.std.proofs.Common.{◌≡◌, ◌++◌, drop}
use Rattle.feed_mapping.specs.PriceTerms.{area_text}
use Rattle.feed_mapping.proofs.price_terms.area_text.Given as goal

abbrev pub invariant-loop-place : goal.invariant-loop-place
invariant-loop-place l = l.text ++ area_text (drop l.place l.fields) ≡ area_text l.fields
