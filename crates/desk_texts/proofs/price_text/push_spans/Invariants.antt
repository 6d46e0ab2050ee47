use Rattle.std.proofs.Common.{◌≡◌, ◌++◌, map, take}
use Rattle.desk_texts.specs.PriceText.{span_fields}
use Rattle.desk_texts.proofs.price_text.push_spans.Given as goal

abbrev pub invariant-loop-span : goal.invariant-loop-span
invariant-loop-span l = l.records ≡ l.fn.records ++ map span_fields (take l.span-index l.spans)
