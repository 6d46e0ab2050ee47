use Rattle.std.proofs.Common.{◌∷◌, ◌++◌, ◌∙◌, [], ap}
use Rattle.desk_texts.specs.PriceText.{span_fields}
use Rattle.desk_texts.proofs.RecordLists.{mapped-more}
use Rattle.desk_texts.proofs.price_text.push_spans.Goals as goal

pub loop-span-preserved : goal.loop-span-preserved
loop-span-preserved c =
    mapped-more span_fields c.args.records.now c.loop-span.records c.push.new.self c.args.spans.now c.loop-span.span-index c.span-item.result c.loop-span-test.true c.span-item.is c.loop-span.invariant
    (c.in_ok-push.ensures.ok ∙ ap (λ t. c.loop-span.records ++ t ∷ []) (c.as_record.ensures ∙ c.in_ok-fill_span.ensures))
