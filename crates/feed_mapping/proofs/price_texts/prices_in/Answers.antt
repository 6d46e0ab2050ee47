use Rattle.std.proofs.Common.{◌≡◌, ◌++◌, ◌∷◌, ◌∙◌, [], List, append_assoc, ap, map, sym}
use Rattle.std.proofs.lemmas.List.{map-append}
use Rattle.feed_mapping.specs.Elements.{Composite}
use Rattle.feed_mapping.specs.PriceTexts.{PriceTexts, price_view, prices_in, texts_of}
use Rattle.feed_mapping.proofs.price_texts.prices_in.Goals as goal

pub loop-price-preserved : goal.loop-price-preserved
loop-price-preserved c =
    let before = map price_view c.loop-price.prices.items in
    let said = c.texts_of.ensures ∙ ap (λ (x : Composite). texts_of x.below) c.price.view_is in
    ap (λ (ps : List PriceTexts). ps ++ prices_in c.in-Some.behind)
    (ap (map price_view) c.in_ok-push.ensures.items ∙ map-append price_view c.loop-price.prices.items (c.texts_of.result ∷ [])
    ∙ ap (λ (p : PriceTexts). before ++ p ∷ []) said)
    ∙ append_assoc before (texts_of c.in-Some.price.below ∷ []) (prices_in c.in-Some.behind)
    ∙ ap (λ (cs : List Composite). before ++ map (λ x. texts_of x.below) cs) c.in-Some.ensures ∙ c.loop-price.invariant
