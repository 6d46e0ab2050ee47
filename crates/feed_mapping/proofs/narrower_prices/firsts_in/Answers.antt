use Rattle.std.proofs.Common.{◌≡◌, ◌∙◌, ◌≤◌, ◌-◌, ◌∷◌, List, [], ap, arith, length, map}
use Rattle.std.proofs.Math.ListN.{get_or, drop, take}
use Rattle.std.proofs.Math.Seq.{take-length}
use Rattle.std.specs.Prelude.{fold}
use Rattle.feed_mapping.specs.PriceTexts.{PriceTexts, price_view}
use Rattle.feed_mapping.specs.Prices.{PriceContext, context_view, with_first}
use Rattle.feed_mapping.specs.declared.narrower.First.{First}
use Rattle.feed_mapping.specs.declared.price_texts.PriceTexts.{PriceTexts as Lent}
use Rattle.feed_mapping.proofs.narrower_prices.firsts_in.Goals as goal

-- the first of some Prices is passed
passed : (context : PriceContext) (rest : List Lent) (price : Lent) (old new all : List First) → 1 ≤ length rest → price ≡ get_or rest 0 price → new ≡ with_first context (price_view price) old
    → fold (λ (firsts : List First) (p : PriceTexts). with_first context p firsts) old (map price_view rest) ≡ all
    → fold (λ (firsts : List First) (p : PriceTexts). with_first context p firsts) new (map price_view (take (length rest - 1) (drop 1 rest))) ≡ all
passed context [] price old new all least is pushed before = let none : 1 ≤ 0 = least in absurd (omega (arith, none))
passed context (x ∷ rest) price old new all least is pushed before =
    let next = λ (firsts : List First) (p : PriceTexts). with_first context p firsts in
    let less : length (x ∷ rest) - 1 ≡ length rest = omega arith in
    ap (λ n. fold next new (map price_view (take n rest))) less
    ∙ ap (λ (ps : List Lent). fold next new (map price_view ps)) (take-length rest)
    ∙ ap (λ (fs : List First). fold next fs (map price_view rest)) (pushed ∙ ap (λ (p : Lent). with_first context (price_view p) old) is)
    ∙ before

pub loop-rest-preserved : goal.loop-rest-preserved
loop-rest-preserved c =
    passed (context_view c.args.context.now) c.loop-rest.rest.now c.price-item.result c.loop-rest.firsts c.push_first.new.firsts _ c.in-len1-up.len_at_least c.price-item.is c.in_ok-push_first.ensures c.loop-rest.invariant
