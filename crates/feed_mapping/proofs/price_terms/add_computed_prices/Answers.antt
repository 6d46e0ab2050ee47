use Rattle.std.proofs.Common.{◌≡◌, ◌++◌, ◌∙◌, List, ap, map, subst, sym}
use Rattle.std.specs.Option.{option_copied}
use Rattle.std.proofs.lemmas.Result.{on_ok_weaker}
use Rattle.feed_terms.specs.WithTerms.{HavePrices, with_terms}
use Rattle.feed_terms.specs.declared.price.GivenPrice.{GivenPrice}
use Rattle.feed_terms.specs.declared.price.Kind.{Kind}
use Rattle.feed_mapping.specs.PriceTexts.{price_view}
use Rattle.feed_mapping.specs.Prices.{context_view}
use Rattle.feed_mapping.specs.PriceTerms.{records_with}
use Rattle.feed_mapping.specs.Records.{Records}
use Rattle.feed_mapping.proofs.SeenPrices.{have-prices, records-are}
use Rattle.feed_mapping.proofs.price_terms.add_computed_prices.Goals as goal

pub add_with_terms-requires : goal.add_with_terms-requires
add_with_terms-requires c =
    subst (λ (g : List GivenPrice). HavePrices c.in_ok-written.written.records g) (sym c.as_slice-2.ensures.value)
    (have-prices (context_view c.args.context.now) (map price_view c.args.prices.now) c.in_ok-written.written.records c.in_ok-written.written.given.items c.in_ok-written.written.closed.items
    c.in_ok-written.ensures.written)

records-of : (c : goal.After-drop-written-7)
    → c.add_with_terms.new.output ≡ c.args.records.now ++ records_with c.args.terms.now (option_copied c.args.supplier) (context_view c.args.context.now) (map price_view c.args.prices.now)
records-of c =
    let terms = c.args.terms.now in
    let supplier = option_copied c.args.supplier in
    let records = c.in_ok-written.written.records in
    c.in_ok-remarks.ensures
    ∙ ap (λ (k : List Kind). c.args.records.now ++ with_terms terms supplier k c.as_slice-2.result.now records) c.as_slice.ensures.value
    ∙ ap (λ (g : List GivenPrice). c.args.records.now ++ with_terms terms supplier c.in_ok-written.written.closed.items g records) c.as_slice-2.ensures.value
    ∙ ap (λ (k : Records). c.args.records.now ++ k)
    (records-are terms supplier (context_view c.args.context.now) (map price_view c.args.prices.now) records c.in_ok-written.written.given.items c.in_ok-written.written.closed.items
    c.in_ok-written.ensures.written)

pub returns-clause-records : goal.returns-clause-records
returns-clause-records c = on_ok_weaker c.push_all_remarks.result (λ told. records-of c) c.push_all_remarks.ensures
