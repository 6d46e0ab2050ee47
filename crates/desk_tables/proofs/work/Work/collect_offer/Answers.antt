use Rattle.std.proofs.Common.{◌≡◌, List, rules}
use Rattle.sqlite.specs.Held.{state}
use Rattle.onix_records.specs.declared.faults.StoreFault.TheVariants.{Memory}
use Rattle.onix_records.specs.declared.parts.Price.{Price}
use Rattle.desk_tables.specs.ArticleAnswers.{offer_with, ArePricesFor}
use Rattle.desk_tables.specs.Rows.{DeskRows}
use Rattle.desk_tables.proofs.RecordCalls.{reads_as, reads_stopped}
use Rattle.desk_tables.proofs.work.Work.collect_offer.Goals as goal

pub returns-then-is_err : goal.returns-then-is_err
returns-then-is_err g c =
    record {
      same_reference = search rules;
      untouched = search rules;
      works =
          let old = state g.S.Store c.args.self.now.tables.now.connection in
          let new = state g.S.Store c.offer_prices.new.self.tables.now.connection in
          reads_stopped (λ (rows : DeskRows) (prices : List Price). ArePricesFor c.args.offer rows prices) _ old new c.args.self.now.spent c.offer_prices.new.self.spent c.in_ok-prices.prices Memory c.in_ok-prices.ensures.works;
    }

pub returns : goal.returns
returns g c =
    record {
      same_reference = search rules;
      untouched = search rules;
      works =
          let old = state g.S.Store c.args.self.now.tables.now.connection in
          let new = state g.S.Store c.offer_prices.new.self.tables.now.connection in
          let collected = g.C.OfferCollector.collected in
          let pushed : c.collect.new.self ≡ collected c.args.collector.now (offer_with c.args.offer c.in_ok-prices.prices) = search rules in
          reads_as (λ (rows : DeskRows) (prices : List Price). ArePricesFor c.args.offer rows prices) (λ (rows : DeskRows) (_ : Unit {0}). (prices : List Price) × ArePricesFor c.args.offer rows prices × (c.collect.new.self ≡ collected c.args.collector.now (offer_with c.args.offer prices)))
          old new c.args.self.now.spent c.offer_prices.new.self.spent c.in_ok-prices.prices tt c.in_ok-prices.ensures.works (λ rows h one. (c.in_ok-prices.prices, one, pushed));
    }
