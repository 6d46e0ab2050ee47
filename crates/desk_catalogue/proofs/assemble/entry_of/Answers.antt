use Rattle.std.proofs.Common.{◌∙◌, [], ap, arith, map}
use Rattle.std.specs.List.{zip}
use Rattle.onix_records.specs.DetailCount.{detail_count}
use Rattle.desk_catalogue.specs.Assembly.{grouped, identifier_of}
use Rattle.desk_catalogue.specs.EntryRows.{offer_rows_of}
use Rattle.desk_catalogue.proofs.Assembled.{count-grouped, grouped-back, ids-back}
use Rattle.desk_catalogue.proofs.assemble.entry_of.Goals as goal

pub returns-clause-entry : goal.returns-clause-entry
returns-clause-entry c = λ series reference e storable articles offers prices.
    let ids = c.in-Ok.ensures ∙ ap (map identifier_of) articles ∙ ids-back series reference e.ids in
    let supplies =
    c.in_ok-supplies.ensures
    ∙ ap (λ l. grouped 0 [] (zip l c.args.prices.now)) offers
    ∙ ap (λ l. grouped 0 [] (zip (offer_rows_of series reference e.supplies) l)) prices
    ∙ grouped-back series reference e.supplies storable.1 in
    λ i. record { ids = ids i; supplies = supplies i }

pub returns-clause-few : goal.returns-clause-few
returns-clause-few c =
    let count = count-grouped 0 [] c.args.offers.now c.args.prices.now in
    let same = ap detail_count c.in_ok-supplies.ensures in
    let few = c.if-offers-gt-MOST_RECORDS.false in
    omega (arith, count, same, few)
