use Rattle.std.proofs.Common.{rules, ◌≡◌, ◌<◌, [], ◌∷◌, ◌++◌, Some, option_map, length, get_or, sym, ap, ◌∙◌}
use Rattle.desk_tables.specs.ArticleAnswers.{price_part, read_shown}
use Rattle.desk_tables.proofs.ReadLoops.{read_more}
use Rattle.desk_tables.proofs.article_offers.prices_in.Goals as goal

pub loop-row-preserved : goal.loop-row-preserved
loop-row-preserved c up =
    let within : c.loop-row.row-index < length c.args.rows.now.items = search rules in
    let is : c.row-item.result ≡ get_or c.args.rows.now.items c.loop-row.row-index c.row-item.result = search rules in
    let pushed : c.push.new.self ≡ c.loop-row.prices ++ c.into_price.result ∷ [] = search rules in
    let reads = ap (option_map price_part) (c.in_ok-one.ensures up) ∙ ap (λ p. Some p) (sym c.into_price.ensures) in
    read_more (read_shown c.args.minimums.now) c.args.rows.now.items c.loop-row.row-index c.loop-row.prices c.push.new.self c.row-item.result c.into_price.result within is (c.loop-row.invariant up) reads pushed
