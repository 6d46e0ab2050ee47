use Rattle.std.proofs.Common.{rules, ◌≡◌, ◌<◌, [], ◌∷◌, ◌++◌, length, get_or}
use Rattle.desk_tables.specs.RecordAnswers.{read_priced}
use Rattle.desk_tables.proofs.ReadLoops.{read_more}
use Rattle.desk_tables.proofs.prices.all_prices.Goals as goal

pub loop-row-preserved : goal.loop-row-preserved
loop-row-preserved c up =
    let within : c.loop-row.row-index < length c.args.rows.now.items = search rules in
    let is : c.row-item.result ≡ get_or c.args.rows.now.items c.loop-row.row-index c.row-item.result = search rules in
    let pushed : c.push.new.self.items ≡ c.loop-row.prices.items ++ c.in_ok-one.one ∷ [] = search rules in
    read_more (read_priced c.args.minimums.now) c.args.rows.now.items c.loop-row.row-index c.loop-row.prices.items c.push.new.self.items c.row-item.result c.in_ok-one.one within is (c.loop-row.invariant up) (c.in_ok-one.ensures up) pushed
