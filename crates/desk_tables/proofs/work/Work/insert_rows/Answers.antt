use Rattle.std.proofs.Common.{◌≡◌, ◌*◌, ◌/◌, ◌≤◌, length, true, false, rules, arith}
use Rattle.desk_tables.specs.ManyRows.{many_of}
use Rattle.desk_tables.proofs.ManyRows.{all_put, count_is, none_put}
use Rattle.desk_tables.proofs.work.Work.insert_rows.Goals as goal

pub returns : goal.returns
returns g c = λ xs are.
    let count = length c.args.values.now / c.width.result in
    let all : count ≡ length xs = count_is c.args.table xs c.args.values.now c.width.result c.width.ensures are in
    let eights : many_of true * (count / 8) ≤ length xs = omega (arith, all) in
    let ones : many_of false * count ≤ length xs = omega (arith, all) in
    all_put c.args.table xs count (count / 8) all (c.in_ok-insert_each.ensures xs are eights) (c.insert_each-2.ensures xs are ones)

pub returns-in_err-insert_each : goal.returns-in_err-insert_each
returns-in_err-insert_each g c = λ xs are.
    let count = length c.args.values.now / c.width.result in
    let all : count ≡ length xs = count_is c.args.table xs c.args.values.now c.width.result c.width.ensures are in
    let eights : many_of true * (count / 8) ≤ length xs = omega (arith, all) in
    none_put c.args.table xs (count / 8) (search rules) (c.in_err-insert_each.ensures xs are eights)
