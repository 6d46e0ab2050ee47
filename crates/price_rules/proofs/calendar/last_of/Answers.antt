use Rattle.std.proofs.Common.{◌+◌, ◌<◌, length, arith}
use Rattle.std.proofs.lemmas.Bool.Decides.{nat_tests}
use Rattle.std.proofs.lemmas.List.{get_or_default}
use Rattle.std.proofs.lemmas.Int.{ints}
use Rattle.price_rules.proofs.calendar.last_of.Goals as goal

pub day_before-requires : goal.day_before-requires
day_before-requires c =
    let days = c.args.days.now in
    let found = c.in-Some.ensures.lookup in
    let inside : c.args.k + 1 < length days = grind (arith, nat_tests, found.0) in
    let up = c.requires.ascending c.args.k (c.args.k + 1) c.index-days-k.result (omega arith) inside in
    let e = get_or_default days (c.args.k + 1) c.in-Some.next.now c.index-days-k.result inside in
    let is = c.index-days-k.is in
    let next = found.1 in
    omega (arith, ints)
