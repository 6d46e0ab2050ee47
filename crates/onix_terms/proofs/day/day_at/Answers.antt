use Rattle.std.proofs.Common.{◌≡◌, pos, ◌≤ℤ◌, ◌/◌, ◌%◌, arith, ap, ◌∙◌, w32, of_z, to_z}
use Rattle.std.proofs.lemmas.Bool.{false≢true}
use Rattle.std.proofs.lemmas.Int.{ints}
use Rattle.jiff.specs.Words.{epoch_day}
use Rattle.onix_terms.proofs.DayNumbers.{in_range, day_from-date, day_from-none, dated-is_date}
use Rattle.onix_terms.proofs.day.day_at.Goals as goal

pub invariant_of-result : goal.invariant_of-result
invariant_of-result c =
    let date = c.in-Ok.date in
    let is : c.to_unix_epoch_day.result ≡ epoch_day date = c.to_unix_epoch_day.ensures.value ∙ ap epoch_day c.to_plain.ensures in
    let year : pos 1 ≤ℤ date.year = omega (arith, ints, c.in-Ok.ensures.value.0) in
    let range = in_range date.year date.month date.day (date.year_in, date.month_in, date.day_in) year in
    (omega (arith, ints), omega (arith, ints))

pub returns-in-Ok : goal.returns-in-Ok
returns-in-Ok c =
    let date = c.in-Ok.date in
    let is : c.to_unix_epoch_day.result ≡ epoch_day date = c.to_unix_epoch_day.ensures.value ∙ ap epoch_day c.to_plain.ensures in
    let ymd = c.in-Ok.ensures.value in
    let same : to_z w32 (of_z w32 c.to_unix_epoch_day.result) ≡ c.to_unix_epoch_day.result = omega (arith, ints) in
    day_from-date date (c.args.date / 10_000) (c.args.date / 100 % 100) (c.args.date % 100) _
    (omega (arith, ints, ymd.0)) (omega (arith, ints, ymd.1)) (omega (arith, ints, ymd.2)) (omega (arith, ints)) (same ∙ is)

pub returns-in-Err : goal.returns-in-Err
returns-in-Err c =
    let year = c.args.date / 10_000 in
    let month = c.args.date / 100 % 100 in
    let day = c.args.date % 100 in
    day_from-none year month day
    (λ dated. false≢true (c.in-Err.ensures.succeeds.1 (dated-is_date year month day _ _ _ (omega (arith, ints)) (omega (arith, ints)) (omega (arith, ints)) dated)))
