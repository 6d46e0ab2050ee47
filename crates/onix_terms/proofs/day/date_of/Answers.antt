use Rattle.std.proofs.Common.{rules, ◌≡◌, pos, ◌≤ℤ◌, arith, ap, ◌∙◌, sym, unsigned_abs, to_z, of_z, w8, w16}
use Rattle.std.proofs.lemmas.Int.{ints}
use Rattle.jiff.specs.Words.{epoch_day}
use Rattle.onix_terms.proofs.DayNumbers.{begun-year, date_of-date}
use Rattle.onix_terms.proofs.day.date_of.Goals as goal

pub overflow_cast-result : goal.overflow_cast-result
overflow_cast-result c =
    let date = c.in-Ok.date in
    let is : epoch_day date ≡ c.args.day = omega (arith, ints, c.in-Ok.ensures.value) in
    let year : c.year.result ≡ date.year = c.year.ensures ∙ ap (λ d. d.year) c.from_plain-date.ensures in
    let begun : pos 1 ≤ℤ date.year = begun-year date c.args.day is (omega (arith, ints)) in
    (search (rules, ints), omega (arith, ints))

pub returns-clause-date : goal.returns-clause-date
returns-clause-date c =
    let date = c.in-Ok.date in
    let is : epoch_day date ≡ c.args.day = omega (arith, ints, c.in-Ok.ensures.value) in
    let year : c.year.result ≡ date.year = c.year.ensures ∙ ap (λ d. d.year) c.from_plain-date.ensures in
    let month : c.month.result ≡ pos date.month = c.month.ensures ∙ ap (λ d. pos d.month) c.from_plain-date.ensures in
    let day : c.day-in-Ok.result ≡ pos date.day = c.day-in-Ok.ensures ∙ ap (λ d. pos d.day) c.from_plain-date.ensures in
    let begun : pos 1 ≤ℤ date.year = begun-year date c.args.day is (omega (arith, ints)) in
    let Y = unsigned_abs (to_z w16 (of_z w16 c.year.result)) in
    let years : date.year ≡ pos Y = omega (arith, ints) in
    let months : unsigned_abs (to_z w8 (of_z w8 c.month.result)) ≡ date.month = omega (arith, ints) in
    let days : unsigned_abs (to_z w8 (of_z w8 c.day-in-Ok.result)) ≡ date.day = omega (arith, ints) in
    rw (months, days) (sym (date_of-date date c.args.day is (omega (arith, ints)) Y years))
