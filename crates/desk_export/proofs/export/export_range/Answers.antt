use Rattle.std.proofs.Common.{◌≡◌, ◌-◌, Ok, Err, arith, ap, refl, rules}
use Rattle.std.specs.Prelude.{⊤}
use Rattle.desk_export.specs.Exports.{requests_at, requests_from}
use Rattle.series_rules.specs.Firsts.{first_at}
use Rattle.desk_export.specs.Exporting.{texts_of}
use Rattle.desk_export.proofs.TakenTexts.{exported_as, exported_then, not_taken, number_is, number_more, range_around, same_done, stopped_in, texts_joined}
use Rattle.desk_export.proofs.export.export_range.Goals as goal

pub loop-n-preserved : goal.loop-n-preserved
loop-n-preserved g c =
    let inv = c.loop-n.invariant in
    let n = c.loop-n.n in
    record {
      above = omega (arith, inv.above);
      within = omega (arith, inv.above, c.loop-n-test.true);
      exported = exported_then tt (Ok tt) inv.exported (same_done _ tt c.in_ok-export_number.ensures)
          (λ L stands sound is. (tt, tt, texts_joined _ _ _ (number_more L c.args.agreement.now c.args.from n c.in-Some.number inv.above (number_is c.in-Some.number n c.in-Some.ensures))));
    }

pub returns : goal.returns
returns g c =
    let inv = c.loop-n.invariant in
    let size : c.args.end - c.args.from ≡ c.loop-n.n - c.args.from = omega (arith, inv.above, inv.within, c.loop-n-test.false) in
    exported_as (Ok tt) (same_done _ tt inv.exported) (λ L is. (tt, ap (λ len. texts_of (requests_from L c.args.agreement.now c.args.from len)) size))

pub returns-in_default : goal.returns-in_default
returns-in_default g c =
    let inv = c.loop-n.invariant in
    let n = c.loop-n.n in
    let a = c.args.agreement.now in
    stopped_in {B = ⊤} tt _ inv.exported (not_taken {IsSo = λ L. ⊤} {texts = λ L. texts_of (requests_at a n (first_at L a.name n))} _ _ _)
    (λ L stands sound is. (tt, tt, range_around L a c.args.from n c.args.end n inv.above c.loop-n-test.true refl))

pub returns-in_err-export_number : goal.returns-in_err-export_number
returns-in_err-export_number g c =
    let inv = c.loop-n.invariant in
    let n = c.loop-n.n in
    let fault = c.in_err-export_number.field-0.0 in
    let is : c.from_residual.result ≡ Err fault = search rules in
    rw is (stopped_in tt fault inv.exported c.in_err-export_number.ensures
    (λ L stands sound is. (tt, tt, range_around L c.args.agreement.now c.args.from n c.args.end c.in-Some.number inv.above c.loop-n-test.true (number_is c.in-Some.number n c.in-Some.ensures))))
