use Rattle.std.proofs.Common.{◌≡◌, ◌-◌, ◌+◌, ◌++◌, ◌∷◌, ◌∙◌, [], Ok, Err, arith, ap, drop, refl, rules, sym}
use Rattle.std.proofs.lemmas.List.{drop_all, drop_more}
use Rattle.desk_export.specs.Exporting.{end_after, requests_between}
use Rattle.desk_export.specs.Exports.{requests_from}
use Rattle.desk_export.proofs.TakenTexts.{between, exported_then, held_more, nothing_done, same_done, stopped_in, texts_append, texts_joined}
use Rattle.desk_export.proofs.export.export_held.Goals as goal

pub loop-range-init : goal.loop-range-init
loop-range-init g c =
    let a = c.args.agreement.now in
    let missing = c.as_slice-missing.result.now in
    let end = c.end_of-end.result in
    record {
      some = λ L. [];
      split = λ L. ap (λ n. requests_between L a n missing end) (sym c.value-from.ensures.value);
      exported = nothing_done g.T.TakesTexts.takes g.T.TakesTexts.takes_part (g.D.Desk.seen c.args.desk.now) c.args.taker.now;
    }

pub loop-range-preserved : goal.loop-range-preserved
loop-range-preserved g c =
    let inv = c.loop-range.invariant in
    let a = c.args.agreement.now in
    let missing = c.as_slice-missing.result.now in
    let end = c.end_of-end.result in
    let from = c.loop-range.from in
    let i = c.loop-range.range-index in
    let p = c.range-item.result in
    let left : drop i missing ≡ p ∷ drop (i + 1) missing = drop_more missing i p c.loop-range-test.true ∙ ap (λ q. q ∷ drop (i + 1) missing) (sym c.range-item.is) in
    record {
      some = λ L. inv.some L ++ requests_from L a from (c.value.result - from);
      split = λ L. held_more L a from end c.value.result c.value-from-in-loop-range.result p (drop i missing) (drop (i + 1) missing) (inv.some L) _ (inv.split L) left c.value.ensures.value c.value-from-in-loop-range.ensures.value;
      exported = exported_then tt (Ok tt) inv.exported (same_done _ tt c.in_ok-export_range.ensures) (λ L stands sound is. (tt, tt, texts_append (inv.some L) (requests_from L a from (c.value.result - from))));
    }

pub returns : goal.returns
returns g c =
    let inv = c.loop-range.invariant in
    let a = c.args.agreement.now in
    let first = c.args.report.now.first in
    let missing = c.as_slice-missing.result.now in
    let end = c.end_of-end.result in
    let from = c.loop-range.from in
    let none : drop c.loop-range.range-index missing ≡ [] = drop_all c.loop-range.range-index missing (omega (arith, c.loop-range-test.false)) in
    exported_then tt c.export_range-2.result inv.exported c.export_range-2.ensures
    (λ L stands sound is. (
      tt,
      tt,
      texts_joined _ (inv.some L) (requests_from L a from (end - from)) (ap (λ ps. requests_between L a first ps (end_after first c.args.report.now.greatest)) (sym c.as_slice-missing.ensures)
          ∙ ap (λ e. requests_between L a first missing e) (sym c.end_of-end.ensures)
          ∙ inv.split L
          ∙ ap (λ ps. inv.some L ++ requests_between L a from ps end) none),
    ))

pub returns-in_err-export_range : goal.returns-in_err-export_range
returns-in_err-export_range g c =
    let inv = c.loop-range.invariant in
    let a = c.args.agreement.now in
    let first = c.args.report.now.first in
    let missing = c.as_slice-missing.result.now in
    let end = c.end_of-end.result in
    let from = c.loop-range.from in
    let i = c.loop-range.range-index in
    let p = c.range-item.result in
    let left : drop i missing ≡ p ∷ drop (i + 1) missing = drop_more missing i p c.loop-range-test.true ∙ ap (λ q. q ∷ drop (i + 1) missing) (sym c.range-item.is) in
    let fault = c.in_err-export_range.field-0.0 in
    let is : c.from_residual.result ≡ Err fault = search rules in
    rw is (stopped_in tt fault inv.exported c.in_err-export_range.ensures
    (λ L stands sound is. (
      tt,
      tt,
      between _ (inv.some L) (requests_from L a from (c.value.result - from)) (requests_between L a (p.1 + 1) (drop (i + 1) missing) end) (ap (λ ps. requests_between L a first ps (end_after first c.args.report.now.greatest)) (sym c.as_slice-missing.ensures)
          ∙ ap (λ e. requests_between L a first missing e) (sym c.end_of-end.ensures)
          ∙ held_more L a from end c.value.result p.1 p (drop i missing) (drop (i + 1) missing) (inv.some L) _ (inv.split L) left c.value.ensures.value refl),
    )))
