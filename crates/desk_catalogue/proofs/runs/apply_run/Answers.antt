use Rattle.std.proofs.Common.{ap, subst, sym, ◌∙◌}
use Rattle.catalogue_rules.specs.Effects.{after as after_all}
use Rattle.desk_catalogue.proofs.DoesLemmas.{did_as}
use Rattle.desk_catalogue.proofs.RunLemmas.{run_applied, run_counted}
use Rattle.desk_catalogue.specs.Holding.{HoldsCatalogue, other_catalogues}
use Rattle.desk_catalogue.proofs.runs.apply_run.Goals as goal

pub returns-clause-does : goal.returns-clause-does
returns-clause-does g c =
    let s = c.args.series.now in
    let ps = c.args.products.now in
    let before = c.args.effect in
    did_as c.in_ok-write_products.ensures
    (λ rows after one. λ m held new storable.
    let done = run_applied s m ps before rows held new storable in
    record {
      catalogue = subst (HoldsCatalogue s (after_all m ps)) (sym one) done.catalogue;
      counts = sym (run_counted m ps before new);
      others = ap (other_catalogues s) one ∙ done.others;
    })
