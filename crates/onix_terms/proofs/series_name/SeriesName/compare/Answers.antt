use Rattle.std.proofs.Common.{sym, ◌∙◌}
use Rattle.std.specs.FinMap.{slice_cmp-IsAntisymmetric, nat_cmp-IsAntisymmetric}
use Rattle.onix_terms.proofs.series_name.SeriesName.compare.Goals as goal

pub returns-clause-equal : goal.returns-clause-equal
returns-clause-equal c = λ e. slice_cmp-IsAntisymmetric nat_cmp-IsAntisymmetric _ _ (sym c.cmp.ensures ∙ e)
