use Rattle.std.proofs.Common.{refl}
use Rattle.onix_records.specs.declared.row.Row.TheVariants as row
use Rattle.onix_records.proofs.Bare.{detail-bare}
use Rattle.onix_records.proofs.StepsOfRows.{failed-steps, made-steps}
use Rattle.onix_records.proofs.step.add_read_detail.Goals as goal

pub add_detail-requires-clause-bare : goal.add_detail-requires-clause-bare
add_detail-requires-clause-bare c = detail-bare _ _ c.in_ok-read_detail.ensures

pub returns : goal.returns
returns c = λ before. made-steps row.SupplyDetail _ c.in_ok-read_detail.field-0 _ _ before _ c.in_ok-read_detail.ensures refl c.add_detail.ensures.added c.add_detail.ensures.refused

pub returns-in_err-read_detail : goal.returns-in_err-read_detail
returns-in_err-read_detail c = λ before. failed-steps row.SupplyDetail _ c.in_err-read_detail.field-0.0 _ c.args.draft.now before _ c.in_err-read_detail.ensures c.from_residual.ensures.1
