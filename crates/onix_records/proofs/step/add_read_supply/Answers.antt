use Rattle.std.proofs.Common.{map, refl}
use Rattle.onix_records.specs.declared.row.Row.TheVariants as row
use Rattle.onix_records.proofs.Bare.{supply-bare}
use Rattle.onix_records.proofs.StepsOfRows.{failed-steps, made-steps}
use Rattle.onix_records.proofs.step.add_read_supply.Goals as goal

pub add_supply-requires-clause-bare : goal.add_supply-requires-clause-bare
add_supply-requires-clause-bare c = supply-bare (map (λ f. f.now) c.args.fields.now) _ c.in_ok-read_supply.ensures

pub returns : goal.returns
returns c = λ before. made-steps row.ProductSupply _ c.in_ok-read_supply.field-0 _ _ before _ c.in_ok-read_supply.ensures refl c.add_supply.ensures.added c.add_supply.ensures.refused

pub returns-in_err-read_supply : goal.returns-in_err-read_supply
returns-in_err-read_supply c = λ before. failed-steps row.ProductSupply _ c.in_err-read_supply.field-0.0 _ c.args.draft.now before _ c.in_err-read_supply.ensures c.from_residual.ensures.1
