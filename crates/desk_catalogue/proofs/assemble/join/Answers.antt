use Rattle.std.proofs.Common.{◌++◌, ◌∷◌, ◌∙◌, [], List, ap, sym}
use Rattle.onix_records.specs.declared.parts.ProductSupply.{ProductSupply}
use Rattle.onix_records.specs.declared.parts.SupplyDetail.{SupplyDetail}
use Rattle.desk_catalogue.specs.Assembly.{joined}
use Rattle.desk_catalogue.proofs.Assembled.{joined-last, on-ok}
use Rattle.desk_catalogue.proofs.assemble.join.Goals as goal

pub returns : goal.returns
returns c =
    let done = c.pop.new.self in
    let s = c.in-Some.supply in
    let detail_added = on-ok c.push.result _ (sym c.is_err.ensures.value ∙ c.if-is_err.false) c.push.ensures.ok in
    let supply_added = on-ok c.push-2.result _ (sym c.is_err-2.ensures.value ∙ c.if-is_err-2.false) c.push-2.ensures.ok in
    supply_added ∙ ap (λ (ds : List SupplyDetail). done ++ record s { details = ds } ∷ []) detail_added ∙ sym (joined-last done s c.args.detail) ∙ ap (λ (l : List ProductSupply). joined l c.args.detail) (sym c.in-Some.ensures.last)
