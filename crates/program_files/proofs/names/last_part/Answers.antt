use Rattle.std.proofs.Common.{◌≡◌, ◌≤◌, ◌-◌, arith, get_or, length, subst}
use Rattle.program_files.proofs.NameLemmas.{cut_behind}
use Rattle.program_files.proofs.names.last_part.Goals as goal

pub range_from-requires : goal.range_from-requires
range_from-requires c some =
    let path = c.range-path.result.now in
    let start = c.behind_last.result in
    let same : c.as_bytes-2.result.now ≡ path = c.as_bytes-2.ensures.value in
    let within : start ≤ length path = subst (λ bs. start ≤ length bs) same c.behind_last.ensures.within in
    let is : get_or path (start - 1) 0 ≡ 47 = subst (λ bs. get_or bs (start - 1) 0 ≡ 47) same (c.behind_last.ensures.before some) in
    cut_behind path start c.range-path.utf8 some within (omega (arith, is))
