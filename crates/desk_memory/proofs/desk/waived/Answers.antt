use Rattle.std.proofs.Common.{ap, arith}
use Rattle.onix_records.specs.declared.agreements.Agreement.{Agreement}
use Rattle.series_rules.specs.Agreements.{has_name}
use Rattle.desk_memory.proofs.Kept.{first_in, none_in, set_same, on_fault}
use Rattle.desk_memory.proofs.AfterRequests.{waived_unknown, waived_before, waived_at, stands_again, named_place}
use Rattle.desk_memory.proofs.desk.waived.Goals as goal

pub returns-in_default-clause-ok : goal.returns-in_default-clause-ok
returns-in_default-clause-ok c = λ L stands.
    waived_unknown c.args.kept.now.items L c.args.name.now c.args.number stands
    (none_in (λ s. has_name c.args.name.now s.agreement) c.args.kept.now.items c.deref.result.now c.deref.ensures.value c.in_default.ensures)

pub returns-then-value-clause-ok : goal.returns-then-value-clause-ok
returns-then-value-clause-ok c = λ L stands.
    let first_is = ap (λ (a : Agreement). a.first) c.agreement.ensures in
    let kept = c.args.kept.now.items in
    let first = first_in (λ s. has_name c.args.name.now s.agreement) kept c.deref.result.now c.in-Some.at c.index_mut-series.result.now c.deref.ensures.value c.in-Some.ensures c.index_mut-series.ensures.value in
    rw (set_same (λ s. has_name c.args.name.now s.agreement) kept c.in-Some.at c.index_mut-series.result.now first, c.agreement.ensures)
    (waived_before kept L c.args.name.now c.args.number c.in-Some.at c.index_mut-series.result.now stands first (omega arith))

pub returns-clause-ok : goal.returns-clause-ok
returns-clause-ok c = λ L stands.
    let first_is = ap (λ (a : Agreement). a.first) c.agreement.ensures in
    let kept = c.args.kept.now.items in
    let first = first_in (λ s. has_name c.args.name.now s.agreement) kept c.deref.result.now c.in-Some.at c.index_mut-series.result.now c.deref.ensures.value c.in-Some.ensures c.index_mut-series.ensures.value in
    waived_at kept L c.args.name.now c.args.number c.in-Some.at c.index_mut-series.result.now c.waive.new.self c.in_ok-waive.field-0
    stands first (omega arith) c.waive.ensures.agreement c.in_ok-waive.ensures.ok c.in_ok-waive.ensures.answer

pub returns-in_err-waive-clause-err : goal.returns-in_err-waive-clause-err
returns-in_err-waive-clause-err c = λ L stands.
    let kept = c.args.kept.now.items in
    let place = first_in (λ s. has_name c.args.name.now s.agreement) kept c.deref.result.now c.in-Some.at c.index_mut-series.result.now c.deref.ensures.value c.in-Some.ensures c.index_mut-series.ensures.value in
    on_fault c.from_residual.result _
    (stands_again kept L c.in-Some.at c.index_mut-series.result.now c.waive.new.self stands
    (named_place kept c.args.name.now c.in-Some.at c.index_mut-series.result.now place) c.waive.ensures.agreement c.in_err-waive.ensures.err)
