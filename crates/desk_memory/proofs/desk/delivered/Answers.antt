use Rattle.std.proofs.Common.{ap, None, arith}
use Rattle.onix_records.specs.declared.agreements.Agreement.{Agreement}
use Rattle.series_rules.specs.Agreements.{has_parties}
use Rattle.desk_memory.proofs.Kept.{first_in, none_in, between_kept, own_place, set_same, on_fault}
use Rattle.desk_memory.proofs.AfterRequests.{delivered_unknown, delivered_before, delivered_at, stands_again}
use Rattle.desk_memory.proofs.desk.delivered.Goals as goal

pub returns-in_default-place_between-clause-ok : goal.returns-in_default-place_between-clause-ok
returns-in_default-place_between-clause-ok c = λ L stands.
    let m = c.in-Ok.message in
    delivered_unknown c.args.kept.now.items L c.args.records.now m c.in-Some.number stands c.in-Ok.ensures.message c.in-Some.is
    (between_kept c.args.kept.now.items m.0.sender m.0.addressee None
    (none_in (λ s. has_parties m.0.sender m.0.addressee s.agreement) c.args.kept.now.items c.deref.result.now c.deref.ensures.value c.in_default-place_between.ensures))

pub returns-then-value-clause-ok : goal.returns-then-value-clause-ok
returns-then-value-clause-ok c = λ L stands.
    let first_is = ap (λ (a : Agreement). a.first) c.agreement.ensures in
    let m = c.in-Ok.message in
    let kept = c.args.kept.now.items in
    let first = first_in (λ s. has_parties m.0.sender m.0.addressee s.agreement) kept c.deref.result.now c.in-Some-place_between.at c.index_mut-series.result.now c.deref.ensures.value c.in-Some-place_between.ensures c.index_mut-series.ensures.value in
    rw (set_same (λ s. has_parties m.0.sender m.0.addressee s.agreement) kept c.in-Some-place_between.at c.index_mut-series.result.now first, c.agreement.ensures, c.agreement-then-value.ensures)
    (delivered_before kept L c.args.records.now m c.in-Some.number c.in-Some-place_between.at c.index_mut-series.result.now stands c.in-Ok.ensures.message c.in-Some.is first (omega arith))

pub returns-clause-ok : goal.returns-clause-ok
returns-clause-ok c = λ L stands.
    let first_is = ap (λ (a : Agreement). a.first) c.agreement.ensures in
    let m = c.in-Ok.message in
    let kept = c.args.kept.now.items in
    let first = first_in (λ s. has_parties m.0.sender m.0.addressee s.agreement) kept c.deref.result.now c.in-Some-place_between.at c.index_mut-series.result.now c.deref.ensures.value c.in-Some-place_between.ensures c.index_mut-series.ensures.value in
    delivered_at kept L c.args.records.now m c.in-Some.number c.in-Some-place_between.at c.index_mut-series.result.now c.deliver.new.self c.in_ok-answer.answer
    stands c.in-Ok.ensures.message c.in-Some.is first (omega arith) c.deliver.ensures.agreement c.in_ok-answer.ensures.ok c.in_ok-answer.ensures.answer

pub returns-in_err-answer-clause-err : goal.returns-in_err-answer-clause-err
returns-in_err-answer-clause-err c = λ L stands.
    let m = c.in-Ok.message in
    let kept = c.args.kept.now.items in
    let place = first_in (λ s. has_parties m.0.sender m.0.addressee s.agreement) kept c.deref.result.now c.in-Some-place_between.at c.index_mut-series.result.now c.deref.ensures.value c.in-Some-place_between.ensures c.index_mut-series.ensures.value in
    on_fault c.from_residual.result _
    (stands_again kept L c.in-Some-place_between.at c.index_mut-series.result.now c.deliver.new.self stands
    (own_place kept stands.distinct m.0.sender m.0.addressee c.in-Some-place_between.at c.index_mut-series.result.now place) c.deliver.ensures.agreement c.in_err-answer.ensures.err)
