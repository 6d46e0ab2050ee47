use Rattle.std.proofs.Common.{◌∙◌, ap, arith, cond, None}
use Rattle.series_rules.specs.Agreements.{has_name, has_parties}
use Rattle.series_rules.specs.Answers.{same_agreement}
use Rattle.series_rules.specs.declared.answers.AgreeAnswer.TheVariants.{Agreed, NameTaken}
use Rattle.desk_memory.proofs.Kept.{first_in, none_in, between_kept}
use Rattle.desk_memory.proofs.InOrder.{place_within}
use Rattle.desk_memory.proofs.AfterRequests.{agree_named, agree_taken, agree_new}
use Rattle.desk_memory.proofs.desk.agreed.Goals as goal

pub returns-then-is_same_agreement-clause-ok : goal.returns-then-is_same_agreement-clause-ok
returns-then-is_same_agreement-clause-ok c = λ L stands.
    agree_named c.args.kept.now.items L c.args.a.now c.index.result.now c.in-Some.at _ stands
    (first_in (λ s. has_name c.args.a.now.name s.agreement) c.args.kept.now.items c.deref.result.now c.in-Some.at c.index.result.now c.deref.ensures.value c.in-Some.ensures c.index.ensures)
    (ap (λ b. cond b Agreed NameTaken) (c.if-is_same_agreement.ensures ∙ ap (λ x. same_agreement x c.args.a.now) c.agreement.ensures))

pub returns-in-Some-clause-ok : goal.returns-in-Some-clause-ok
returns-in-Some-clause-ok c = λ L stands.
    agree_named c.args.kept.now.items L c.args.a.now c.index.result.now c.in-Some.at _ stands
    (first_in (λ s. has_name c.args.a.now.name s.agreement) c.args.kept.now.items c.deref.result.now c.in-Some.at c.index.result.now c.deref.ensures.value c.in-Some.ensures c.index.ensures)
    (ap (λ b. cond b Agreed NameTaken) (c.if-is_same_agreement.ensures ∙ ap (λ x. same_agreement x c.args.a.now) c.agreement.ensures))

pub returns-in-Some-place_between-clause-ok : goal.returns-in-Some-place_between-clause-ok
returns-in-Some-place_between-clause-ok c = λ L stands.
    rw c.agreement-in-Some-place_between.ensures
    (agree_taken c.args.kept.now.items L c.args.a.now c.index-in-Some-place_between.result.now c.in-Some-place_between.at stands
    (none_in (λ s. has_name c.args.a.now.name s.agreement) c.args.kept.now.items c.deref.result.now c.deref.ensures.value c.in_default.ensures)
    (first_in (λ s. has_parties c.args.a.now.sender c.args.a.now.addressee s.agreement) c.args.kept.now.items c.deref-2.result.now c.in-Some-place_between.at c.index-in-Some-place_between.result.now c.deref-2.ensures.value c.in-Some-place_between.ensures c.index-in-Some-place_between.ensures))

pub insert-requires : goal.insert-requires
insert-requires c =
    omega (arith, c.place_for-at.ensures, place_within c.deref-3.result.now c.args.a.now.name, c.deref-3.ensures.len)

pub returns-clause-ok : goal.returns-clause-ok
returns-clause-ok c = λ L stands.
    rw (c.in_ok-insert.ensures.items, c.place_for-at.ensures, c.deref-3.ensures.value)
    (agree_new c.args.kept.now.items L c.args.a.now c.new-series.result stands
    (none_in (λ s. has_name c.args.a.now.name s.agreement) c.args.kept.now.items c.deref.result.now c.deref.ensures.value c.in_default.ensures)
    (between_kept c.args.kept.now.items c.args.a.now.sender c.args.a.now.addressee None
    (none_in (λ s. has_parties c.args.a.now.sender c.args.a.now.addressee s.agreement) c.args.kept.now.items c.deref-2.result.now c.deref-2.ensures.value c.in_default-place_between.ensures))
    (c.new-series.ensures.agreement ∙ c.in_ok-agreement.ensures)
    c.new-series.ensures.nothing)
