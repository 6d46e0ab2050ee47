use Rattle.std.proofs.Common.{inl, inr, ⊎_elim, arith}
use Rattle.price_rules.proofs.CurrentPrice.{later_apart}
use Rattle.price_rules.proofs.Tests.{number_lt_is, other_days, other_number, same_days, same_number}
use Rattle.price_rules.proofs.current.outranks.Goals as goal

pub returns-then-ne : goal.returns-then-ne
returns-then-ne c =
    let less = number_lt_is c.args.other.now.minimum c.args.price.now.minimum c.lt.result c.lt.ensures in
    let apart = other_number c.args.price.now.minimum c.args.other.now.minimum c.if-ne.ensures in
    (λ h. inl (less.0 h), λ h. ⊎_elim less.1 (λ k. absurd (apart k.0)) h)

pub returns-then-ne-2 : goal.returns-then-ne-2
returns-then-ne-2 c =
    let same = same_number c.args.price.now.minimum c.args.other.now.minimum c.if-ne.ensures in
    let apart = other_days c.args.price.now.from c.args.other.now.from c.if-ne-2.ensures in (
      λ h. inr (same, inl (c.is_later.ensures.0 h)),
      λ h. ⊎_elim (λ k. absurd (omega (arith, k, same))) (λ k. ⊎_elim c.is_later.ensures.1 (λ j. absurd (apart j.0)) k.1) h,
    )

pub returns : goal.returns
returns c =
    let p = c.args.price.now in
    let o = c.args.other.now in
    let same = same_number p.minimum o.minimum c.if-ne.ensures in
    let same_from = same_days p.from o.from c.if-ne-2.ensures in
    let less = number_lt_is p.amount o.amount c.lt-2.result c.lt-2.ensures in (
      λ h. inr (same, inr (same_from, less.0 h)),
      λ h. ⊎_elim (λ k. absurd (omega (arith, k, same))) (λ k. ⊎_elim (λ j. absurd (later_apart p.from o.from same_from j)) (λ j. less.1 j.1) k.1) h,
    )
