use Rattle.std.proofs.Common.{◌≡◌, ap, codes, sym, ◌∙◌, true, false}
use Rattle.std.specs.Prelude.{bytes_eq}
use Rattle.desk_rows.proofs.Answered.{repeats_other, repeats_same, repeats_waived}
use Rattle.desk_rows.proofs.answers_at.answer_again.Goals as goal

pub returns-then-is_waived : goal.returns-then-is_waived
returns-then-is_waived c =
    let w : bytes_eq c.args.stored.now.text (codes "waived") ≡ true = ap (λ t. bytes_eq t (codes "waived")) (sym c.as_str.ensures) ∙ sym c.is_waived.ensures ∙ c.if-is_waived.true in
    repeats_waived c.one_standing_text.ensures c.args.series.now c.args.next c.args.number c.args.stored.now c.args.text.now w

pub returns-then-eq : goal.returns-then-eq
returns-then-eq c =
    let m : bytes_eq c.args.stored.now.text c.args.text.now ≡ true = ap (λ t. bytes_eq t c.args.text.now) (sym c.as_str-2.ensures) ∙ sym c.eq.ensures ∙ c.if-eq.true in
    repeats_same c.one_standing_text.ensures c.args.series.now c.args.next c.args.number c.args.stored.now c.args.text.now c.applied_or_held.result m c.applied_or_held.ensures

pub returns : goal.returns
returns c =
    let w : bytes_eq c.args.stored.now.text (codes "waived") ≡ false = ap (λ t. bytes_eq t (codes "waived")) (sym c.as_str.ensures) ∙ sym c.is_waived.ensures ∙ c.if-is_waived.false in
    let m : bytes_eq c.args.stored.now.text c.args.text.now ≡ false = ap (λ t. bytes_eq t c.args.text.now) (sym c.as_str-2.ensures) ∙ sym c.eq.ensures ∙ c.if-eq.false in
    repeats_other c.args.series.now c.args.next c.args.number c.args.stored.now c.args.text.now w m
