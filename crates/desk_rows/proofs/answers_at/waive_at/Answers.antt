use Rattle.std.proofs.Common.{◌≡◌, ℕ, List, Some, codes, sym, subst, ap, ◌∙◌, true, false, refl, rules}
use Rattle.std.specs.Prelude.{bytes_eq}
use Rattle.desk_catalogue.proofs.DoesLemmas.{did_as, did_fail, did_then}
use Rattle.desk_tables.specs.Rows.{DeskRows}
use Rattle.series_rules.specs.declared.answers.DeliveryAnswer.{DeliveryAnswer}
use Rattle.series_rules.specs.declared.answers.WaiveAnswer.TheVariants as waiver
use Rattle.desk_rows.specs.Answering.{IsStored, WaivesAt}
use Rattle.desk_rows.proofs.Answered.{waives_again, waives_late, waives_new}
use Rattle.desk_rows.proofs.answers_at.waive_at.Goals as goal

pub returns-then-is_waived : goal.returns-then-is_waived
returns-then-is_waived g c =
    let s = c.args.series.now in
    let n = c.args.number in
    let stored = c.as_str.result.now in
    let w : bytes_eq stored (codes "waived") ≡ true = sym c.is_waived.ensures ∙ c.if-is_waived.true in
    did_as c.in_ok-stored.ensures
    (λ rows now one. waives_again c.one_standing_text.ensures s c.args.next n stored rows now one.0 (ap (λ (t : List ℕ). Some t) c.as_str.ensures ∙ (subst (IsStored s n rows) c.in-Some.is one.1).0) w)

pub returns : goal.returns
returns g c =
    let s = c.args.series.now in
    let n = c.args.number in
    let stored = c.as_str.result.now in
    let w : bytes_eq stored (codes "waived") ≡ false = sym c.is_waived.ensures ∙ c.if-is_waived.false in
    did_as c.in_ok-stored.ensures
    (λ rows now one. waives_late s c.args.next n stored rows now one.0 (ap (λ (t : List ℕ). Some t) c.as_str.ensures ∙ (subst (IsStored s n rows) c.in-Some.is one.1).0) w)

pub returns-in_default : goal.returns-in_default
returns-in_default g c =
    let s = c.args.series.now in
    let n = c.args.number in
    let Done : DeskRows → DeliveryAnswer → DeskRows → Type 0 = λ rows _ now. WaivesAt s c.args.next n rows waiver.Waived now in
    did_as {First = Done}
    (did_then c.in_ok-stored.ensures c.in_ok-put_new.ensures
    (λ rows between now answer one two. waives_new s c.args.next n (codes "waived") rows between now answer refl one.0 (subst (IsStored s n rows) c.in_default.is one.1) two))
    (λ rows now one. one)

pub returns-in_err-put_new : goal.returns-in_err-put_new
returns-in_err-put_new g c = did_fail (search rules) c.in_ok-stored.ensures c.in_err-put_new.ensures
