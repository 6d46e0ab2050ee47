use Rattle.std.proofs.Common.{◌≡◌, ◌∙◌, arith, below_more, false, sym}
use Rattle.csv_records.specs.RecordTexts.{records_of}
use Rattle.desk_reasons.specs.Refused.{is_refused_at}
use Rattle.desk_reasons.proofs.refused.first_refused.Goals as goal

pub loop-place-preserved : goal.loop-place-preserved
loop-place-preserved c = λ place less.
    below_more
    (λ i. is_refused_at (records_of c.args.before.now) c.args.given.now c.args.sample.now i ≡ false)
    c.loop-place.place c.loop-place.invariant
    (sym c.in_ok-is_refused_at.ensures ∙ c.if-branch.false) place (omega (arith, less))
