use Rattle.std.proofs.Common.{◌≡◌, ◌++◌, ap, ◌∙◌, arith}
use Rattle.onix_terms.proofs.CodeTexts.{text-first, text-more}
use Rattle.onix_terms.proofs.countries.countries_text.Goals as goal
use Rattle.onix_terms.proofs.countries.countries_text.Goals.{then-i-gt0+in_ok-push_str, else-i-gt0}

pub loop-i-preserved : goal.loop-i-preserved
loop-i-preserved c =
    let codes = c.args.countries.now in
    let code = c.index-countries-i.result in
    let before = c.loop-i.text in
    let written : c.push_str-in-loop-i.new.self ≡ c.if-i-gt0.text ++ code =
    c.in_ok-push_str-2.ensures.ok ∙ ap (λ t. c.if-i-gt0.text ++ t) c.as_str.ensures.text in
    elim c.if-i-gt0.branch [
      | then-i-gt0+in_ok-push_str w ↦
          text-more codes c.loop-i.i code before c.if-i-gt0.text _ (omega arith) c.index-countries-i.is w.if-i-gt0.true c.loop-i.invariant
          (w.text-is ∙ w.in_ok-push_str.ensures.ok) written
      | else-i-gt0 w ↦
          text-first codes c.loop-i.i code before _ (omega arith) c.index-countries-i.is (omega (arith, w.if-i-gt0.false)) c.loop-i.invariant
          (written ∙ ap (λ t. t ++ code) w.text-is)
    ]
