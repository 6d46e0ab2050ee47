use Rattle.std.proofs.Common.{Some, ◌∙◌, sym, ap, arith}
use Rattle.feed_xml.specs.declared.place.Prolog.{Prolog}
use Rattle.feed_xml.proofs.PlaceLaws.{text_ordered}
use Rattle.feed_xml.proofs.place.behind_text.Goals as goal

pub returns-in-len1-up : goal.returns-in-len1-up
returns-in-len1-up c =
    text_ordered c.args.prolog c.args.run.now (omega (arith, c.in-len1-up.len_at_least))
    ∙ ap (λ (p : Prolog). Some p) (sym c.further.ensures)
