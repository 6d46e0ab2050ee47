use Rattle.std.proofs.Common.{◌∙◌, sym, Result, Ok, Err}
use Rattle.std.specs.Prelude.{OnOk}
use Rattle.feed_outline.proofs.FeedLaws.{section_feeds, text_feeds}
use Rattle.feed_outline.proofs.outliner.Outliner.take_piece.Goals as goal

ok_then : {T E : Type 0} {P Q : Type 0} (r : Result T E) → OnOk r P → (P → Q) → OnOk r Q
ok_then (Ok x) h f = f h
ok_then (Err e) h f = tt

pub returns-in-Text : goal.returns-in-Text
returns-in-Text g c =
    let f = c.args.self.now in
    rw c.in-Text.is (ok_then c.speak.result c.speak.ensures (λ m. m ∙ sym (text_feeds g.T.Taker.vocabulary g.T.Taker.after f.taker f.root f.child.lines f.child.opens f.child.passed f.known c.in-Text.run'.now)))

pub returns-in-Section : goal.returns-in-Section
returns-in-Section g c =
    let f = c.args.self.now in
    rw c.in-Section.is (ok_then c.speak-in-Section.result c.speak-in-Section.ensures (λ m. m ∙ sym (section_feeds g.T.Taker.vocabulary g.T.Taker.after f.taker f.root f.child.lines f.child.opens f.child.passed f.known c.in-Section.run'.now)))
