use Rattle.std.proofs.Common.{◌∙◌, ap, fold, subst, sym}
use Rattle.feed_xml.specs.declared.fault.Fault.{Fault as DocumentFault}
use Rattle.feed_xml.specs.declared.fault.Fault.TheVariants.{Refused}
use Rattle.feed_xml.specs.Faults.{Tells}
use Rattle.feed_outline.specs.private.Feed.{feed, takes_more}
use Rattle.feed_outline.specs.private.Finishing.{finished}
use Rattle.feed_outline.proofs.MessageLaws.{comes, document_explained, refuses}
use Rattle.feed_outline.proofs.message_reading.read_message.Goals as goal

pub returns-in-Ok-clause-message : goal.returns-in-Ok-clause-message
returns-in-Ok-clause-message g c =
    let d = c.in-Ok.ensures.document in
    let t = d.3.are in
    let after = g.T.Taker.after in
    rw (c.finish.ensures ∙ ap finished (d.4 ∙ ap (λ f. fold (feed g.T.Taker.vocabulary after) f d.1) c.new-outliner.ensures))
    (comes g.T.Taker.vocabulary after c.args.taker (g.R.Read.remaining c.args.reader.now) d.0 d.1 t.name t.inside d.2 d.3 t.tree).ok

pub returns-in-Ok-clause-refused : goal.returns-in-Ok-clause-refused
returns-in-Ok-clause-refused g c =
    let d = c.in-Ok.ensures.document in
    let t = d.3.are in
    let after = g.T.Taker.after in
    let bytes = g.R.Read.remaining c.args.reader.now in
    let all = comes g.T.Taker.vocabulary after c.args.taker bytes d.0 d.1 t.name t.inside d.2 d.3 t.tree in
    rw (c.finish.ensures ∙ ap finished (d.4 ∙ ap (λ f. fold (feed g.T.Taker.vocabulary after) f d.1) c.new-outliner.ensures))
    all.refused

pub returns-then-is_refused-clause-refused : goal.returns-then-is_refused-clause-refused
returns-then-is_refused-clause-refused g c =
    let vocabulary = g.T.Taker.vocabulary in
    let after = g.T.Taker.after in
    let bytes = g.R.Read.remaining c.args.reader.now in
    let t : Tells (feed vocabulary after) bytes c.new-outliner.result c.read_document.new.sink takes_more Refused =
    subst (λ (e : DocumentFault). Tells (feed vocabulary after) bytes c.new-outliner.result c.read_document.new.sink takes_more e) (c.is_refused.ensures.yes c.if-is_refused.true) c.in-Err.ensures.fault in
    let tokens = t.1.0 in
    let is = t.1.2 ∙ ap (λ f. fold (feed vocabulary after) f tokens) c.new-outliner.ensures in
    rw (c.finish-then-is_refused.ensures ∙ ap finished is) (refuses vocabulary after c.args.taker bytes tokens t.1.1 (ap takes_more (sym is) ∙ t.0)).refused

pub returns-else-is_refused-clause-refused : goal.returns-else-is_refused-clause-refused
returns-else-is_refused-clause-refused g c =
    rw c.stop.ensures
    (document_explained g.T.Taker.vocabulary g.T.Taker.after (g.R.Read.remaining c.args.reader.now) c.new-outliner.result c.read_document.new.sink c.in-Err.fault (c.is_refused.ensures.no c.if-is_refused.false) c.in-Err.ensures.fault)
