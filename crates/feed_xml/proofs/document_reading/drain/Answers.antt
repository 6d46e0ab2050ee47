use Rattle.std.proofs.Common.{◌≡◌, ◌++◌, ◌∙◌, false, Err, sym, ap, fold}
use Rattle.std.proofs.lemmas.List.Sums.{fold-append}
use Rattle.feed_xml.specs.View.{piece_view}
use Rattle.feed_xml.proofs.DocumentLaws.{advance_more, never_completes}
use Rattle.feed_xml.proofs.FaultLaws.{place_tells}
use Rattle.feed_xml.proofs.document_reading.drain.Goals as goal

pub returns-in-Err-clause-fault : goal.returns-in-Err-clause-fault
returns-in-Err-clause-fault g c =
    let e = c.in-Err.ensures in
    place_tells g.S.Sink.after g.S.Sink.goes_on c.args.window.now c.reading.rest.now c.in-Ok.next.now c.reading.invariant.tokens (piece_view c.in-Ok.piece) c.args.place.now c.reading.place c.args.sink.now _ c.in-Err.fault c.reading.invariant.advances c.in-Ok.ensures.ok e.fault (λ is. e.malformed (ap (λ x. Err x) is)) (λ is. e.deep (ap (λ x. Err x) is)) (λ is. e.large (ap (λ x. Err x) is))

pub returns-in-Err-Never-clause-fault : goal.returns-in-Err-Never-clause-fault
returns-in-Err-Never-clause-fault g c =
    let never = rw c.in-Err-Never.field-0-is at c.in-Err-Never.ensures.err in
    never_completes c.args.window.now c.reading.rest.now c.reading.invariant.tokens c.args.place.now c.reading.place c.reading.invariant.advances never

pub reading-preserved : goal.reading-preserved
reading-preserved g c = record {
  tokens = c.reading.invariant.tokens ++ piece_view c.in-Ok.piece;
  advances = advance_more c.args.window.now c.reading.rest.now c.in-Ok.next.now c.reading.invariant.tokens (piece_view c.in-Ok.piece) c.args.place.now c.reading.place c.take_some.new.place c.reading.invariant.advances c.in-Ok.ensures.ok c.in-Ok-take_some.ensures.ok;
  sunk =
      c.in-Ok-true.ensures.taken ∙ ap (λ s. fold g.S.Sink.after s (piece_view c.in-Ok.piece)) c.reading.invariant.sunk
      ∙ sym (fold-append g.S.Sink.after c.args.sink.now c.reading.invariant.tokens (piece_view c.in-Ok.piece));
}

pub returns-in-Ok-false-clause-fault : goal.returns-in-Ok-false-clause-fault
returns-in-Ok-false-clause-fault g c =
    let is : c.in-Ok-false.field-0 ≡ false = cc c.in-Ok-false.field-0-test in (
      sym c.in-Ok-false.ensures.more ∙ is,
      (
        c.reading.invariant.tokens ++ piece_view c.in-Ok.piece,
        record {
          rest = c.in-Ok.next.now;
          place = c.take_some.new.place;
          leads = advance_more c.args.window.now c.reading.rest.now c.in-Ok.next.now c.reading.invariant.tokens (piece_view c.in-Ok.piece) c.args.place.now c.reading.place c.take_some.new.place c.reading.invariant.advances c.in-Ok.ensures.ok c.in-Ok-take_some.ensures.ok;
          meets = tt;
        },
        c.in-Ok-false.ensures.taken ∙ ap (λ s. fold g.S.Sink.after s (piece_view c.in-Ok.piece)) c.reading.invariant.sunk
            ∙ sym (fold-append g.S.Sink.after c.args.sink.now c.reading.invariant.tokens (piece_view c.in-Ok.piece)),
      ),
    )
