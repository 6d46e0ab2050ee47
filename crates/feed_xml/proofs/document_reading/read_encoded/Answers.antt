use Rattle.std.proofs.Common.{◌≡◌, ◌++◌, ◌∙◌, ℕ, [], List, Option, sym, ap, fold, refl, arith}
use Rattle.std.proofs.lemmas.Result.{err_from_is_err_and}
use Rattle.std.proofs.lemmas.List.Sums.{fold-append}
use Rattle.feed_xml.specs.declared.texts.Part.TheVariants.{Whole}
use Rattle.feed_xml.specs.Encodings.{decoded}
use Rattle.feed_xml.specs.Grammar.{Token}
use Rattle.feed_xml.specs.Pieces.{HasNoToken}
use Rattle.feed_xml.specs.private.Faults.{TellsText}
use Rattle.feed_xml.specs.private.Places.{section_of}
use Rattle.feed_xml.specs.private.Decoders.{decoded_rest, text_left}
use Rattle.feed_xml.proofs.DocumentLaws.{a_none, ok_then}
use Rattle.feed_xml.proofs.EncodingLaws.{begun}
use Rattle.feed_xml.proofs.FaultLaws.{by_reading, end_tells, window_tells}
use Rattle.feed_xml.proofs.LimitLaws.{long_window}
use Rattle.feed_xml.proofs.ReadingLaws.{State, at_first, reads_on, small_part, hands_on, is_garbled, too_long, reads_on_at, ends_whole, ends_cut, ends_half}
use Rattle.feed_xml.proofs.document_reading.read_encoded.Given.{Over}
use Rattle.feed_xml.proofs.document_reading.read_encoded.Goals.{In_ok-drop_front}
use Rattle.feed_xml.proofs.document_reading.read_encoded.Goals as goal

pub loop-init : goal.loop-init
loop-init g c =
    let told = text_left c.args.encoding c.args.head.now (g.R.Read.remaining c.args.reader.now) in
    let b = begun c.args.encoding c.args.head.now (g.R.Read.remaining c.args.reader.now) in
    record {
      tokens = [];
      state = reads_on told told _ [] _ [] c.first-place.result Whole (decoded c.args.encoding c.args.head.now) _ (at_first told c.first-place.result c.first-place.ensures) b c.in_ok-begun.ensures.grows;
      small = small_part [] _ (decoded c.args.encoding c.args.head.now) Whole _ c.in_ok-begun.ensures.grows;
      sunk = refl;
      room = omega (arith, c.in_ok-chunk.ensures.size, c.in_ok-chunk.chunk.ok.0);
    }

-- a fault of reading
pub returns-in_err-begun-clause-fault : goal.returns-in_err-begun-clause-fault
returns-in_err-begun-clause-fault g c =
    let p = err_from_is_err_and c.from_residual.result c.from_residual.ensures.1 in
    rw (p.1, p.2) (by_reading (TellsText g.S.Sink.after g.S.Sink.goes_on (text_left c.args.encoding c.args.head.now (g.R.Read.remaining c.args.reader.now)) c.args.sink.now c.args.sink.now) tt tt _ c.in_err-begun.ensures.fault)

pub returns-in_err-chunk-clause-fault : goal.returns-in_err-chunk-clause-fault
returns-in_err-chunk-clause-fault g c =
    let p = err_from_is_err_and c.from_residual-in_err-chunk.result c.from_residual-in_err-chunk.ensures.1 in
    rw (p.1, p.2) (by_reading (TellsText g.S.Sink.after g.S.Sink.goes_on (text_left c.args.encoding c.args.head.now (g.R.Read.remaining c.args.reader.now)) c.args.sink.now c.args.sink.now) tt tt _ c.in_err-chunk.ensures.fault)

pub returns-in_err-drop_front-clause-fault : goal.returns-in_err-drop_front-clause-fault
returns-in_err-drop_front-clause-fault g c =
    let p = err_from_is_err_and c.from_residual-in_err-drop_front.result c.from_residual-in_err-drop_front.ensures.1 in
    rw (p.1, p.2) (by_reading (TellsText g.S.Sink.after g.S.Sink.goes_on (text_left c.args.encoding c.args.head.now (g.R.Read.remaining c.args.reader.now)) c.args.sink.now c.drain.new.sink) tt tt _ c.in_err-drop_front.ensures.fault)

pub returns-in_err-more-clause-fault : goal.returns-in_err-more-clause-fault
returns-in_err-more-clause-fault g c =
    let p = err_from_is_err_and c.from_residual-in_err-more.result c.from_residual-in_err-more.ensures.1 in
    rw (p.1, p.2) (by_reading (TellsText g.S.Sink.after g.S.Sink.goes_on (text_left c.args.encoding c.args.head.now (g.R.Read.remaining c.args.reader.now)) c.args.sink.now c.drain.new.sink) tt tt _ c.in_err-more.ensures.fault)

-- a fault of the window
pub returns-in_err-count-clause-fault : goal.returns-in_err-count-clause-fault
returns-in_err-count-clause-fault g c =
    let p = err_from_is_err_and c.from_residual-in_err-count.result c.from_residual-in_err-count.ensures.1 in
    rw (p.1, p.2)
    (window_tells g.S.Sink.after g.S.Sink.goes_on _ _ c.loop.window.items c.deref.result.now c.loop.invariant.tokens c.loop.place c.loop.part c.args.sink.now c.loop.sink _ _ c.loop.invariant.state c.deref.ensures.value c.loop.invariant.sunk c.in_err-count.ensures.fault)

-- what stands once the whole tokens of the window were handed on
module _ (g : Over) (c : In_ok-drop_front g) where
  abbrev told : Option (List ℕ)
  told = text_left c.args.encoding c.args.head.now (g.R.Read.remaining c.args.reader.now)

  abbrev left : Option (List ℕ)
  left = decoded_rest c.args.encoding (g.R.Read.remaining c.loop.reader)

  abbrev tokens : List Token
  tokens = c.loop.invariant.tokens ++ c.in_ok-count.ensures.whole.0

  abbrev window : List ℕ
  window = c.drop_front.new.bytes.items

  state : State told left window tokens c.drain.new.place c.loop.part
  state =
      let w = c.in_ok-count.ensures.whole in
      hands_on told left c.loop.window.items c.deref.result.now window c.in_ok-count.count c.loop.invariant.tokens w.0 c.loop.place c.drain.new.place c.loop.part
      c.loop.invariant.state c.deref.ensures.value w.1 c.in_ok-drop_front.ensures.rest

  sunk : c.drain.new.sink ≡ fold g.S.Sink.after c.args.sink.now tokens
  sunk =
      let w = c.in_ok-count.ensures.whole in
      w.2 ∙ ap (λ s. fold g.S.Sink.after s w.0) c.loop.invariant.sunk ∙ sym (fold-append g.S.Sink.after c.args.sink.now c.loop.invariant.tokens w.0)

  -- no token is whole in what is left
  none_left : HasNoToken (section_of c.drain.new.place.tail) window
  none_left = a_none (section_of c.drain.new.place.tail) c.loop.window.items c.deref.result.now window c.in_ok-count.count c.deref.ensures.value c.in_ok-drop_front.ensures.rest c.in_ok-count.ensures.no_more

pub returns-in_default-clause-fault : goal.returns-in_default-clause-fault
returns-in_default-clause-fault g c =
    let s = (goal.at.returns-in_default-clause-fault g c).In_ok-drop_front in
    is_garbled (told g s) (left g s) (window g s) (tokens g s) c.drain.new.place c.loop.part c.in_default.is (state g s)

pub returns-then-len-gt-MOST_WAITING-clause-fault : goal.returns-then-len-gt-MOST_WAITING-clause-fault
returns-then-len-gt-MOST_WAITING-clause-fault g c =
    let s = (goal.at.returns-then-len-gt-MOST_WAITING-clause-fault g c).In_ok-drop_front in
    let is_long = long_window c.drain.new.place (window g s) (omega (arith, c.if-len-gt-MOST_WAITING.true, c.len.ensures, c.drop_front.new.bytes.ok.0)) (none_left g s) in
    (tokens g s, too_long (told g s) (left g s) (window g s) (tokens g s) c.drain.new.place c.loop.part (state g s) is_long)

pub returns-in-Some-next-clause-document : goal.returns-in-Some-next-clause-document
returns-in-Some-next-clause-document g c =
    let s = (goal.at.returns-in-Some-next-clause-document g c).In_ok-drop_front in
    let later = decoded_rest c.args.encoding (g.R.Read.remaining c.refill.new.reader) in
    let r = c.in_ok-more.ensures.read in
    ok_then c.end_of.result c.end_of.ensures.ok (λ whole.
    let d = ends_whole (told g s) (left g s) later (window g s) c.refill.new.window.items c.deref-in-Some-next.result.now (tokens g s) c.drain.new.place c.loop.part c.in-Some.at r.0 c.in_ok-more.next c.in-Some-next.last (state g s) c.in-Some.is r.2 r.1 c.in-Some-next.is (c.in_ok-more.ensures.end c.if-not-more.true) c.deref-in-Some-next.ensures.value whole in
    (d.0, tokens g s, d.1, d.2, sunk g s))

pub returns-in-Some-next-clause-fault : goal.returns-in-Some-next-clause-fault
returns-in-Some-next-clause-fault g c =
    let s = (goal.at.returns-in-Some-next-clause-fault g c).In_ok-drop_front in
    let later = decoded_rest c.args.encoding (g.R.Read.remaining c.refill.new.reader) in
    let r = c.in_ok-more.ensures.read in
    let place = c.drain.new.place in
    let next = c.in_ok-more.next in
    let after = c.refill.new.window.items in
    let at_end = c.in_ok-more.ensures.end c.if-not-more.true in
    let added = r.3 c.if-not-more.true in
    let e = c.end_of.ensures in
    end_tells _ c.end_of.result e.fault e.malformed e.garbled
    (λ cut.
    ends_cut (told g s) (left g s) later (window g s) after c.deref-in-Some-next.result.now (tokens g s) place c.loop.part c.in-Some.at r.0 next c.in-Some-next.last (state g s) c.in-Some.is r.2 r.1 c.in-Some-next.is at_end c.deref-in-Some-next.ensures.value added (none_left g s) cut)
    (λ half.
    ends_half (told g s) (left g s) later (window g s) after (tokens g s) place c.loop.part c.in-Some.at r.0 next c.in-Some-next.last (state g s) c.in-Some.is r.2 r.1 c.in-Some-next.is at_end added half)

pub loop-preserved : goal.loop-preserved
loop-preserved g c =
    let s = (goal.at.loop-preserved g c).In_ok-drop_front in
    let later = decoded_rest c.args.encoding (g.R.Read.remaining c.refill.new.reader) in
    let r = c.in_ok-more.ensures.read in
    record {
      tokens = tokens g s;
      state = reads_on_at (told g s) (left g s) later (window g s) c.refill.new.window.items (tokens g s) c.drain.new.place c.loop.part c.in-Some.at r.0 c.in_ok-more.next (state g s) c.in-Some.is r.2 r.1;
      small = small_part (window g s) c.refill.new.window.items r.0 c.in-Some.at c.in_ok-more.next r.1;
      sunk = sunk g s;
      room = omega (arith, c.in_ok-more.ensures.size);
    }
