use Rattle.std.proofs.Common.{◌≡◌, ◌∙◌, ℕ, List, Option, Some, None, take, drop, length, ◌≤◌, sym, ap, subst, refl}
use Rattle.std.specs.Prelude.{IfSome}
use Rattle.std.proofs.lemmas.Result.{IfErr-weaker, err_from_is_err_and}
use Rattle.feed_xml.specs.private.Windows.{IsTold}
use Rattle.feed_xml.specs.EncodingNames.{encoding_at, IsTextOf, OfText}
use Rattle.feed_xml.specs.Faults.{Tells}
use Rattle.feed_xml.specs.private.Decoders.{text_left}
use Rattle.feed_xml.specs.private.Faults.{IsUnknown}
use Rattle.feed_xml.proofs.DocumentLaws.{ok_then}
use Rattle.feed_xml.proofs.FaultLaws.{by_reading, text_tells, unknown_tells}
use Rattle.feed_xml.proofs.HeadLaws.{of_text, is_text_of, mark_within}
use Rattle.feed_xml.proofs.TreeLaws.{document_of}
use Rattle.feed_xml.proofs.document_reading.read_document.Given.{Over}
use Rattle.feed_xml.proofs.document_reading.read_document.Goals.{After-read_encoded}
use Rattle.feed_xml.proofs.document_reading.read_document.Goals as goal

pub behind-requires : goal.behind-requires
behind-requires g c =
    mark_within c.in-Some.mark c.front.result.now c.deref.result.now c.deref-2.result.now c.in_ok-head.head.items c.front.ensures c.deref.ensures.value c.deref-2.ensures.value c.in-Some.ensures.within

module _ (g : Over) (c : After-read_encoded g) where
  abbrev before : Option (List ℕ)
  before = g.R.Read.remaining c.args.reader.now

  abbrev left : Option (List ℕ)
  left = g.R.Read.remaining c.read_head.new.reader

  abbrev head : List ℕ
  head = c.in_ok-head.head.items

  -- what the first bytes tell of the encoding
  found : encoding_at (take 1024 head) ≡ Some (c.in-Some.encoding, c.in-Some.mark)
  found = ap encoding_at (sym (c.front.ensures ∙ ap (take 1024) c.deref.ensures.value)) ∙ sym c.encoding_at.ensures.gives ∙ c.in-Some.is

  within : c.in-Some.mark ≤ length head
  within = mark_within c.in-Some.mark c.front.result.now c.deref.result.now head head c.front.ensures c.deref.ensures.value refl c.in-Some.ensures.within

  -- what is behind the mark
  shown : c.behind.result.now ≡ drop c.in-Some.mark head
  shown = c.behind.ensures ∙ ap (drop c.in-Some.mark) c.deref-2.ensures.value

  -- what is told of the text behind the mark is told of the text of all bytes
  of_all_bytes : (P : List ℕ → Type 0) → IfSome (text_left c.in-Some.encoding c.behind.result.now left) P → OfText P before
  of_all_bytes P is = of_text P before left head c.in-Some.encoding c.in-Some.mark c.in_ok-head.ensures.read c.in_ok-head.ensures.whole found within (subst (λ (l : List ℕ). IfSome (text_left c.in-Some.encoding l left) P) shown is)

  whole : (text : List ℕ) → IsTold (text_left c.in-Some.encoding c.behind.result.now left) text → IsTextOf before text
  whole text is = is_text_of before left head text c.in-Some.encoding c.in-Some.mark c.in_ok-head.ensures.read c.in_ok-head.ensures.whole found within (subst (λ (l : List ℕ). IsTold (text_left c.in-Some.encoding l left) text) shown is)

pub returns-clause-document : goal.returns-clause-document
returns-clause-document g c =
    let s = (goal.at.returns-clause-document g c).After-read_encoded in
    ok_then c.read_encoded.result c.read_encoded.ensures.document (λ d. (d.0, d.1, whole g s d.0 d.2, document_of d.0 d.1 d.3, d.4))

pub returns-clause-fault : goal.returns-clause-fault
returns-clause-fault g c =
    let s = (goal.at.returns-clause-fault g c).After-read_encoded in
    IfErr-weaker c.read_encoded.result _ _ (λ fault told. text_tells g.S.Sink.after g.S.Sink.goes_on _ (before g s) _ _ (of_all_bytes g s) fault told) c.read_encoded.ensures.fault

pub returns-in_err-head-clause-fault : goal.returns-in_err-head-clause-fault
returns-in_err-head-clause-fault g c =
    let p = err_from_is_err_and c.from_residual.result c.from_residual.ensures.1 in
    rw (p.1, p.2) (by_reading (Tells g.S.Sink.after (g.R.Read.remaining c.args.reader.now) c.args.sink.now c.args.sink.now g.S.Sink.goes_on) tt tt _ c.in_err-head.ensures.fault)

pub returns-in_default-clause-fault : goal.returns-in_default-clause-fault
returns-in_default-clause-fault g c =
    let none : encoding_at (take 1024 c.in_ok-head.head.items) ≡ None =
    ap encoding_at (sym (c.front.ensures ∙ ap (take 1024) c.deref.ensures.value)) ∙ sym c.encoding_at.ensures.gives ∙ c.in_default.is in
    let fault = c.unknown_encoding.result in
    let unknown : IsUnknown (take 1024 c.in_ok-head.head.items) fault =
    subst (λ (l : List ℕ). IsUnknown l fault) (c.front-in_default.ensures ∙ ap (take 1024) c.deref-in_default.ensures.value) c.unknown_encoding.ensures in
    unknown_tells g.S.Sink.after g.S.Sink.goes_on (g.R.Read.remaining c.args.reader.now) c.args.sink.now c.in_ok-head.head.items c.in_ok-head.ensures.whole none fault unknown
