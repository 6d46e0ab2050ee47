use Rattle.std.proofs.Common.{◌≡◌, ap, ◌∙◌, List, ℕ, length, length-append, arith, get_or}
use Rattle.feed_outline.specs.Views.{line_view, tag_view}
use Rattle.feed_outline.specs.declared.line.Line.{Line}
use Rattle.feed_outline.specs.Outline.{line}
use Rattle.feed_xml.specs.Grammar.{is_filled}
use Rattle.feed_outline.specs.private.Growing.{words, longer}
use Rattle.feed_outline.proofs.GrowerLaws.{past_lines, set_line, set_size}
use Rattle.feed_outline.proofs.grower.append.Goals as goal

pub returns-then-at-len-clause-lines : goal.returns-then-at-len-clause-lines
returns-then-at-len-clause-lines c =
    past_lines (longer c.args.waits c.args.text.now) c.args.at c.args.lines.now.items (omega (arith, c.if-at-len.true, c.len.ensures, c.args.lines.now.ok.0))

pub returns-in-Some-clause-lines : goal.returns-in-Some-clause-lines
returns-in-Some-clause-lines c =
    let l = line_view c.index_mut-line.result.now in
    let told = λ (t : List ℕ). line l.depth l.name l.tag t in
    let w = c.args.waits in
    let text = c.args.text.now in
    set_line (longer w text) c.args.lines.now.items c.args.at _ c.index_mut-line.result.now (omega (arith, c.if-at-len.false, c.len.ensures, c.args.lines.now.ok.0))
    (ap told c.in_ok-push_words.ensures ∙ ap (λ (k : Line). longer w text (line_view k)) c.index_mut-line.ensures.value)

pub returns-in-Some-clause-size : goal.returns-in-Some-clause-size
returns-in-Some-clause-size c =
    let new : Line = record c.index_mut-line.result.now { text = c.push_words.new.out } in
    let size = set_size c.args.lines.now.items c.args.at new c.index_mut-line.result.now (omega (arith, c.if-at-len.false, c.len.ensures, c.args.lines.now.ok.0)) (ap tag_view c.index_mut-line.ensures.value) in
    let old : length c.index_mut-line.result.now.text.items ≡ length (get_or c.args.lines.now.items c.args.at c.index_mut-line.result.now).text.items =
    ap (λ (k : Line). length k.text.items) c.index_mut-line.ensures.value in
    let text = c.index_mut-line.result.now.text.items in
    let more = ap length c.in_ok-push_words.ensures ∙ length-append text (words (is_filled text) c.args.waits c.args.text.now) in
    omega (arith, size, old, more, c.in-Some.ensures, c.requires, c.len-before.ensures, c.len-2.ensures, c.index_mut-line.result.now.text.ok.0, c.push_words.new.out.ok.0)
