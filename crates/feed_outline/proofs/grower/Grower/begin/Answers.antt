use Rattle.std.proofs.Common.{◌≡◌, ℕ, List, [], ap, ◌∙◌, arith}
use Rattle.feed_outline.specs.declared.line.Line.{Line}
use Rattle.feed_outline.specs.Sizes.{element_size, lines_size}
use Rattle.feed_outline.specs.Views.{line_views, tag_view}
use Rattle.feed_outline.proofs.GrowerLaws.{pushed_size}
use Rattle.feed_outline.proofs.grower.Grower.begin.Goals as goal

pub invariant_of-self-2 : goal.invariant_of-self-2
invariant_of-self-2 c =
    let l : Line = record { depth = c.len.result; name = c.args.name; place = c.args.place; format = c.args.format; text = c.new.result; called = c.args.called } in
    let more = ap (λ (ls : List Line). lines_size (line_views ls)) c.in_ok-push-2.ensures.items in
    let bare : element_size (tag_view l) c.new.result.items ≡ element_size (tag_view l) [] = ap (λ (t : List ℕ). element_size (tag_view l) t) c.new.ensures.items in
    omega (arith, more ∙ pushed_size c.self.inside.lines.items l, c.in_ok-size.ensures, c.self.invariant, bare)
