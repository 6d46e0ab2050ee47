use Rattle.std.proofs.Common.{drop, true, false, sym, ap, ◌∙◌}
use Rattle.std.proofs.lemmas.Str.Pattern.{starts_text}
use Rattle.desk_http.proofs.SegmentLemmas.{segment_there, segment_absent}
use Rattle.desk_http.proofs.routes.segment_behind.Goals as goal

pub returns-in-Some : goal.returns-in-Some
returns-in-Some c =
    let found = c.in-Some.ensures.cases in
    let starts = starts_text true c.args.front.now c.args.path.now (found.0, found.1, rw found.1.0 found.1.2) in
    c.cut.ensures.before ∙ segment_there c.args.front.now c.args.path.now c.in-Some.rest.now (sym starts) (found.2 ∙ ap (λ n. drop n c.args.path.now) found.1.0)

pub returns-in-None : goal.returns-in-None
returns-in-None c = segment_absent c.args.front.now c.args.path.now (sym (starts_text false c.args.front.now c.args.path.now c.in-None.ensures.cases))
