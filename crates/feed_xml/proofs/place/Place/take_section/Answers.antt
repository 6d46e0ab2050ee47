use Rattle.std.proofs.Common.{◌∙◌, sym}
use Rattle.feed_xml.proofs.PlaceLaws.{stretch_elsewhere, stretch_ok, stretch_outside}
use Rattle.feed_xml.proofs.place.Place.take_section.Goals as goal

pub returns-then-is_outside-clause-malformed : goal.returns-then-is_outside-clause-malformed
returns-then-is_outside-clause-malformed c =
    stretch_outside c.args.self.now c.args.run.now c.if-run-eq0.false (sym c.is_outside.ensures ∙ c.if-is_outside.true)

pub returns-then-not-is_in_stretch-clause-malformed : goal.returns-then-not-is_in_stretch-clause-malformed
returns-then-not-is_in_stretch-clause-malformed c =
    stretch_elsewhere c.args.self.now c.args.run.now c.if-run-eq0.false (c.is_in_stretch.ensures.refused c.if-not-is_in_stretch.true)

pub returns-clause-ok : goal.returns-clause-ok
returns-clause-ok c =
    stretch_ok c.args.self.now c.args.run.now c.behind_text-self.result (sym c.is_outside.ensures ∙ c.if-is_outside.false)
    (c.is_in_stretch.ensures.held c.if-not-is_in_stretch.false) c.behind_text-self.ensures
