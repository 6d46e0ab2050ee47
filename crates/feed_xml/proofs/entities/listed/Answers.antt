use Rattle.std.proofs.Common.{◌∙◌, sym}
use Rattle.feed_xml.proofs.EntityLaws.{found_here, found_past, never_found}
use Rattle.feed_xml.proofs.entities.listed.Goals as goal

pub returns-in-Ok : goal.returns-in-Ok
returns-in-Ok c =
    c.word.ensures ∙ sym (found_here c.args.name.now c.loop-rest.rest.now c.in-Ok.text.now c.in-Ok.ensures) ∙ c.loop-rest.invariant

pub loop-rest-preserved : goal.loop-rest-preserved
loop-rest-preserved c =
    found_past c.args.name.now c.loop-rest.rest.now c.in_default-past_reference.field-0 c.in-len1-up.len_at_least c.in_default-past_reference.ensures
    ∙ c.loop-rest.invariant

pub returns : goal.returns
returns c = sym (never_found c.args.name.now c.loop-rest.rest.now c.in_default.len_below) ∙ c.loop-rest.invariant
