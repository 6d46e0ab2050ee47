use Rattle.std.proofs.Common.{sym}
use Rattle.feed_xml.proofs.PlaceLaws.{text_ok}
use Rattle.feed_xml.proofs.place.Place.take_text.Goals as goal

pub returns-in_ok-take_text-in-Some-clause-ok : goal.returns-in_ok-take_text-in-Some-clause-ok
returns-in_ok-take_text-in-Some-clause-ok c =
    text_ok c.args.self.now c.args.run.now c.take_text.new.self c.in-Some.tail c.behind_text-self.result c.in_ok-take_text-in-Some.ensures.ok
    (sym c.in-Some.ensures) c.behind_text-self.ensures
