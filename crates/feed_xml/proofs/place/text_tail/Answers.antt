use Rattle.std.proofs.Common.{◌∙◌, sym, ap}
use Rattle.std.specs.Prelude.{option_map}
use Rattle.feed_xml.specs.declared.place.Tail.TheVariants.{Text}
use Rattle.feed_xml.proofs.PlaceLaws.{text_tail}
use Rattle.feed_xml.proofs.place.text_tail.Goals as goal

pub returns-in-Some : goal.returns-in-Some
returns-in-Some c = sym (text_tail c.args.count c.args.run.now ∙ ap (option_map (λ m. Text m)) (sym c.in-Some.ensures))

pub returns-in-None : goal.returns-in-None
returns-in-None c = sym (text_tail c.args.count c.args.run.now ∙ ap (option_map (λ m. Text m)) (sym c.in-None.ensures))
