use Rattle.std.proofs.Common.{◌∙◌, sym}
use Rattle.feed_xml.proofs.NestingLaws.{inside_text, outside_space, outside_text}
use Rattle.feed_xml.proofs.nesting.Nesting.take_text.Goals as goal

pub returns-then-all_pass-clause-ok : goal.returns-then-all_pass-clause-ok
returns-then-all_pass-clause-ok c = outside_space c.args.self.now c.args.run.now (sym c.all_pass.ensures ∙ c.if-all_pass.true)

pub returns-else-all_pass-clause-malformed : goal.returns-else-all_pass-clause-malformed
returns-else-all_pass-clause-malformed c = λ _. outside_text c.args.self.now c.args.run.now (sym c.is_nothing.ensures ∙ c.if-is_nothing.true) (sym c.all_pass.ensures ∙ c.if-all_pass.false)

pub returns-else-is_nothing-clause-ok : goal.returns-else-is_nothing-clause-ok
returns-else-is_nothing-clause-ok c = inside_text c.args.self.now c.args.run.now (sym c.is_nothing.ensures ∙ c.if-is_nothing.false)
