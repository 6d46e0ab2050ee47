use Rattle.std.proofs.Common.{◌∙◌, sym}
use Rattle.feed_xml.proofs.CharacterLaws.{ascii_name}
use Rattle.feed_xml.proofs.classes.have_name_chars.Goals as goal

pub returns-then-all_pass : goal.returns-then-all_pass
returns-then-all_pass c =
    c.if-all_pass.true ∙ sym (ascii_name c.args.bytes.now (sym c.all_pass.ensures ∙ c.if-all_pass.true) c.requires.begins c.requires.all)
