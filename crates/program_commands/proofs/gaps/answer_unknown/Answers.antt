use Rattle.std.proofs.Common.{[], refl, subst, ◌∙◌}
use Rattle.std.proofs.KnownBytes.{Appends-nil}
use Rattle.std.specs.Io.KnownBytes.{Appends}
use Rattle.series_rules.specs.declared.answers.Answer.TheVariants.{UnknownSeries}
use Rattle.desk_texts.specs.AnswerText.{text_of}
use Rattle.program_commands.proofs.gaps.answer_unknown.Goals as goal

pub returns-in-Ok-write_whole : goal.returns-in-Ok-write_whole
returns-in-Ok-write_whole g c =
    (refl, subst (Appends (g.W.Write.contents c.args.writer.now) (g.W.Write.contents c.write_whole.new.writer)) (c.as_bytes.ensures.value ∙ c.in-Ok.ensures) c.in-Ok-write_whole.ensures.ok)

pub returns-in_default : goal.returns-in_default
returns-in_default g c = ([], text_of UnknownSeries, refl, Appends-nil (g.W.Write.contents c.args.writer.now))
