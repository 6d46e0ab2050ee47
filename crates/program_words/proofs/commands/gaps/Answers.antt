use Rattle.program_words.proofs.commands.gaps.Goals as goal

pub returns : goal.returns
returns c =
    c.with_word.ensures _ _ c.bare_command-gaps.ensures c.operand-series.ensures
