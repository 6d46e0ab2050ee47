use Rattle.program_words.proofs.commands.check.Goals as goal

pub returns : goal.returns
returns c =
    c.with_word.ensures _ _ c.bare_command-check.ensures c.needed_files-texts.ensures
