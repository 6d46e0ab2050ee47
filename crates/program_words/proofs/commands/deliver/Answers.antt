use Rattle.program_words.proofs.commands.deliver.Goals as goal

pub returns : goal.returns
returns c =
    c.with_word.ensures _ _ c.bare_command-deliver.ensures c.needed_files-messages.ensures
