use Rattle.program_words.proofs.commands.rules_check.Goals as goal

pub returns : goal.returns
returns c =
    c.with_word.ensures _ _ c.bare_command-rules.ensures c.needed_file-table.ensures
