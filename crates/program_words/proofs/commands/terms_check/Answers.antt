use Rattle.program_words.proofs.commands.terms_check.Goals as goal

pub returns : goal.returns
returns c =
    c.with_word.ensures _ _ c.bare_command-terms.ensures c.needed_file-table.ensures
