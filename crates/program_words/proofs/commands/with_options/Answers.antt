use Rattle.program_words.proofs.commands.with_options.Goals as goal

pub returns : goal.returns
returns c =
    let one = c.with_word-program.ensures _ _ c.named.ensures c.db.ensures in
    let two = c.with_word-program-2.ensures _ _ one c.existing.ensures in
    let three = c.with_word-program-3.ensures _ _ two c.rules.ensures in
    c.with_word.ensures _ _ three c.batches.ensures
