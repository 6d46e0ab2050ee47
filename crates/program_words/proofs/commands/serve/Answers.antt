use Rattle.program_words.proofs.commands.serve.Goals as goal

pub returns : goal.returns
returns c =
    let one = c.with_word-serve.ensures _ _ c.bare_command-serve.ensures c.port.ensures in
    let two = c.with_word-serve-2.ensures _ _ one c.socket.ensures in
    c.with_word.ensures _ _ two c.requests.ensures
