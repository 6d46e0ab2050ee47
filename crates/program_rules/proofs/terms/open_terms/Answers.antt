use Rattle.program_rules.proofs.terms.open_terms.Goals as goal

pub returns-in-Err-clause-err : goal.returns-in-Err-clause-err
returns-in-Err-clause-err g c =
    let read = c.in-Err.ensures.err in
    let told = c.report_unread.ensures read.0 read.2 in
    (told.0, (read.0, read.1, told.1), told.2)
