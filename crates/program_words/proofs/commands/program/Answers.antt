use Rattle.program_words.proofs.commands.program.Goals as goal

pub returns : goal.returns
returns c =
    let one = c.with_command-program.ensures _ _ c.with_options.ensures c.agreements.ensures in
    let two = c.with_command-program-2.ensures _ _ one c.batch.ensures in
    let three = c.with_command-program-3.ensures _ _ two c.check.ensures in
    let four = c.with_command-program-4.ensures _ _ three c.convert.ensures in
    let five = c.with_command-program-5.ensures _ _ four c.deliver.ensures in
    let six = c.with_command-program-6.ensures _ _ five c.export.ensures in
    let seven = c.with_command-program-7.ensures _ _ six c.gaps.ensures in
    let eight = c.with_command-program-8.ensures _ _ seven c.migrate.ensures in
    let nine = c.with_command-program-9.ensures _ _ eight c.rules_check.ensures in
    let ten = c.with_command-program-10.ensures _ _ nine c.serve.ensures in
    c.with_command.ensures _ _ ten c.terms_check.ensures
