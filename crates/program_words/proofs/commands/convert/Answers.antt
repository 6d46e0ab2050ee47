use Rattle.program_words.proofs.commands.convert.Goals as goal

pub returns : goal.returns
returns c =
    let one = c.with_word-convert.ensures _ _ c.bare_command-convert.ensures c.parts.ensures in
    let two = c.with_word-convert-2.ensures _ _ one c.number.ensures in
    let three = c.with_word-convert-3.ensures _ _ two c.number_offset.ensures in
    let four = c.with_word-convert-4.ensures _ _ three c.sender.ensures in
    let five = c.with_word-convert-5.ensures _ _ four c.addressee.ensures in
    let six = c.with_word-convert-6.ensures _ _ five c.supplier.ensures in
    let seven = c.with_word-convert-7.ensures _ _ six c.id_type.ensures in
    let eight = c.with_word-convert-8.ensures _ _ seven c.wrong.ensures in
    let nine = c.with_word-convert-9.ensures _ _ eight c.terms.ensures in
    let ten = c.with_word-convert-10.ensures _ _ nine c.folder.ensures in
    c.with_word.ensures _ _ ten c.feeds.ensures
