use Rattle.std.proofs.Common.{◌≡◌, true, map}
use Rattle.feed_mapping.proofs.IsbnLaws.{thirteen-written}
use Rattle.feed_mapping.specs.Products.{digit_byte, is_thirteen, without_marks}
use Rattle.feed_mapping.proofs.products.thirteen_of.Goals as goal

pub returns-then-are_thirteen : goal.returns-then-are_thirteen
returns-then-are_thirteen c =
    let cs = c.in_ok-characters.characters.items in
    let value = c.args.value.now in
    let marks : cs ≡ without_marks value = cc (c.in_ok-characters.ensures, c.in-Some.ensures.text) in
    let thirteen : is_thirteen cs ≡ true = cc (c.deref.ensures.value, c.are_thirteen.ensures, c.if-are_thirteen.true) in
    let bytes : map digit_byte cs ≡ c.in_ok-bytes_of.field-0.items = cc (c.deref-then-are_thirteen.ensures.value, c.in_ok-bytes_of.ensures) in
    let written = thirteen-written value cs c.in-Some.ensures.utf8 marks thirteen in
    cc (written, bytes)
