use Rattle.std.proofs.lemmas.Str.{IsUtf8-from_ascii}
use Rattle.onix_terms.proofs.AsciiTexts.{ascii-fixed, capitals-ascii}
use Rattle.onix_terms.proofs.code.Country.from_letters.Goals as goal

pub invariant_of-result : goal.invariant_of-result
invariant_of-result c = (c.requires, IsUtf8-from_ascii _ (ascii-fixed _ capitals-ascii 2 _ c.requires))
