use Rattle.std.proofs.lemmas.Bool.{and_parts}
use Rattle.std.proofs.lemmas.Str.{IsUtf8-from_ascii}
use Rattle.onix_terms.proofs.AsciiTexts.{ascii-all, names-ascii}
use Rattle.onix_terms.proofs.series_name.SeriesName.as_str.Goals as goal

pub text_of-requires : goal.text_of-requires
text_of-requires c = IsUtf8-from_ascii _ (ascii-all _ names-ascii _ (and_parts _ _ c.self.invariant.2).1)
