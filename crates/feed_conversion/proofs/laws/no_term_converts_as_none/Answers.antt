use Rattle.feed_conversion.proofs.NoTermLaws.{conversion-same}
use Rattle.feed_conversion.proofs.laws.no_term_converts_as_none.Goals as goal

pub returns : goal.returns
returns c = conversion-same c.nothing_by_no_terms.ensures
