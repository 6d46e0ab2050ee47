use Rattle.std.proofs.Common.{[]}
use Rattle.feed_terms.specs.HeldBack.{is_held_back}
use Rattle.feed_terms.proofs.Without.{none_computed}
use Rattle.feed_terms.proofs.laws.nothing_by_no_terms.Goals as goal

pub returns : goal.returns
returns c = λ supplier closed given records. none_computed supplier (is_held_back [] supplier given closed) given records
