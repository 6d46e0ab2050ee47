use Rattle.feed_terms.specs.HeldBack.{is_held_back}
use Rattle.feed_terms.proofs.Without.{less_computed}
use Rattle.feed_terms.proofs.laws.less_computed_is_without.Goals as goal

pub returns : goal.returns
returns c = λ terms supplier closed given records. less_computed supplier (is_held_back terms supplier given closed) terms given records
