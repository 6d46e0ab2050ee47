-- Countries behind others, each once.
use Rattle.std.proofs.Common.{◌≡◌, ℕ, List, [], ◌++◌, None, arith}
use Rattle.std.proofs.lemmas.Bool.Decides.{nat_tests}
use Rattle.std.proofs.lemmas.List.Sums.{fold-append}
use Rattle.feed_mapping.specs.Narrower.{each_once, excluded_then, with_country}
use Rattle.feed_mapping.specs.declared.narrower.Alike.{Alike}

pub each_behind : (found a b : List (List ℕ)) → each_once found (a ++ b) ≡ each_once (each_once found a) b
each_behind found a b = fold-append with_country found a b

-- where no Price goes before others, each of the world stands as it is
pub none_before : (alike : Alike) (own : List ℕ) → excluded_then [] alike own ≡ None
none_before alike own = grind (arith, nat_tests)
