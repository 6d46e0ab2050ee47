use Rattle.std.proofs.Common.{length, map}
use Rattle.onix_records.specs.Product.{pairs_of}
use Rattle.onix_records.proofs.Pairs.{Completes}
use Rattle.onix_records.proofs.product.read_pairs.Given as goal

abbrev pub invariant-loop-rest : goal.invariant-loop-rest
invariant-loop-rest l = Completes (map (λ f. f.now) l.rest) l.ids (pairs_of (map (λ f. f.now) l.fields))

abbrev pub decreases-loop-rest : goal.decreases-loop-rest
decreases-loop-rest l = length l.rest
