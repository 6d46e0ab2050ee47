use Rattle.std.proofs.Common.{[]}
use Rattle.onix_records.proofs.Pairs.{pairs-end, pairs-more, pairs-odd}
use Rattle.onix_records.proofs.product.read_pairs.Goals as goal

pub loop-rest-preserved : goal.loop-rest-preserved
loop-rest-preserved c = pairs-more (λ f. f.now) (record { ref_ptr = (0, 0); now = [] }) c.loop-rest.rest.now c.loop-rest.ids _ _ _ c.in-len2-up.len_at_least c.in_ok-read_identifier.ensures c.in_ok-push.ensures.ok c.loop-rest.invariant

pub returns-then-not-is_empty : goal.returns-then-not-is_empty
returns-then-not-is_empty c = pairs-odd (λ f. f.now) c.loop-rest.rest.now c.loop-rest.ids _ c.in_default.len_below c.if-not-is_empty.ensures c.loop-rest.invariant

pub returns : goal.returns
returns c = pairs-end (λ f. f.now) c.loop-rest.rest.now c.loop-rest.ids _ c.if-not-is_empty.ensures c.loop-rest.invariant
