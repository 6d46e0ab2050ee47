use Rattle.std.proofs.Common.{◌≡◌, ◌+◌, ℕ, List, length}
use Rattle.std.specs.BTreeMap.{get}
use Rattle.std.specs.Ordering.{nat_cmp}
use Rattle.desk_memory.specs.Listed.{IsListed}
use Rattle.series_rules.specs.Series.{BeginsWith}
use Rattle.series_rules.specs.declared.requests.Standing.{Standing}
use Rattle.desk_memory.proofs.articles.Articles.go_on.Given as goal

abbrev pub invariant-loop-next : goal.invariant-loop-next
invariant-loop-next l = record {
  next : l.self.next ≡ l.next;
  listed : (from : ℕ) (hs : List Standing) → BeginsWith (get nat_cmp l.numbers) from hs → l.until ≡ from + length hs → IsListed from hs l.fn.self → IsListed from hs l.self;
}
