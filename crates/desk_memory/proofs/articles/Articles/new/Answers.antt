use Rattle.std.proofs.Common.{arith}
use Rattle.desk_memory.proofs.articles.Articles.new.Goals as goal

pub returns : goal.returns
returns c = record {
  count = 0;
  within = omega arith;
  next = omega arith;
  index = c.new.ensures;
}
