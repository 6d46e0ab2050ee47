use Rattle.std.proofs.Common.{arith, refl}
use Rattle.desk_memory.proofs.Listing.{listed_as_before, listed_more}
use Rattle.desk_memory.proofs.articles.Articles.list.Goals as goal

pub returns-clause-listed : goal.returns-clause-listed
returns-clause-listed c = λ from hs is there.
    listed_more from c.args.number hs c.args.standing.now c.args.self.now _ is c.requires there (omega arith) (λ m index. c.in_ok-list_standing.ensures.ok m index)

pub returns-in_err-list_standing-clause-listed : goal.returns-in_err-list_standing-clause-listed
returns-in_err-list_standing-clause-listed c = λ from hs is there.
    listed_as_before from hs c.args.self.now _ is refl (λ m index. c.in_err-list_standing.ensures.err m index)
