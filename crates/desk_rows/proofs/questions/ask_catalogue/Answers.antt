use Rattle.std.proofs.Common.{rules}
use Rattle.desk_rows.proofs.Transactions.{told}
use Rattle.desk_rows.proofs.questions.ask_catalogue.Goals as goal

pub returns : goal.returns
returns g c = told c.args.tables.now c.drop-work.new.self.0 c.tables-2-1.given.0 (search rules) c.in_ok-work.ensures.begun c.catalogue_in.ensures c.drop-work.ensures
