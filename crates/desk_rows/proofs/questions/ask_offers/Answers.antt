use Rattle.std.proofs.Common.{rules}
use Rattle.desk_catalogue.proofs.DoesLemmas.{called, did_also}
use Rattle.desk_rows.proofs.QuestionRows.{article_offers}
use Rattle.desk_rows.proofs.Transactions.{told}
use Rattle.desk_rows.proofs.questions.ask_offers.Goals as goal

pub returns : goal.returns
returns g c =
    told c.args.tables.now c.drop-work.new.self.0 c.tables-2-1.given.0 (search rules) c.in_ok-work.ensures.begun
    (did_also (called c.offers_by_article.ensures) (λ rows now offers one. article_offers c.args.isbn.now rows now offers one.1 one.0)) c.drop-work.ensures
