use Rattle.std.proofs.Common.{ap, fold, rules, ◌∙◌}
use Rattle.desk_catalogue.proofs.DoesLemmas.{called, did_also}
use Rattle.desk_rows.proofs.QuestionRows.{article_offers}
use Rattle.desk_rows.proofs.Transactions.{told}
use Rattle.desk_rows.proofs.questions.collect_offers.Goals as goal

pub returns : goal.returns
returns g c =
    let collected = fold g.C.OfferCollector.collected c.args.collector in
    told c.args.tables.now c.drop-work.new.self.0 c.tables-2-1.given.0 (search rules) c.in_ok-work.ensures.begun
    (did_also (called c.collect_offers.ensures)
    (λ rows now got one. (one.1, λ L stands. one.0.2 ∙ ap collected ((article_offers c.args.isbn.now rows now one.0.0 one.1 one.0.1).1 L stands)))) c.drop-work.ensures
