use Rattle.desk_tables.proofs.work.Work.put_articles.Goals as goal

pub returns : goal.returns
returns g c = c.insert_values.ensures c.args.rows.now c.article_values-values.ensures
