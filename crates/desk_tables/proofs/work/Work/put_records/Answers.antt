use Rattle.desk_tables.proofs.work.Work.put_records.Goals as goal

pub returns : goal.returns
returns g c = c.insert_values.ensures c.args.rows.now c.record_values-values.ensures
