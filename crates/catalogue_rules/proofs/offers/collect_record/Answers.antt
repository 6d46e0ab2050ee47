use Rattle.catalogue_rules.proofs.offers.collect_record.Goals as goal

pub returns-in_ok-collect_entry : goal.returns-in_ok-collect_entry
returns-in_ok-collect_entry g c = rw (← c.if-has_article.ensures) c.in_ok-collect_entry.ensures
