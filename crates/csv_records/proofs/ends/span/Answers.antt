use Rattle.std.proofs.Common.{◌∙◌, sym}
use Rattle.csv_records.proofs.CutFacts.{end_before-next}
use Rattle.csv_records.proofs.ends.span.Goals as goal

pub returns-clause-end : goal.returns-clause-end
returns-clause-end c = c.index.ensures ∙ sym (end_before-next 0 c.args.ends.now.items c.args.index c.index.result.now c.requires)
