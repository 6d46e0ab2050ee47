use Rattle.std.proofs.Common.{rules}
use Rattle.onix_records.proofs.term.read_term.Goals as goal

pub returns-in_err-parse : goal.returns-in_err-parse
returns-in_err-parse g c = (c.parse.result, c.parse.ensures.value, search rules)
