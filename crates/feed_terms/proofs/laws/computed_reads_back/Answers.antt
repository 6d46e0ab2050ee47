use Rattle.feed_terms.proofs.ReadBack.{price-back}
use Rattle.feed_terms.proofs.Writable.{table-codes, written-writable}
use Rattle.feed_terms.proofs.laws.computed_reads_back.Goals as goal

pub returns-clause-codes : goal.returns-clause-codes
returns-clause-codes c = table-codes

pub returns-clause-writable : goal.returns-clause-writable
returns-clause-writable c = written-writable

pub returns-clause-read : goal.returns-clause-read
returns-clause-read c = price-back
