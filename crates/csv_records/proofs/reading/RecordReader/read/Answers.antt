use Rattle.std.proofs.Common.{refl}
use Rattle.csv.specs.Records.{fields_of}
use Rattle.csv_records.proofs.LeftFacts.{read-ended, read-found}
use Rattle.csv_records.proofs.reading.RecordReader.read.Goals as goal

pub invariant_of-self-then-found : goal.invariant_of-self-then-found
invariant_of-self-then-found c =
    let h = rw c.in-Reading.is at c.self.invariant in
    let r = rw c.if-found.true at (c.in-Ok.ensures.reads h.trim h.ready) in
    rw c.in-Reading.is (read-found c.self.inside.rdr c.read_record.new.self (fields_of c.read_record.new.row) h r (c.in-Ok.ensures.ready h.trim)).0

pub returns-then-found-clause-found : goal.returns-then-found-clause-found
returns-then-found-clause-found c =
    let h = rw c.in-Reading.is at c.self.invariant in
    let r = rw c.if-found.true at (c.in-Ok.ensures.reads h.trim h.ready) in
    let taken = read-found c.self.inside.rdr c.read_record.new.self (fields_of c.read_record.new.row) h r (c.in-Ok.ensures.ready h.trim) in
    λ e. rw (← c.self.view_is, c.in-Reading.is) taken.1

pub returns-clause-ended : goal.returns-clause-ended
returns-clause-ended c =
    let h = rw c.in-Reading.is at c.self.invariant in
    let r = rw c.if-found.false at (c.in-Ok.ensures.reads h.trim h.ready) in
    let none = read-ended c.self.inside.rdr c.read_record.new.self (fields_of c.read_record.new.row) h r in
    λ e. (rw (← c.self.view_is, c.in-Reading.is) none, refl)
