use Rattle.std.proofs.Common.{◌-◌, ◌∙◌, arith}
use Rattle.csv_records.proofs.CutFacts.{length-part, slice_get-part}
use Rattle.csv_records.proofs.record.Record.at.Goals as goal

pub overflow_add-self-inside : goal.overflow_add-self-inside
overflow_add-self-inside c =
    let n = length-part c.self.inside.start (c.self.inside.end - c.self.inside.start) c.self.inside.fields.now (omega arith) in
    let lt = rw n at (rw (← c.self.view_is) at c.requires) in
    omega arith

pub at-requires : goal.at-requires
at-requires c =
    let n = length-part c.self.inside.start (c.self.inside.end - c.self.inside.start) c.self.inside.fields.now (omega arith) in
    let lt = rw n at (rw (← c.self.view_is) at c.requires) in
    omega arith

pub returns : goal.returns
returns c =
    let n = length-part c.self.inside.start (c.self.inside.end - c.self.inside.start) c.self.inside.fields.now (omega arith) in
    let lt = rw n at (rw (← c.self.view_is) at c.requires) in
    rw (← c.self.view_is) (slice_get-part _ _ c.args.index _ lt ∙ c.at.ensures)
