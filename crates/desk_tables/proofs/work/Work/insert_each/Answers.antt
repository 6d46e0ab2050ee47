use Rattle.std.proofs.Common.{◌≡◌, ◌*◌, take, Ok, Err, rules, arith, refl, subst}
use Rattle.sqlite.specs.Held.{state}
use Rattle.desk_tables.specs.ManyRows.{many_of, with_rows}
use Rattle.desk_tables.specs.Transactions.{Adding}
use Rattle.desk_tables.proofs.Addings.{adding_none, adding_then, adds_done, adds_failed}
use Rattle.desk_tables.proofs.ManyRows.{adds_part}
use Rattle.desk_tables.proofs.work.Work.insert_each.Goals as goal

pub loop-place-init : goal.loop-place-init
loop-place-init g c = record {
  same_reference = refl;
  unspent = search rules;
  so_far = λ xs are within. adding_none _ (state g.S.Store c.args.self.now.tables.now.connection) tt;
}

pub loop-place-preserved : goal.loop-place-preserved
loop-place-preserved g c = record {
  same_reference = search rules;
  unspent = search rules;
  so_far = λ xs are within.
      let mid = state g.S.Store c.loop-place.self.tables.now.connection in
      let new = state g.S.Store c.run.new.self.tables.now.connection in
      adding_then (c.loop-place.invariant.so_far xs are within)
      (adds_part c.args.table c.args.eight xs c.loop-place.place c.args.values.now c.many.result c.width.result c.args.to c.many.ensures c.width.ensures are c.loop-place-test.true within c.text-sql.result.now c.text-sql.ensures mid new (Ok tt) c.in_ok-run.ensures.runs);
}

pub returns-in_err-run : goal.returns-in_err-run
returns-in_err-run g c = λ xs are within.
    let mid = state g.S.Store c.loop-place.self.tables.now.connection in
    let new = state g.S.Store c.run.new.self.tables.now.connection in
    adds_failed (search rules) c.loop-place.invariant.same_reference (search rules) (c.loop-place.invariant.so_far xs are within) c.in_err-run.ensures
    (adds_part c.args.table c.args.eight xs c.loop-place.place c.args.values.now c.many.result c.width.result c.args.to c.many.ensures c.width.ensures are c.loop-place-test.true within c.text-sql.result.now c.text-sql.ensures mid new (Err c.in_err-run.field-0.0) c.in_err-run.ensures.runs)

pub returns : goal.returns
returns g c = λ xs are within.
    let t = c.args.table in
    let eight = c.args.eight in
    let old = state g.S.Store c.args.self.now.tables.now.connection in
    let new = state g.S.Store c.loop-place.self.tables.now.connection in
    let all : c.loop-place.place ≡ c.args.to = let last = c.loop-place.auto.place-end c.requires.rising in omega (arith, last, c.loop-place-test.false) in
    let so_far = c.loop-place.invariant.so_far xs are within in
    let added = subst (λ n. Adding {A = Unit {0}} (with_rows t (take (many_of eight * c.args.from) xs)) (with_rows t (take (many_of eight * n) xs)) old new (Ok tt)) all so_far in
    adds_done tt c.loop-place.invariant.same_reference (search rules) c.loop-place.invariant.unspent added
