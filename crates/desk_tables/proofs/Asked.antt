-- A query whose rows are read.
use Rattle.std.proofs.Common.{◌≡◌, ℕ, List, Ok, Err, Result, IfOk, refl, subst, sym}
use Rattle.sqlite_value.specs.Order.{Row}
use Rattle.sqlite_trees.specs.declared.store.Store.{Ghosts}
use Rattle.onix_records.specs.declared.faults.StoreFault.{StoreFault}
use Rattle.desk_tables.specs.Calls.{Reads, Selects}
use Rattle.desk_tables.specs.Spent.{HandsOn, spent_by}
use Rattle.desk_tables.specs.declared.work.Work.{Work}

-- what is told of a result under a premise
pub under_ok : {X A E : Type 0} (Q : A → Type 0) (r : Result A E) → (X → IfOk r Q) → IfOk r (λ a. X → Q a)
under_ok Q (Ok a) told = told
under_ok Q (Err e) told = tt

-- its rows are read, and what was read is handed on
module _ {S A V : Type 0} {store : Ghosts S} {sql : List ℕ} {params : Row} {old mid : Work S} {rows_of : V → List Row} (Read : List Row → A → Type 0) where
  read_so : {got : V} (new : Work S) (read : Result A StoreFault) → new ≡ spent_by mid read → Reads store sql params rows_of old mid (Ok got) → IfOk read (Read (rows_of got)) → Selects store sql params Read old new read
  read_so {got} new (Ok a) spends ran is =
      subst (λ (w : Work S). Selects {A = A} store sql params Read old w (Ok a)) (sym spends)
      (record {
        same_reference = ran.same_reference;
        spent = ran.spent;
        untouched = λ s. absurd (let no = (ran.untouched s).0 in cc);
        shown = λ clean. (rows_of got, ran.reads.shown clean, is);
        inside = ran.reads.inside;
        kept = ran.reads.kept;
        survives = ran.reads.survives;
      })
  read_so new (Err e) spends ran is =
      subst (λ (w : Work S). Selects {A = A} store sql params Read old w (Err e)) (sym spends)
      (record {
        same_reference = ran.same_reference;
        spent = refl;
        untouched = λ s. absurd (let no = (ran.untouched s).0 in cc);
        shown = λ clean. tt;
        inside = tt;
        kept = ran.reads.kept;
        survives = ran.reads.survives;
      })

  pub selects_by : {got : V} {new : Work S} {read result : Result A StoreFault} → HandsOn mid new read result → Reads store sql params rows_of old mid (Ok got) → IfOk read (Read (rows_of got)) → Selects store sql params Read old new result
  selects_by {new = new} {read} {result} handed ran is = subst (λ (r : Result A StoreFault). Selects store sql params Read old new r) (sym handed.same) (read_so new read handed.spends ran is)

-- it has a fault, which is handed on
pub selects_err : {S A V : Type 0} {store : Ghosts S} {sql : List ℕ} {params : Row} {old new : Work S} {rows_of : V → List Row} {e : StoreFault} {r : Result A StoreFault} (Read : List Row → A → Type 0) → r ≡ Err e → Reads store sql params rows_of old new (Err e)
    → Selects store sql params Read old new r
selects_err {A = A} {store} {sql} {params} {old} {new} Read same ran =
    subst (λ (x : Result A StoreFault). Selects store sql params Read old new x) (sym same)
    (record {
      same_reference = ran.same_reference;
      spent = ran.spent;
      untouched = λ s. (let is = (ran.untouched s).0 in cc, (ran.untouched s).1);
      shown = λ clean. tt;
      inside = tt;
      kept = ran.reads.kept;
      survives = ran.reads.survives;
    })
