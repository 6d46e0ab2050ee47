-- Tables that are made in one transaction: all at once or not at all.
use Rattle.std.proofs.Common.{◌≡◌, ◌≤◌, ◌⊎◌, inl, inr, ℕ, Bool, true, false, List, [], None, Some, Option, Ok, Err, Result, IfOk, OnOk, IsTrue, refl, sym, ◌∙◌, subst, arith}
use Rattle.std.specs.List.{list_any}
use Rattle.std.specs.Prelude.{IsSome, ⊤}
use Rattle.sqlite.specs.Effect.{Database}
use Rattle.sqlite.specs.State.{State, HasCleanDisk, KeepsCommit, Survives}
use Rattle.sqlite_disk.specs.Disk.{MoreFaults}
use Rattle.sqlite_trees.specs.Tree.{Trees}
use Rattle.desk_tables.specs.Meta.{HoldsMeta, version_among}
use Rattle.desk_tables.specs.Rows.{MetaRow}
use Rattle.desk_tables.specs.Schema.{is_meta}
use Rattle.desk_tables.specs.Transactions.{BeginsWork, EndsWork, IsUndone, LeavesOnly, Makes, NoTrees}
use Rattle.onix_records.specs.declared.faults.StoreFault.{StoreFault}
use Rattle.desk_versions.specs.Openings.{AreTreesOf, IsVersionRead, MakesAll, SaysVersion, ShowsOnly}

-- ---- a transaction, by what was shown before it

either : {P : Type 0} → P ⊎ ⊥ → P
either (inl p) = p
either (inr x) = absurd x

-- the transaction is begun on that database
record IsBegunOn (db : Database) (s0 s1 : State) : Type 0 where
  was_open : IsTrue s0.is_open
  now : s1.now ≡ db
  committed : s1.committed ≡ db
  crash : (d : Trees) → s1.may_leave d → s0.may_leave d

begun_on : {W : Type 0} (w : W) (db : Database) (s0 s1 : State) → HasCleanDisk s1 → BeginsWork {A = W} {E = StoreFault} s0 s1 (Ok w) → ShowsOnly db s0 → IsBegunOn db s0 s1
begun_on w db s0 s1 clean begins only =
    let shows = (begins.begun clean).0 in
    let is = only shows.was_open in
    record {
      was_open = shows.was_open;
      now = shows.now_is ∙ is.1;
      committed = shows.committed_is ∙ is.2;
      crash = λ d may. either (begins.survives.crash clean d may);
    }

-- it is undone
undone_on : (db : Database) (s1 s2 s3 : State) → s1.committed ≡ db → KeepsCommit s1 s2 → IsUndone s2 s3 → ShowsOnly db s3
undone_on db s1 s2 s3 committed kept undone = λ up.
    let up2 = undone.was_open up in
    (undone.autocommit, undone.now up ∙ kept.committed up2 ∙ committed, undone.committed up ∙ kept.committed up2 ∙ committed)

-- ---- a store that stays open

-- it is open, or its disk failed since there were so many faults
abbrev IsOpenSince : ℕ → State → Type 0
IsOpenSince n s = IsTrue s.is_open ⊎ MoreFaults n s.faults

open_since : {Commits : Trees → Type 0} (n : ℕ) (s0 s1 : State) → n ≤ s0.faults → Survives s0 s1 Commits → HasCleanDisk s1 → IsOpenSince n s0 → IsOpenSince n s1
open_since n s0 s1 least survives clean (inl up) = elim (survives.closes clean up) [ inl still ↦ inl still | inr more ↦ inr (omega (arith, least, more)) ]
open_since n s0 s1 least survives clean (inr more) = inr (omega (arith, more, survives.counts))

-- ---- the version read

on_ok : {A E P : Type 0} (r : Result A E) → P → OnOk r P
on_ok (Ok a) p = p
on_ok (Err e) p = tt

none_is_some : IsSome {T = ℕ} None → ⊥
none_is_some e = absurd cc

some_is_none : (n : ℕ) → ◌≡◌ {A = Option ℕ} (Some n) None → ⊥
some_is_none n e = absurd cc

-- the version of a database that has no table `meta`, or has one
tells_as : (db : Database) (version : Option ℕ) → (list_any is_meta db.schema.tables ≡ false → version ≡ None) → (list_any is_meta db.schema.tables ≡ true → IsSome version) → ((meta : List MetaRow) → HoldsMeta db meta → version ≡ version_among meta)
    → (b : Bool) → list_any is_meta db.schema.tables ≡ b → SaysVersion db version
tells_as db None absent present tells false none = none
tells_as db None absent present tells true has = absurd (none_is_some (present has))
tells_as db (Some n) absent present tells false none = absurd (some_is_none n (absent none))
tells_as db (Some n) absent present tells true has = (has, λ meta held. sym (tells meta held))

tells_read : (db : Database) (result : Result (Option ℕ) StoreFault) → (list_any is_meta db.schema.tables ≡ false → IfOk result (λ version. version ≡ None)) → (list_any is_meta db.schema.tables ≡ true → IfOk result (λ version. IsSome version))
    → ((meta : List MetaRow) → HoldsMeta db meta → IfOk result (λ version. version ≡ version_among meta)) → IfOk result (SaysVersion db)
tells_read db (Ok version) absent present tells = tells_as db version absent present tells (list_any is_meta db.schema.tables) refl
tells_read db (Err e) absent present tells = tt

module _ {W : Type 0} (w : W) (s0 s1 s2 s3 : State) (was now : Bool) (result : Result (Option ℕ) StoreFault) (begins : BeginsWork {A = W} {E = StoreFault} s0 s1 (Ok w))
    (absent : list_any is_meta s1.now.schema.tables ≡ false → IfOk result (λ version. version ≡ None))
    (present : list_any is_meta s1.now.schema.tables ≡ true → IfOk result (λ version. IsSome version)) (tells : HasCleanDisk s2 → (meta : List MetaRow) → HoldsMeta s1.now meta → IfOk result (λ version. version ≡ version_among meta))
    (keeps : (meta : List MetaRow) → Makes (λ db. HoldsMeta db meta) (λ db. HoldsMeta db meta) s1 s2 was now result) (undone : HasCleanDisk s3 → IsUndone s2 s3) (survives : Survives s2 s3 NoTrees) where
  read_clean2 : HasCleanDisk s3 → HasCleanDisk s2
  read_clean2 clean = omega (arith, survives.clean)

  read_clean1 : HasCleanDisk s2 → HasCleanDisk s1
  read_clean1 clean = omega (arith, (keeps []).survives.clean)

  read_clean0 : HasCleanDisk s1 → HasCleanDisk s0
  read_clean0 clean = omega (arith, begins.survives.clean)

  begun : HasCleanDisk s3 → (db : Database) → ShowsOnly db s0 → IsBegunOn db s0 s1
  begun clean db only = begun_on w db s0 s1 (read_clean1 (read_clean2 clean)) begins only

  pub version_read : IsVersionRead s0 s3 result
  version_read = record {
    premise = λ clean. read_clean0 (read_clean1 (read_clean2 clean));
    is_open = λ clean. on_ok result (still clean (begins.begun (read_clean1 (read_clean2 clean))).0.was_open);
    tells = λ clean db only. subst (λ (x : Database). IfOk result (SaysVersion x)) (begun clean db only).now (tells_read s1.now result absent present (tells (read_clean2 clean)));
    left = λ clean db only. undone_on db s1 s2 s3 (begun clean db only).committed ((keeps []).kept (read_clean2 clean)) (undone clean);
    crash = λ clean db only d may. (begun clean db only).crash d (either ((keeps []).survives.crash (read_clean2 clean) d (either (survives.crash clean d may))));
  }
    where
      still : HasCleanDisk s3 → IsTrue s0.is_open → IsTrue s3.is_open ⊎ MoreFaults s0.faults s3.faults
      still clean up =
          let clean2 = read_clean2 clean in
          let clean1 = read_clean1 clean2 in
          let begun = open_since s0.faults s0 s1 (omega arith) begins.survives clean1 (inl up) in
          let read = open_since s0.faults s1 s2 begins.survives.counts (keeps []).survives clean2 begun in
          open_since s0.faults s2 s3 (omega (arith, begins.survives.counts, (keeps []).survives.counts)) survives clean read

-- ---- the tables made

module _ (Before After : Database → Type 0) {W : Type 0} (w : W) (s0 s1 s2 s3 : State) (was now : Bool) (begins : BeginsWork {A = W} {E = StoreFault} s0 s1 (Ok w)) (made : Result ⊤ StoreFault)
    (makes : Makes Before After s1 s2 was now made) where
  clean1 : HasCleanDisk s2 → HasCleanDisk s1
  clean1 clean = omega (arith, makes.survives.clean)

  clean0 : HasCleanDisk s1 → HasCleanDisk s0
  clean0 clean = omega (arith, begins.survives.clean)

  started : HasCleanDisk s1 → (db : Database) → ShowsOnly db s0 → Before db → Before s1.now
  started clean db only held = subst Before (sym (begun_on w db s0 s1 clean begins only).now) held

  -- nothing was committed yet
  crash_made : HasCleanDisk s2 → (db : Database) → ShowsOnly db s0 → (d : Trees) → s2.may_leave d → s0.may_leave d
  crash_made clean db only d may = (begun_on w db s0 s1 (clean1 clean) begins only).crash d (either (makes.survives.crash clean d may))

  -- they could not be made, and the fault is handed on
  pub made_failed : (result : Result ⊤ StoreFault) (e : StoreFault) → result ≡ Err e → (HasCleanDisk s3 → IsUndone s2 s3) → Survives s2 s3 NoTrees → MakesAll Before After s0 s3 result
  made_failed result e failed undone survives =
      subst (λ (r : Result ⊤ StoreFault). MakesAll Before After s0 s3 r) (sym failed)
      (record {
        premise = λ clean. clean0 (clean1 (clean2 clean));
        ok = λ clean db only held. tt;
        crash = λ clean db only held d may. inl (crash_made (clean2 clean) db only d (either (survives.crash clean d may)));
        alone = λ clean. tt;
        was_open = λ clean. tt;
        spares = λ clean d may. inl (either (begins.survives.crash (clean1 (clean2 clean)) d (either (makes.survives.crash (clean2 clean) d (either (survives.crash clean d may))))));
      })
    where
      clean2 : HasCleanDisk s3 → HasCleanDisk s2
      clean2 clean = omega (arith, survives.clean)

  made_now : (b : ⊤) → made ≡ Ok b → HasCleanDisk s2 → (db : Database) → ShowsOnly db s0 → Before db → After s2.now
  made_now b is clean db only held = subst (λ r. OnOk r (After s2.now)) is (makes.made clean (started (clean1 clean) db only held))

  crash_ended : (b : ⊤) → made ≡ Ok b → {B : Type 0} (result : Result B StoreFault) → EndsWork s2 s3 now result → HasCleanDisk s3 → (db : Database) → ShowsOnly db s0 → Before db → (d : Trees) → s3.may_leave d → s0.may_leave d ⊎ AreTreesOf After d
  crash_ended b is result ends clean db only held d may = go (ends.survives.crash clean d may)
    where
      clean2 : HasCleanDisk s2
      clean2 = omega (arith, ends.survives.clean)

      go : s2.may_leave d ⊎ ((now ≡ false) × (d ≡ s2.now.trees)) → s0.may_leave d ⊎ AreTreesOf After d
      go (inl earlier) = inl (crash_made clean2 db only d earlier)
      go (inr same) = inr (s2.now, sym same.1, made_now b is clean2 db only held)

  -- they are committed
  made_done : (b : ⊤) → made ≡ Ok b → {B : Type 0} (c : B) → EndsWork {E = StoreFault} s2 s3 now (Ok c) → (HasCleanDisk s3 → LeavesOnly s3) → MakesAll Before After s0 s3 (Ok tt)
  made_done b is c ends durable = record {
    premise = λ clean. clean0 (clean1 (clean2 clean));
    ok = λ clean db only held. let committed = ends.committed clean in (s2.now, λ up. (committed.autocommit, committed.now, committed.committed), made_now b is (clean2 clean) db only held);
    crash = crash_ended b is (Ok c) ends;
    alone = λ clean. ((ends.committed clean).is_open, durable clean);
    was_open = λ clean. (begins.begun (clean1 (clean2 clean))).0.was_open;
    spares = λ clean d may. inr (begins.begun (clean1 (clean2 clean))).0.was_open;
  }
    where
      clean2 : HasCleanDisk s3 → HasCleanDisk s2
      clean2 clean = omega (arith, ends.survives.clean)

  -- they are not
  made_refused : (b : ⊤) → made ≡ Ok b → (e : StoreFault) {B : Type 0} → EndsWork {A = B} s2 s3 now (Err e) → MakesAll Before After s0 s3 (Err e)
  made_refused b is e ends = record {
    premise = λ clean. clean0 (clean1 (clean2 clean));
    ok = λ clean db only held. tt;
    crash = crash_ended b is (Err e) ends;
    alone = λ clean. tt;
    was_open = λ clean. tt;
    spares = λ clean d may. inr (begins.begun (clean1 (clean2 clean))).0.was_open;
  }
    where
      clean2 : HasCleanDisk s3 → HasCleanDisk s2
      clean2 clean = omega (arith, ends.survives.clean)

  pub made_ended : (b : ⊤) → made ≡ Ok b → (result : Result ⊤ StoreFault) → EndsWork s2 s3 now result → (HasCleanDisk s3 → OnOk result (LeavesOnly s3)) → MakesAll Before After s0 s3 result
  made_ended b is (Ok c) ends durable = made_done b is c ends durable
  made_ended b is (Err e) ends durable = made_refused b is e ends
