-- What is found where a desk is opened, and what is made of it.
use Rattle.std.proofs.Common.{◌≡◌, ◌⊎◌, inl, inr, ℕ, Bool, true, false, List, [], Option, Some, None, Ok, Err, Result, IsTrue, arith, refl, sym, ap, ◌∙◌, subst}
use Rattle.sqlite.specs.Effect.{Database}
use Rattle.sqlite.specs.State.{State, HasCleanDisk}
use Rattle.sqlite_disk.specs.Disk.{MoreFaults}
use Rattle.sqlite_trees.specs.Tree.{Trees}
use Rattle.desk_tables.proofs.MetaAlone.{first_has_meta, has_its_meta, second_has_meta, unindexed_has_meta}
use Rattle.desk_tables.proofs.MissingIndex.{first_lacks_more, second_has_index, unindexed_lacks_index}
use Rattle.desk_tables.specs.Meta.{HoldsMeta}
use Rattle.desk_tables.specs.Rows.{DeskRows, Holds, HoldsUnindexed, first_rows, version_in}
use Rattle.desk_tables.specs.Schema.{lacks_index, schema_0}
use Rattle.desk_tables.specs.Transactions.{IsEmptied}
use Rattle.onix_records.specs.declared.faults.StoreFault.{StoreFault}
use Rattle.series_rules.specs.declared.requests.Request.{Request}
use Rattle.desk_rows.specs.Desks.{AreRowsOf, HoldsRequests, KeepsRequests, StoresRequests}
use Rattle.desk_versions.specs.Openings.{AreTreesOf, Becomes, ByFound, HoldsAny, IsCreated, IsDone, IsFaultOf, IsIndexed, IsLeft, IsThere, IsVersionRead, LeavesOne, LeavesShown, MakesIndex, MayBeLeft, SaysVersion, ShowsOnly, Way, opening}
use Rattle.desk_versions.specs.declared.opening.OpenFault.{OpenFault}
use Rattle.desk_versions.specs.declared.opening.OpenFault.TheVariants.{Store, OtherVersion}
use Rattle.desk_rows.proofs.ComesTo.{stored}
use Rattle.desk_versions.proofs.EmptyFiles.{first_stand}

-- ---- what is told

pub no_meta : (db : Database) → IsEmptied schema_0 db → SaysVersion db None
no_meta db emptied = rw emptied.schema_is refl

-- a database of a desk, in either version, has its table `meta`
pub any_has_meta : (db : Database) (rows : DeskRows) → HoldsAny db rows → HoldsMeta db rows.meta
any_has_meta db rows (inl (inl held)) = second_has_meta db rows held
any_has_meta db rows (inl (inr held)) = unindexed_has_meta db rows held.0
any_has_meta db rows (inr held) = first_has_meta db rows held

no_bool : {A : Type 0} (b : Bool) → b ≡ true → b ≡ false → A
no_bool b is not = absurd (let no : true ≡ false = sym is ∙ not in cc)

-- what tells a version does not tell none
pub tells_both : {A : Type 0} (db : Database) (version : ℕ) → SaysVersion db (Some version) → SaysVersion db None → A
tells_both db version tells none = no_bool _ tells.0 none

-- the version of rows is told
pub tells_rows : (db : Database) (version : ℕ) (rows : DeskRows) → SaysVersion db (Some version) → HoldsAny db rows → version_in rows ≡ Some version
tells_rows db version rows tells any = tells.1 rows.meta (any_has_meta db rows any)

-- where none is told, there are no rows
pub tells_no_rows : {A : Type 0} (db : Database) (rows : DeskRows) → SaysVersion db None → HoldsAny db rows → A
tells_no_rows db rows none any = no_bool _ (has_its_meta db rows.meta (any_has_meta db rows any)) none

-- ---- what is left

-- while the connection is open, a crash leaves what was committed
abbrev pub IsSettled : State → Type 0
IsSettled s = (d : Trees) → IsTrue s.is_open → s.may_leave d → d ≡ s.committed.trees

-- where no more is left than before, it is what was shown
pub left_alone : (s : State) → IsSettled s → IsTrue s.is_open → (db : Database) → ShowsOnly db s → (left : Trees → Type 0) → ((d : Trees) → left d → s.may_leave d) → LeavesOne left db
left_alone s settled up db only left less = λ d may. settled d up (less d may) ∙ ap (λ (x : Database). x.trees) (only up).2

-- so it is, or what was made
left_or : {Is : Database → Type 0} {may : Trees → Type 0} (db : Database) → LeavesOne may db → (d : Trees) → may d ⊎ AreTreesOf Is d → (d ≡ db.trees) ⊎ AreTreesOf Is d
left_or db alone d (inl was) = inl (alone d was)
left_or db alone d (inr made) = inr made

-- what follows of each way out
pub by_found : (way : Way) (db : Database) (First Second : (Database → Type 0) → Type 0) → ((Is : Database → Type 0) → First Is → Second Is) → ByFound way db First → ByFound way db Second
by_found way db First Second then (inl (tells, stays, it)) = inl (tells, stays, then _ it)
by_found way db First Second then (inr (inl (tells, changes, it))) = inr (inl (tells, changes, λ rows any. then _ (it rows any)))
by_found way db First Second then (inr (inr (tells, creates, it))) = inr (inr (tells, creates, λ emptied. then _ (it emptied)))

-- what was done is all that is left
pub done_left : {A : Type 0} (ways : A → Way) (a : A) (db : Database) (s : State) → IsDone (ways a) db s → IsLeft ways db s.may_leave
done_left ways a db s (inl (up, found)) = inr (a, by_found (ways a) db (IsThere s) (MayBeLeft db s.may_leave) (λ Is it d may. inr (it.0, sym (it.3 d may), it.1)) found)
done_left ways a db s (inr failed) = inl failed.3

-- no more is left of a store than of its connection
pub left_less : {A : Type 0} (ways : A → Way) (db : Database) (may left : Trees → Type 0) → ((d : Trees) → left d → may d) → IsLeft ways db may → IsLeft ways db left
left_less ways db may left less (inl alone) = inl (λ d is. alone d (less d is))
left_less ways db may left less (inr (a, found)) = inr (a, by_found (ways a) db (MayBeLeft db may) (MayBeLeft db left) (λ Is it d is. it d (less d is)) found)

fault_less : {A : Type 0} (ways : A → Way) (db : Database) (may left : Trees → Type 0) → ((d : Trees) → left d → may d) → (fault : OpenFault) → IsFaultOf ways db may fault → IsFaultOf ways db left fault
fault_less ways db may left less (Store e) is = is
fault_less ways db may left less (OtherVersion found) (tells, alone, other) = (tells, λ d is. alone d (less d is), other)

pub found_less : {A : Type 0} (ways : A → Way) (s0 : State) (may left : Trees → Type 0) (fault : OpenFault) → ((d : Trees) → left d → may d) → LeavesShown ways s0 may fault → LeavesShown ways s0 left fault
found_less ways s0 may left fault less leaves = λ up db only. let it = leaves up db only in (left_less ways db may left less it.0, fault_less ways db may left less fault it.1)

-- ---- the version alone was read

failed_since : (old new : ℕ) → MoreFaults old new → MoreFaults 0 new
failed_since old new more = omega (arith, more)

module _ {A : Type 0} (ways : A → Way) (s0 s1 : State) (settled : IsSettled s0) where
  left_read : {version : Result (Option ℕ) StoreFault} → IsVersionRead s0 s1 version → HasCleanDisk s1 → IsTrue s0.is_open → (db : Database) → ShowsOnly db s0 → LeavesOne s1.may_leave db
  left_read read clean up db only = left_alone s0 settled up db only s1.may_leave (read.crash clean db only)

  -- it is of another version
  pub became_other : (found : ℕ) → ((a : A) → ¬ (found ≡ (ways a).version)) → IsVersionRead s0 s1 (Ok (Some found)) → Becomes ways s0 s1 (Err (OtherVersion found))
  became_other found other read = record {
    premise = read.premise;
    done = λ clean up db only. tt;
    left = λ clean up db only. (inl (left_read read clean up db only), (read.tells clean db only, left_read read clean up db only, other));
  }

  pub became_unread : (e : StoreFault) → IsVersionRead s0 s1 (Err e) → Becomes ways s0 s1 (Err (Store e))
  became_unread e read = record {
    premise = read.premise;
    done = λ clean up db only. tt;
    left = λ clean up db only. (inl (left_read read clean up db only), tt);
  }

  -- it is of this version, and stays
  pub became_same : (a : A) → ((db : Database) → s1.now ≡ db → (ways a).stays db) → IsVersionRead s0 s1 (Ok (Some (ways a).version)) → Becomes ways s0 s1 (Ok a)
  became_same a stays read = record { premise = read.premise; done = λ clean up db only. done clean up db only s1.is_open refl; left = λ clean. tt }
    where
      failed : IsTrue s1.is_open ⊎ MoreFaults s0.faults s1.faults → s1.is_open ≡ false → MoreFaults 0 s1.faults
      failed (inl now) shut = no_bool _ now shut
      failed (inr more) shut = failed_since s0.faults s1.faults more

      done : HasCleanDisk s1 → IsTrue s0.is_open → (db : Database) → ShowsOnly db s0 → (b : Bool) → s1.is_open ≡ b → IsDone (ways a) db s1
      done clean up db only true now =
          let shown = read.left clean db only in inl (now, inl (read.tells clean db only, stays db (shown now).1, (db, refl, shown, left_read read clean up db only)))
      done clean up db only false shut = inr (shut, failed (read.is_open clean) shut, read.tells clean db only, left_read read clean up db only)

-- ---- tables were made

module _ {A : Type 0} (ways : A → Way) (a : A) (s0 s1 s2 : State) (settled : IsSettled s0) where
  -- in a database that had none
  module _ (creates : (ways a).creates) (read : IsVersionRead s0 s1 (Ok None)) where
    pub became_created : IsCreated s1 s2 (Ok tt) → Becomes ways s0 s2 (Ok a)
    became_created created = record { premise = λ clean. read.premise (created.premise clean); done = done; left = λ clean. tt }
      where
        done : HasCleanDisk s2 → IsTrue s0.is_open → (db : Database) → ShowsOnly db s0 → IsDone (ways a) db s2
        done clean up db only =
            let clean1 = created.premise clean in
            let sure = created.alone clean in
            inl (
              sure.0,
              inr (inr (
                read.tells clean1 db only,
                creates,
                λ emptied.
                    let it = created.ok clean db (read.left clean1 db only) emptied in (it.0, it.2, it.1, λ d may. sure.1 d may ∙ ap (λ (x : Database). x.trees) (it.1 sure.0).2),
              )),
            )

    pub became_uncreated : (e : StoreFault) → IsCreated s1 s2 (Err e) → Becomes ways s0 s2 (Err (Store e))
    became_uncreated e created = record { premise = λ clean. read.premise (created.premise clean); done = λ clean up db only. tt; left = λ clean up db only. (left clean up db only, tt) }
      where
        left : HasCleanDisk s2 → IsTrue s0.is_open → (db : Database) → ShowsOnly db s0 → IsLeft ways db s2.may_leave
        left clean up db only =
            let clean1 = created.premise clean in
            inr (a, inr (inr (read.tells clean1 db only, creates, λ emptied d may. left_or db (left_read ways s0 s1 settled read clean1 up db only) d (created.crash clean db (read.left clean1 db only) emptied d may))))

  -- of the rows of one of this version
  module _ (read : IsVersionRead s0 s1 (Ok (Some (ways a).version))) where
    pub became_changed : (HasCleanDisk s2 → HasCleanDisk s1) → (HasCleanDisk s2 → IsTrue s2.is_open × ((d : Trees) → s2.may_leave d → d ≡ s2.committed.trees)) → (HasCleanDisk s2 → (db : Database) → ShowsOnly db s1 → (ways a).changes db)
        → (HasCleanDisk s2 → (db : Database) → ShowsOnly db s1 → SaysVersion db (Some (ways a).version) → (rows : DeskRows) → HoldsAny db rows → (made : Database) × ShowsOnly made s2 × (ways a).made db rows made) → Becomes ways s0 s2 (Ok a)
    became_changed clean1 sure changes made = record { premise = λ clean. read.premise (clean1 clean); done = done; left = λ clean. tt }
      where
        done : HasCleanDisk s2 → IsTrue s0.is_open → (db : Database) → ShowsOnly db s0 → IsDone (ways a) db s2
        done clean up db only =
            let shown = read.left (clean1 clean) db only in
            inl (
              (sure clean).0,
              inr (inl (
                read.tells (clean1 clean) db only,
                changes clean db shown,
                λ rows any.
                    let it = made clean db shown (read.tells (clean1 clean) db only) rows any in (it.0, it.2, it.1, λ d may. (sure clean).1 d may ∙ ap (λ (x : Database). x.trees) (it.1 (sure clean).0).2),
              )),
            )

    pub became_unchanged : (e : StoreFault) → (HasCleanDisk s2 → HasCleanDisk s1) → (HasCleanDisk s2 → (db : Database) → ShowsOnly db s1 → SaysVersion db (Some (ways a).version) → ((d : Trees) → s2.may_leave d → s1.may_leave d)
        ⊎ ((ways a).changes db × ((rows : DeskRows) → HoldsAny db rows → (d : Trees) → s2.may_leave d → s1.may_leave d ⊎ AreTreesOf ((ways a).made db rows) d))) → Becomes ways s0 s2 (Err (Store e))
    became_unchanged e clean1 leaves = record {
      premise = λ clean. read.premise (clean1 clean);
      done = λ clean up db only. tt;
      left = λ clean up db only. (left clean up db only (leaves clean db (read.left (clean1 clean) db only) (read.tells (clean1 clean) db only)), tt);
    }
      where
        left : HasCleanDisk s2 → IsTrue s0.is_open → (db : Database) → ShowsOnly db s0
            → ((d : Trees) → s2.may_leave d → s1.may_leave d) ⊎ ((ways a).changes db × ((rows : DeskRows) → HoldsAny db rows → (d : Trees) → s2.may_leave d → s1.may_leave d ⊎ AreTreesOf ((ways a).made db rows) d)) → IsLeft ways db s2.may_leave
        left clean up db only (inl less) = inl (λ d may. left_read ways s0 s1 settled read (clean1 clean) up db only d (less d may))
        left clean up db only (inr (changes, made)) =
            inr (a, inr (inl (read.tells (clean1 clean) db only, changes, λ rows any d may. left_or db (left_read ways s0 s1 settled read (clean1 clean) up db only) d (made rows any d may))))

-- ---- the index was made

-- a database that lacks it has its rows without
unindexed : (db : Database) → lacks_index db.schema ≡ true → (rows : DeskRows) → HoldsAny db rows → HoldsUnindexed db rows
unindexed db lacks rows (inl (inl held)) = no_bool _ lacks (second_has_index db rows held)
unindexed db lacks rows (inl (inr held)) = held.0
unindexed db lacks rows (inr held) = no_bool _ lacks (first_lacks_more db rows held)

module _ (s0 s1 s2 : State) (settled : IsSettled s0) (read : IsVersionRead s0 s1 (Ok (Some 2))) (lacks : lacks_index s1.now.schema ≡ true) where
  lacks_here : (db : Database) → ShowsOnly db s1 → IsTrue s1.is_open → lacks_index db.schema ≡ true
  lacks_here db shown up = ap (λ (x : Database). lacks_index x.schema) (sym (shown up).1) ∙ lacks

  pub became_indexed : IsIndexed s1 s2 (Ok tt) → Becomes opening s0 s2 (Ok tt)
  became_indexed indexed = became_changed opening tt s0 s1 s2 settled read (indexed first_rows).premise (indexed first_rows).alone (λ clean db shown. lacks_here db shown ((indexed first_rows).was_open clean))
      (λ clean db shown tells rows any. let un = unindexed db (lacks_here db shown ((indexed first_rows).was_open clean)) rows any in let it = (indexed rows).ok clean db shown un in (it.0, it.1, (un, it.2)))

  pub became_unindexed : (e : StoreFault) → IsIndexed s1 s2 (Err e) → Becomes opening s0 s2 (Err (Store e))
  became_unindexed e indexed = became_unchanged opening tt s0 s1 s2 settled read e (indexed first_rows).premise (λ clean db shown tells. go clean db shown (lacks_index db.schema) refl)
    where
      shut : HasCleanDisk s2 → (db : Database) → ShowsOnly db s1 → lacks_index db.schema ≡ false → (d : Trees) → s1.may_leave d ⊎ IsTrue s1.is_open → s1.may_leave d
      shut clean db shown whole d (inl was) = was
      shut clean db shown whole d (inr up) = no_bool _ (lacks_here db shown up) whole

      with_index : (db : Database) (rows : DeskRows) → HoldsUnindexed db rows → (d : Trees) → s1.may_leave d ⊎ AreTreesOf (λ now. Holds now rows) d → s1.may_leave d ⊎ AreTreesOf (MakesIndex db rows) d
      with_index db rows un d (inl was) = inl was
      with_index db rows un d (inr (now, same, held)) = inr (now, same, (un, held))

      go : HasCleanDisk s2 → (db : Database) → ShowsOnly db s1 → (b : Bool) → lacks_index db.schema ≡ b
          → ((d : Trees) → s2.may_leave d → s1.may_leave d) ⊎ ((lacks_index db.schema ≡ true) × ((rows : DeskRows) → HoldsAny db rows → (d : Trees) → s2.may_leave d → s1.may_leave d ⊎ AreTreesOf (MakesIndex db rows) d))
      go clean db shown false whole = inl (λ d may. shut clean db shown whole d ((indexed first_rows).spares clean d may))
      go clean db shown true is = inr (is, λ rows any d may. let un = unindexed db is rows any in with_index db rows un d ((indexed rows).crash clean db shown un d may))

-- ---- against lists of requests

-- the database holds what those requests come to, or it has no table and they are none
abbrev pub IsFoundFor : Database → List Request → Type 0
IsFoundFor db L = StoresRequests db L ⊎ (IsEmptied schema_0 db × (L ≡ []))

pub keeps_found : (db : Database) (L : List Request) (s : State) → ShowsOnly db s → HoldsRequests db L → KeepsRequests s L
keeps_found db L s only held = λ up. let is = only up in (is.0, subst (λ d. HoldsRequests d L) (sym is.1) held, subst (λ d. HoldsRequests d L) (sym is.2) held)

-- a database that tells version 2 is of the requests by its rows
pub tells_stored : (db : Database) (L : List Request) → SaysVersion db (Some 2) → IsFoundFor db L → StoresRequests db L
tells_stored db L tells (inl held) = held
tells_stored db L tells (inr none) = tells_both db 2 tells (no_meta db none.0)

-- one that tells none has no table
pub tells_emptied : (db : Database) (L : List Request) → SaysVersion db None → IsFoundFor db L → IsEmptied schema_0 db × (L ≡ [])
tells_emptied db L tells (inl held) = tells_no_rows db held.0 tells (inl held.1)
tells_emptied db L tells (inr none) = none

pub first_requests : (made : Database) (L : List Request) → L ≡ [] → Holds made first_rows → HoldsRequests made L
first_requests made L none held = subst (HoldsRequests made) (sym none) (first_rows, held, first_stand)

-- what is shown is of the requests, and so is all that is left
abbrev pub IsOf : List Request → State → Type 0
IsOf L s = KeepsRequests s L × ((d : Trees) → s.may_leave d → AreRowsOf d L)

is_of : (now : Database) (L : List Request) (s : State) → ShowsOnly now s → LeavesOne s.may_leave now → HoldsRequests now L → IsOf L s
is_of now L s shown alone held = (keeps_found now L s shown held, λ d may. (now, sym (alone d may), stored now L held))

with_its_index : (db : Database) (L : List Request) → lacks_index db.schema ≡ false → StoresRequests db L → HoldsRequests db L
with_its_index db L whole (rows, inl held, stands) = (rows, held, stands)
with_its_index db L whole (rows, inr held, stands) = no_bool _ (unindexed_lacks_index db rows held.0) whole

pub done_stands : (db : Database) (L : List Request) (s : State) → IsDone (opening tt) db s → IsFoundFor db L → IsOf L s
done_stands db L s (inl (up, inl (tells, whole, (now, is, shown, alone)))) found =
    is_of now L s shown alone (subst (λ x. HoldsRequests x L) (sym is) (with_its_index db L whole (tells_stored db L tells found)))
done_stands db L s (inl (up, inr (inl (tells, lacks, made)))) found =
    let (rows, held, stands) = tells_stored db L tells found in let it = made rows (inl held) in is_of it.0 L s it.2 it.3 (rows, it.1.1, stands)
done_stands db L s (inl (up, inr (inr (tells, creates, made)))) found =
    let none = tells_emptied db L tells found in let it = made none.0 in is_of it.0 L s it.2 it.3 (first_requests it.0 L none.1 it.1)
done_stands db L s (inr (shut, more, tells, alone)) found = (λ up. no_bool _ up shut, λ d may. (db, sym (alone d may), tells_stored db L tells found))

-- what is left is what was found, or its rows with the index, or the tables of no request
pub left_stands : (db : Database) (left : Trees → Type 0) → IsLeft opening db left → (L : List Request) → IsFoundFor db L → (d : Trees) → left d → (d ≡ db.trees) ⊎ AreRowsOf d L
left_stands db left (inl alone) L found d may = inl (alone d may)
left_stands db left (inr (a, inl (tells, stays, ends))) L found d may = same (ends d may)
  where
    same : (d ≡ db.trees) ⊎ AreTreesOf (λ now. now ≡ db) d → (d ≡ db.trees) ⊎ AreRowsOf d L
    same (inl is) = inl is
    same (inr (now, is, it)) = inl (sym is ∙ ap (λ (x : Database). x.trees) it)
left_stands db left (inr (a, inr (inl (tells, changes, ends)))) L found d may = let stored = tells_stored db L tells found in changed stored (ends stored.0 (inl stored.1) d may)
  where
    changed : (stored : StoresRequests db L) → (d ≡ db.trees) ⊎ AreTreesOf (MakesIndex db stored.0) d → (d ≡ db.trees) ⊎ AreRowsOf d L
    changed stored (inl is) = inl is
    changed stored (inr (now, is, made)) = inr (now, is, (stored.0, inl made.1, stored.2))
left_stands db left (inr (a, inr (inr (tells, creates, ends)))) L found d may = let none = tells_emptied db L tells found in created none.1 (ends none.0 d may)
  where
    created : L ≡ [] → (d ≡ db.trees) ⊎ AreTreesOf (λ now. Holds now first_rows) d → (d ≡ db.trees) ⊎ AreRowsOf d L
    created none (inl is) = inl is
    created none (inr (now, is, held)) = inr (now, is, stored now L (first_requests now L none held))

-- what was opened for a desk tells version 2 or none
pub done_tells : (db : Database) (s : State) → IsDone (opening tt) db s → SaysVersion db None ⊎ SaysVersion db (Some 2)
done_tells db s (inl (up, inl (tells, stays, found))) = inr tells
done_tells db s (inl (up, inr (inl (tells, changes, found)))) = inr tells
done_tells db s (inl (up, inr (inr (tells, creates, found)))) = inl tells
done_tells db s (inr (shut, more, tells, alone)) = inr tells
