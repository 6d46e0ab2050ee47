-- What bringing the tables to version 2 makes of them.
use Rattle.std.proofs.Common.{◌≡◌, ◌⊎◌, inl, inr, ℕ, List, Option, Some, None, Ok, Err, Result, sym, subst, ◌∙◌}
use Rattle.std.specs.Prelude.{⊤}
use Rattle.sqlite.specs.Effect.{Database}
use Rattle.sqlite.specs.State.{State, HasCleanDisk}
use Rattle.sqlite_trees.specs.Tree.{Trees}
use Rattle.desk_tables.specs.Rows.{DeskRows, Holds, HoldsFirst, version_in, with_version}
use Rattle.desk_tables.specs.Schema.{desk_schema}
use Rattle.onix_records.specs.declared.faults.StoreFault.{StoreFault}
use Rattle.series_rules.specs.declared.requests.Request.{Request}
use Rattle.desk_rows.specs.Desks.{StoresRequests}
use Rattle.desk_versions.specs.Migrations.{HoldsFirstRequests, MakesSecond, migration}
use Rattle.desk_versions.specs.Openings.{AreTreesOf, Becomes, ByFound, HoldsAny, IsVersionRead, MakesAll, SaysVersion, ShowsOnly}
use Rattle.desk_versions.specs.declared.version_two.MigrateAnswer.{MigrateAnswer}
use Rattle.desk_versions.specs.declared.version_two.MigrateAnswer.TheVariants.{Migrated, AlreadyTwo}
use Rattle.desk_versions.specs.declared.opening.OpenFault.TheVariants.{Store}
use Rattle.desk_rows.proofs.ComesTo.{stored}
use Rattle.desk_versions.proofs.FoundTables.{IsFoundFor, IsSettled, became_changed, became_unchanged, first_requests, no_meta, tells_both, tells_emptied, tells_no_rows, tells_rows, tells_stored}
use Rattle.desk_versions.proofs.SetVersions.{stands_set, version_stands}

some_is : (m n : ℕ) → ◌≡◌ {A = Option ℕ} (Some m) (Some n) → m ≡ n
some_is m n e = cc

one_two : ◌≡◌ {A = Option ℕ} (Some 2) (Some 1) → ⊥
one_two e = absurd cc

-- neither version is taken
pub takes_neither : (found : ℕ) → ¬ (found ≡ 1) → ¬ (found ≡ 2) → (a : MigrateAnswer) → ¬ (found ≡ (migration a).version)
takes_neither found not_one not_two AlreadyTwo = not_two
takes_neither found not_one not_two Migrated = not_one

-- ---- of version 1

module _ (s0 s1 s2 : State) (settled : IsSettled s0) (read : IsVersionRead s0 s1 (Ok (Some 1))) where
  abbrev Makes : Result ⊤ StoreFault → Type 0
  Makes result = (rows : DeskRows) → MakesAll (λ db. HoldsFirst db rows) (λ db. Holds db (with_version 2 rows)) s1 s2 result

  abbrev MakesNoMore : Result ⊤ StoreFault → Type 0
  MakesNoMore result = MakesAll (λ db. db.schema ≡ desk_schema) (λ _. ⊥) s1 s2 result

  made_of : Makes (Ok tt) → MakesNoMore (Ok tt) → HasCleanDisk s2 → (db : Database) → ShowsOnly db s1 → SaysVersion db (Some 1) → (rows : DeskRows) → HoldsAny db rows → (made : Database) × ShowsOnly made s2 × MakesSecond db rows made
  made_of makes again clean db shown tells rows (inl (inl held)) = absurd (again.ok clean db shown held.schema).2
  made_of makes again clean db shown tells rows (inl (inr held)) = absurd (one_two (sym held.1 ∙ tells_rows db 1 rows tells (inl (inr held))))
  made_of makes again clean db shown tells rows (inr first) = let ok = (makes rows).ok clean db shown first in (ok.0, ok.1, (first, ok.2))

  pub became_second : Makes (Ok tt) → MakesNoMore (Ok tt) → Becomes migration s0 s2 (Ok Migrated)
  became_second makes again = became_changed migration Migrated s0 s1 s2 settled read again.premise again.alone (λ clean db shown. tt) (λ clean db shown tells rows any. made_of makes again clean db shown tells rows any)

  left_of : (e : StoreFault) → Makes (Err e) → MakesNoMore (Err e) → HasCleanDisk s2 → (db : Database) → ShowsOnly db s1 → SaysVersion db (Some 1) → (rows : DeskRows) → HoldsAny db rows → (d : Trees) → s2.may_leave d → s1.may_leave d ⊎ AreTreesOf (MakesSecond db rows) d
  left_of e makes again clean db shown tells rows (inl (inl held)) d may = never (again.crash clean db shown held.schema d may)
    where
      never : s1.may_leave d ⊎ AreTreesOf (λ made. ⊥) d → s1.may_leave d ⊎ AreTreesOf (MakesSecond db rows) d
      never (inl was) = inl was
      never (inr made) = absurd made.2
  left_of e makes again clean db shown tells rows (inl (inr held)) d may = absurd (one_two (sym held.1 ∙ tells_rows db 1 rows tells (inl (inr held))))
  left_of e makes again clean db shown tells rows (inr first) d may = second ((makes rows).crash clean db shown first d may)
    where
      second : s1.may_leave d ⊎ AreTreesOf (λ made. Holds made (with_version 2 rows)) d → s1.may_leave d ⊎ AreTreesOf (MakesSecond db rows) d
      second (inl was) = inl was
      second (inr made) = inr (made.0, made.1, (first, made.2))

  pub became_first : (e : StoreFault) → Makes (Err e) → MakesNoMore (Err e) → Becomes migration s0 s2 (Err (Store e))
  became_first e makes again = became_unchanged migration Migrated s0 s1 s2 settled read e again.premise (λ clean db shown tells. inr (tt, λ rows any d may. left_of e makes again clean db shown tells rows any d may))

-- ---- against lists of requests

-- the database is of those requests, in version 1 or in version 2, or it has no table and they are
-- none
abbrev pub IsOfRequests : Database → List Request → Type 0
IsOfRequests db L = HoldsFirstRequests db L ⊎ IsFoundFor db L

-- rows of version 1 tell no other
first_tells : {A : Type 0} (db : Database) (version : Option ℕ) → SaysVersion db version → (rows : DeskRows) → HoldsFirst db rows → (L : List Request) → version_in rows ≡ Some 1 → ¬ (version ≡ Some 1) → A
first_tells db None tells rows first L is other = tells_no_rows db rows tells (inr first)
first_tells db (Some version) tells rows first L is other = absurd (other (sym (tells_rows db version rows tells (inr first)) ∙ is))

-- what is brought to version 2 is of the same requests
pub brought_stands : (answer : MigrateAnswer) (db : Database) (Has : Database → Type 0) (L : List Request) → ByFound (migration answer) db (λ Is. (now : Database) × Is now × Has now) → IsOfRequests db L → (now : Database) × Has now × StoresRequests now L
brought_stands AlreadyTwo db Has L (inl (tells, stays, (now, is, has))) (inl (rows, first, stands)) =
    first_tells db (Some 2) tells rows first L (version_stands 1 rows L stands) one_two
brought_stands AlreadyTwo db Has L (inl (tells, stays, (now, is, has))) (inr found) = (now, has, subst (λ x. StoresRequests x L) (sym is) (tells_stored db L tells found))
brought_stands AlreadyTwo db Has L (inr (inl (tells, changes, made))) of = absurd changes
brought_stands AlreadyTwo db Has L (inr (inr (tells, creates, made))) of = absurd creates
brought_stands Migrated db Has L (inl (tells, stays, made)) of = absurd stays
brought_stands Migrated db Has L (inr (inl (tells, changes, made))) (inl (rows, first, stands)) =
    let it = made rows (inr first) in (it.0, it.2, (with_version 2 rows, inl it.1.1, stands_set 2 rows 1 L stands))
brought_stands Migrated db Has L (inr (inl (tells, changes, made))) (inr (inl (rows, held, stands))) =
    absurd (one_two (sym (version_stands 2 rows L stands) ∙ tells_rows db 1 rows tells (inl held)))
brought_stands Migrated db Has L (inr (inl (tells, changes, made))) (inr (inr none)) = tells_both db 1 tells (no_meta db none.0)
brought_stands Migrated db Has L (inr (inr (tells, creates, made))) (inl (rows, first, stands)) = tells_no_rows db rows tells (inr first)
brought_stands Migrated db Has L (inr (inr (tells, creates, made))) (inr found) =
    let none = tells_emptied db L tells found in let it = made none.0 in (it.0, it.2, stored it.0 L (first_requests it.0 L none.1 it.1))
