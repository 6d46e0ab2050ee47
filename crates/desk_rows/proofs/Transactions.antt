-- A request from the beginning of its transaction to its end.
use Rattle.std.proofs.Common.{◌≡◌, ℕ, Bool, true, false, List, ◌∷◌, Some, Ok, Err, Result, IfErr, IfOk, IsTrue, ◌⊎◌, inl, inr, sym, ap, ◌∙◌, subst, arith}
use Rattle.sqlite.specs.Effect.{Database}
use Rattle.sqlite.specs.State.{State, HasCleanDisk, KeepsCommit, Survives}
use Rattle.sqlite_trees.specs.Tree.{Trees}
use Rattle.sqlite_trees.specs.declared.store.Store.{Ghosts}
use Rattle.desk_catalogue.specs.Achieves.{Achieves, Does}
use Rattle.desk_catalogue.proofs.DoesLemmas.{did_also}
use Rattle.desk_tables.specs.Calls.{seen, state_of, Undoes}
use Rattle.desk_tables.specs.Rows.{DeskRows, Holds}
use Rattle.desk_tables.specs.Transactions.{BeginsWork, EndsWork, IsUndone, LeavesOnly, NoTrees}
use Rattle.desk_tables.specs.declared.tables.Tables.{Tables}
use Rattle.desk_tables.specs.declared.work.Work.{Work}
use Rattle.onix_records.specs.Message.{message_of}
use Rattle.onix_records.specs.declared.faults.StoreFault.{StoreFault}
use Rattle.onix_records.specs.declared.parts.Header.{Header}
use Rattle.onix_records.specs.declared.parts.Product.{Product}
use Rattle.series_rules.specs.Answers.{delivery_answer}
use Rattle.series_rules.specs.declared.answers.DeliveryAnswer.{DeliveryAnswer}
use Rattle.series_rules.specs.declared.requests.Request.TheVariants.{Deliver}
use Rattle.desk_rows.specs.Answering.{AnswersMessage}
use Rattle.series_rules.specs.declared.requests.Request.{Request}
use Rattle.series_rules.specs.Changes.{changes, is_question}
use Rattle.series_rules.specs.Views.{Asks, AsksOnly, IsFaultOf, Stays}
use Rattle.desk_rows.proofs.ComesTo.{stored, rows_come}
use Rattle.desk_rows.specs.Desks.{Answers, Finishes, HoldsRequests, KeepsRequests, OnlyAnswers}
use Rattle.desk_rows.specs.Seen.{in_tables, seen_in}
use Rattle.desk_rows.specs.Stands.{StandsFor}

-- ---- begun

either : {P : Type 0} → P ⊎ ⊥ → P
either (inl p) = p
either (inr x) = absurd x

-- what is known once a transaction is begun
record IsBegun (L : List Request) (s0 s1 : State) : Type 0 where
  was_open : IsTrue s0.is_open
  now : HoldsRequests s1.now L
  committed : HoldsRequests s1.committed L
  crash : (d : Trees) → s1.may_leave d → s0.may_leave d

is_begun : {W : Type 0} (w : W) (L : List Request) (s0 s1 : State) → HasCleanDisk s1 → BeginsWork {A = W} {E = StoreFault} s0 s1 (Ok w) → KeepsRequests s0 L → IsBegun L s0 s1
is_begun w L s0 s1 clean begun keeps =
    let shows = (begun.begun clean).0 in
    let kept = keeps shows.was_open in
    record {
      was_open = shows.was_open;
      now = subst (λ db. HoldsRequests db L) (sym shows.now_is) kept.1;
      committed = subst (λ db. HoldsRequests db L) (sym shows.committed_is) kept.2;
      crash = λ d may. either (begun.survives.crash clean d may);
    }

-- ---- undone

-- the transaction is undone: what was committed before stands
undone_keeps : (L : List Request) (s0 s1 s2 s3 : State) → IsBegun L s0 s1 → KeepsCommit s1 s2 → IsUndone s2 s3 → KeepsRequests s3 L
undone_keeps L s0 s1 s2 s3 begun kept undone = λ up.
    let open2 = undone.was_open up in
    let committed = kept.committed open2 in (
      undone.autocommit,
      subst (λ db. HoldsRequests db L) (sym (undone.now up ∙ committed)) begun.committed,
      subst (λ db. HoldsRequests db L) (sym (undone.committed up ∙ committed)) begun.committed,
    )

-- where a transaction is undone, what was committed stays
undone_holds : {W : Type 0} (w : W) (s0 s1 s2 s3 : State) → HasCleanDisk s1 → BeginsWork {A = W} {E = StoreFault} s0 s1 (Ok w) → KeepsCommit s1 s2 → IsUndone s2 s3 → (d : Trees) → (seen_in s0).holds d → (seen_in s3).holds d
undone_holds w s0 s1 s2 s3 clean begins kept undone d held = λ up.
    let shows = (begins.begun clean).0 in
    let same = undone.committed up ∙ kept.committed (undone.was_open up) ∙ shows.committed_is in
    ap (λ (db : Database). db.trees) same ∙ held shows.was_open

-- and so a crash leaves nothing more
undone_stays : {W : Type 0} (w : W) (s0 s1 s2 s3 : State) → HasCleanDisk s1 → BeginsWork {A = W} {E = StoreFault} s0 s1 (Ok w) → KeepsCommit s1 s2 → IsUndone s2 s3 → ((d : Trees) → s3.may_leave d → s0.may_leave d) → Stays (seen_in s0) (seen_in s3)
undone_stays w s0 s1 s2 s3 clean begins kept undone left = λ d. (undone_holds w s0 s1 s2 s3 clean begins kept undone d, λ may. left d may)

-- a fault in it undoes it
asked_failed : {A B W : Type 0} (w : W) (r : Request) (answer : List Request → A) (Post : DeskRows → B → DeskRows → Type 0) (s0 s1 s2 s3 : State) (e : StoreFault) → BeginsWork {A = W} {E = StoreFault} s0 s1 (Ok w) → Achieves {A = B} Post s1 s2 (Err e)
    → (HasCleanDisk s3 → IsUndone s2 s3) → Survives s2 s3 NoTrees → Asks {A = A} r answer (seen_in s0) (seen_in s3) (Err e)
asked_failed w r answer Post s0 s1 s2 s3 e begins done undone survives = record {
  premise = λ clean. clean0 (clean1 (clean2 clean));
  ok = λ L keeps clean. tt;
  err = λ L keeps clean. let begun = is_begun w L s0 s1 (clean1 (clean2 clean)) begins keeps in undone_keeps L s0 s1 s2 s3 begun (done.kept (clean2 clean)) (undone clean);
  crash = λ L keeps clean d may.
      let begun = is_begun w L s0 s1 (clean1 (clean2 clean)) begins keeps in
      inl (begun.crash d (either (done.survives.crash (clean2 clean) d (either (survives.crash clean d may)))));
  changed = λ L keeps clean change. tt;
  question = λ is clean. undone_stays w s0 s1 s2 s3 (clean1 (clean2 clean)) begins (done.kept (clean2 clean)) (undone clean)
      (λ d may. either (begins.survives.crash (clean1 (clean2 clean)) d (either (done.survives.crash (clean2 clean) d (either (survives.crash clean d may))))));
  undone = λ clean. undone_holds w s0 s1 s2 s3 (clean1 (clean2 clean)) begins (done.kept (clean2 clean)) (undone clean);
  fault = inr tt;
}
  where
    clean2 : HasCleanDisk s3 → HasCleanDisk s2
    clean2 clean = omega (arith, survives.clean)

    clean1 : HasCleanDisk s2 → HasCleanDisk s1
    clean1 clean = omega (arith, done.survives.clean)

    clean0 : HasCleanDisk s1 → HasCleanDisk s0
    clean0 clean = omega (arith, begins.survives.clean)

-- ---- done

differ : false ≡ true → ⊥
differ e = absurd cc

module _ {A W : Type 0} (w : W) (r : Request) (plain : is_question r ≡ false) (answer : List Request → A) (s0 s1 s2 s3 : State) (a : A) (spent : Bool) (begins : BeginsWork {A = W} {E = StoreFault} s0 s1 (Ok w)) (done : Achieves (Answers r answer) s1 s2 (Ok a)) where
  clean1 : HasCleanDisk s2 → HasCleanDisk s1
  clean1 clean = omega (arith, done.survives.clean)

  clean0 : HasCleanDisk s1 → HasCleanDisk s0
  clean0 clean = omega (arith, begins.survives.clean)

  -- what stands in the transaction once it is done
  stands_now : HasCleanDisk s2 → (L : List Request) → KeepsRequests s0 L → HoldsRequests s2.now (r ∷ L) × (a ≡ answer L)
  stands_now clean L keeps =
      let begun = is_begun w L s0 s1 (clean1 clean) begins keeps in
      let gives = done.gives clean begun.now.0 begun.now.1 in
      let post = gives.2 L begun.now.2 in
      ((gives.0, gives.1, post.0), post.1)

  -- a crash leaves what it could leave before, or the request
  crash_done : {B E : Type 0} (result : Result B E) → EndsWork s2 s3 spent result → HasCleanDisk s3 → (L : List Request) → KeepsRequests s0 L → (d : Trees) → s3.may_leave d → s0.may_leave d ⊎ ((is_question r ≡ false) × in_tables.comes_to d (r ∷ L))
  crash_done result ends clean L keeps d may = go (ends.survives.crash clean d may)
    where
      clean2 : HasCleanDisk s2
      clean2 = omega (arith, ends.survives.clean)

      go : s2.may_leave d ⊎ ((spent ≡ false) × (d ≡ s2.now.trees)) → s0.may_leave d ⊎ ((is_question r ≡ false) × in_tables.comes_to d (r ∷ L))
      go (inl before) = inl ((is_begun w L s0 s1 (clean1 clean2) begins keeps).crash d (either (done.survives.crash clean2 d before)))
      go (inr now) = inr (plain, rows_come d (r ∷ L) (s2.now, sym now.1, stored s2.now (r ∷ L) (stands_now clean2 L keeps).0))

  -- it is committed
  asked_done : {B : Type 0} (b : B) → EndsWork {E = StoreFault} s2 s3 spent (Ok b) → (HasCleanDisk s3 → LeavesOnly s3) → Asks r answer (seen_in s0) (seen_in s3) (Ok a)
  asked_done b ends durable = record {
    premise = λ clean. clean0 (clean1 (clean2 clean));
    ok = λ L keeps clean.
        let now = stands_now (clean2 clean) L keeps in
        let committed = ends.committed clean in
        (now.1, λ up. (committed.autocommit, subst (λ db. HoldsRequests db (r ∷ L)) (sym committed.now) now.0, subst (λ db. HoldsRequests db (r ∷ L)) (sym committed.committed) now.0));
    err = λ L keeps clean. tt;
    crash = λ L keeps clean. crash_done (Ok b) ends clean L keeps;
    changed = λ L keeps clean change. λ d may. rows_come d (r ∷ L) (s2.now, sym (durable clean d may ∙ ap (λ (db : Database). db.trees) (ends.committed clean).committed), stored s2.now (r ∷ L) (stands_now (clean2 clean) L keeps).0);
    question = λ is. absurd (differ (sym plain ∙ is));
    undone = λ clean. tt;
    fault = tt;
  }
    where
      clean2 : HasCleanDisk s3 → HasCleanDisk s2
      clean2 clean = omega (arith, ends.survives.clean)

  -- it is not committed
  asked_refused : (e : StoreFault) {B : Type 0} → EndsWork {A = B} s2 s3 spent (Err e) → Asks {A = A} r answer (seen_in s0) (seen_in s3) (Err e)
  asked_refused e ends = record {
    premise = λ clean. clean0 (clean1 (clean2 clean));
    ok = λ L keeps clean. tt;
    err = λ L keeps clean. let begun = is_begun w L s0 s1 (clean1 (clean2 clean)) begins keeps in undone_keeps L s0 s1 s2 s3 begun (done.kept (clean2 clean)) (ends.undone clean);
    crash = λ L keeps clean. crash_done (Err e) ends clean L keeps;
    changed = λ L keeps clean change. tt;
    question = λ is. absurd (differ (sym plain ∙ is));
    undone = λ clean. undone_holds w s0 s1 s2 s3 (clean1 (clean2 clean)) begins (done.kept (clean2 clean)) (ends.undone clean);
    fault = inr tt;
  }
    where
      clean2 : HasCleanDisk s3 → HasCleanDisk s2
      clean2 clean = omega (arith, ends.survives.clean)

ended : {A W : Type 0} (w : W) (r : Request) → is_question r ≡ false → (answer : List Request → A) (s0 s1 s2 s3 : State) (spent : Bool) (given result : Result A StoreFault) → BeginsWork {A = W} {E = StoreFault} s0 s1 (Ok w)
    → Achieves (Answers r answer) s1 s2 given → Finishes s2 s3 spent given result → Asks r answer (seen_in s0) (seen_in s3) result
ended {A} w r plain answer s0 s1 s2 s3 spent (Err e) result begins done (is, undoes) =
    subst (λ (x : Result A StoreFault). Asks r answer (seen_in s0) (seen_in s3) x) (sym is) (asked_failed w r answer (Answers r answer) s0 s1 s2 s3 e begins done undoes.undone undoes.survives)
ended {A} w r plain answer s0 s1 s2 s3 spent (Ok a) result begins done (inl (is, ends)) =
    subst (λ (x : Result A StoreFault). Asks r answer (seen_in s0) (seen_in s3) x) (sym is) (asked_done w r plain answer s0 s1 s2 s3 a spent begins done tt ends.ends ends.durable)
ended {A} w r plain answer s0 s1 s2 s3 spent (Ok a) result begins done (inr (e, is, ends)) =
    subst (λ (x : Result A StoreFault). Asks r answer (seen_in s0) (seen_in s3) x) (sym is) (asked_refused w r plain answer s0 s1 s2 s3 a spent begins done e ends.ends)

-- a request whose transaction was ended
pub asked : {S A W : Type 0} {store : Ghosts S} {r : Request} {answer : List Request → A} {before after : Work S} {w : W} {given result : Result A StoreFault} (old end new : Tables S) → end ≡ new → is_question r ≡ false → BeginsWork {A = W} {E = StoreFault} (state_of store old) (seen store before) (Ok w)
    → Does store (Answers r answer) before after given → Finishes (seen store after) (state_of store end) after.spent given result → Asks r answer (seen_in (state_of store old)) (seen_in (state_of store new)) result
asked {store = store} {r = r} {answer = answer} {before = before} {after = after} {w = w} {given = given} {result = result} old end new same plain begins done finishes =
    subst (λ t. Asks r answer (seen_in (state_of store old)) (seen_in (state_of store t)) result) same
    (ended w r plain answer (state_of store old) (seen store before) (seen store after) (state_of store end) after.spent given result begins done.achieves finishes)

-- a message with a number is answered whatever its records
pub message_asked : {S : Type 0} {store : Ghosts S} {header : Header} {number : ℕ} {contents : List Product} {old new : Work S} {result : Result DeliveryAnswer StoreFault} (records : List (List (List ℕ))) → message_of records ≡ Some (header, contents) → header.number ≡ Some number
    → Does store (AnswersMessage header number contents) old new result → Does store (Answers (Deliver records) (λ L. delivery_answer L records)) old new result
message_asked records read number done = did_also done (λ rows now answer one. one records read number)

-- ---- answered without a transaction

-- a request that puts nothing anywhere is answered by what it is alone
pub asked_alone : {A : Type 0} (r : Request) (answer : List Request → A) (s : State) (a : A) → ((L : List Request) → a ≡ answer L) → ((L : List Request) → changes L r ≡ false) → ((L : List Request) (rows : DeskRows) → StandsFor rows L → StandsFor rows (r ∷ L)) → Asks r answer (seen_in s) (seen_in s) (Ok a)
asked_alone r answer s a is nothing stands = record {
  premise = λ clean. clean;
  ok = λ L keeps clean. (is L, λ up. let kept = keeps up in (kept.0, (kept.1.0, kept.1.1, stands L kept.1.0 kept.1.2), (kept.2.0, kept.2.1, stands L kept.2.0 kept.2.2)));
  err = λ L keeps clean. tt;
  crash = λ L keeps clean d may. inl may;
  changed = λ L keeps clean change. absurd (differ (sym (nothing L) ∙ change));
  question = λ is clean d. (λ held. held, λ may. may);
  undone = λ clean. tt;
  fault = tt;
}

-- ---- questions

questioned : {A W : Type 0} (w : W) (answer : List Request → A) (s0 s1 s2 s3 : State) (result : Result A StoreFault) → BeginsWork {A = W} {E = StoreFault} s0 s1 (Ok w) → Achieves (OnlyAnswers answer) s1 s2 result → (HasCleanDisk s3 → IsUndone s2 s3) → Survives s2 s3 NoTrees
    → AsksOnly answer (seen_in s0) (seen_in s3) result
questioned {A} w answer s0 s1 s2 s3 result begins done undone survives = record {
  premise = λ clean. clean0 (clean1 (clean2 clean));
  ok = λ L keeps clean. let begun = is_begun w L s0 s1 (clean1 (clean2 clean)) begins keeps in told L begun.now.0 begun.now.2 result (done.gives (clean2 clean) begun.now.0 begun.now.1);
  left = λ L keeps clean. let begun = is_begun w L s0 s1 (clean1 (clean2 clean)) begins keeps in undone_keeps L s0 s1 s2 s3 begun (done.kept (clean2 clean)) (undone clean);
  stays = λ clean. undone_stays w s0 s1 s2 s3 (clean1 (clean2 clean)) begins (done.kept (clean2 clean)) (undone clean)
      (λ d may. either (begins.survives.crash (clean1 (clean2 clean)) d (either (done.survives.crash (clean2 clean) d (either (survives.crash clean d may))))));
  fault = may_be result;
}
  where
    clean2 : HasCleanDisk s3 → HasCleanDisk s2
    clean2 clean = omega (arith, survives.clean)

    clean1 : HasCleanDisk s2 → HasCleanDisk s1
    clean1 clean = omega (arith, done.survives.clean)

    clean0 : HasCleanDisk s1 → HasCleanDisk s0
    clean0 clean = omega (arith, begins.survives.clean)

    may_be : (r : Result A StoreFault) → IfErr r (IsFaultOf in_tables)
    may_be (Ok a) = tt
    may_be (Err e) = inr tt

    told : (L : List Request) (rows : DeskRows) → StandsFor rows L → (r : Result A StoreFault) → IfOk r (λ a. (after : DeskRows) × Holds s2.now after × OnlyAnswers answer rows a after) → IfOk r (λ a. a ≡ answer L)
    told L rows stands (Ok a) h = h.2.1 L stands
    told L rows stands (Err e) h = tt

-- a question whose transaction was let go
pub told : {S A W : Type 0} {store : Ghosts S} {answer : List Request → A} {before after : Work S} {w : W} {result : Result A StoreFault} (old let_go new : Tables S) → let_go ≡ new → BeginsWork {A = W} {E = StoreFault} (state_of store old) (seen store before) (Ok w)
    → Does store (OnlyAnswers answer) before after result → Undoes (seen store after) (state_of store let_go) → AsksOnly answer (seen_in (state_of store old)) (seen_in (state_of store new)) result
told {store = store} {answer = answer} {before = before} {after = after} {w = w} {result = result} old let_go new same begins done undone =
    subst (λ t. AsksOnly answer (seen_in (state_of store old)) (seen_in (state_of store t)) result) same
    (questioned w answer (state_of store old) (seen store before) (seen store after) (state_of store let_go) result begins done.achieves undone.undone undone.survives)
