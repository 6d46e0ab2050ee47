-- How what several calls come to follows from what each call does. Each lemma names the states
-- before, between and after.
use Rattle.std.proofs.Common.{◌≡◌, Bool, Ok, Err, Result, IfOk, OnOk, IsTrue, refl, arith, ◌∙◌}
use Rattle.sqlite.specs.State.{State, HasCleanDisk, KeepsCommit}
use Rattle.sqlite.proofs.StateLemmas.{survives_then}
use Rattle.onix_records.specs.declared.faults.StoreFault.{StoreFault}
use Rattle.desk_tables.specs.Rows.{DeskRows, Holds, unchanged}
use Rattle.desk_tables.specs.Schema.{desk_schema}
use Rattle.desk_tables.specs.Transactions.{Adding, Works, NoTrees}
use Rattle.desk_tables.proofs.Control.{kept_itself, survives_itself}
use Rattle.desk_tables.specs.Calls.{seen}
use Rattle.desk_tables.specs.declared.work.Work.{Work}
use Rattle.sqlite_trees.specs.declared.store.Store.{Ghosts}
use Rattle.desk_catalogue.specs.Achieves.{Achieves, Does}
use Rattle.desk_catalogue.specs.Calls.{ChangesRows}

-- ---- a function

-- what a function does with the transaction that it is lent
pub does : {S A : Type 0} {store : Ghosts S} {Post : DeskRows → A → DeskRows → Type 0}
    {old new : Work S} {result : Result A StoreFault}
    → new.tables.ghost_name ≡ old.tables.ghost_name
    → Achieves Post (seen store old) (seen store new) result → Does store Post old new result
does same achieves = record { same_reference = same; achieves = achieves }

-- ---- one call

-- a call of `Work`
pub achieves_call : {A : Type 0} (Answer : DeskRows → A → Type 0) (change : DeskRows → DeskRows)
    (old new : State) (was now : Bool) (result : Result A StoreFault)
    → Works Answer change old new was now result
    → Achieves (λ rows a after. Answer rows a × (after ≡ change rows)) old new result
achieves_call {A} Answer change old new was now result works = record {
  gives = λ clean rows h. given rows result (works.gives clean rows h);
  goes_on = λ clean has. schema result (works.stays clean has);
  stays_open = λ clean has began opened. open_still result (works.goes_on clean)
      (works.stays clean has);
  kept = works.kept;
  survives = works.survives;
}
  where
    given : (rows : DeskRows) (r : Result A StoreFault)
        → IfOk r (λ a. Answer rows a × Holds new.now (change rows))
        → IfOk r (λ a. (after : DeskRows) × Holds new.now after
        × (Answer rows a × (after ≡ change rows)))
    given rows (Ok a) h = (change rows, h.1, (h.0, refl))
    given rows (Err e) h = tt

    schema : (r : Result A StoreFault) → OnOk r
        (IsTrue new.is_open × (new.now.schema ≡ desk_schema))
        → OnOk r (new.now.schema ≡ desk_schema)
    schema (Ok a) h = h.1
    schema (Err e) h = tt

    open_still : (r : Result A StoreFault) → OnOk r (IsTrue new.in_transaction)
        → OnOk r (IsTrue new.is_open × (new.now.schema ≡ desk_schema))
        → OnOk r (IsTrue new.in_transaction × IsTrue new.is_open)
    open_still (Ok a) inside h = (inside, h.0)
    open_still (Err e) inside h = tt

-- a call of `Work` that adds rows, perhaps none
pub achieves_added : {A : Type 0} {change : DeskRows → DeskRows} {old new : State}
    {result : Result A StoreFault} → Adding unchanged change old new result
    → Achieves (ChangesRows change) old new result
achieves_added {A} {change} {old} {new} {result} adds = record {
  gives = λ clean rows h. given rows result (adds.gives clean rows h);
  goes_on = adds.keeps_schema;
  stays_open = λ clean has began opened. open_still result (adds.goes_on clean)
      (adds.stays_open clean has opened) began;
  kept = adds.kept;
  survives = adds.survives;
}
  where
    given : (rows : DeskRows) (r : Result A StoreFault) → OnOk r (Holds new.now (change rows))
        → IfOk r (λ a. (after : DeskRows) × Holds new.now after × (after ≡ change rows))
    given rows (Ok a) h = (change rows, h, refl)
    given rows (Err e) h = tt

    open_still : (r : Result A StoreFault) → OnOk r (new.in_transaction ≡ old.in_transaction)
        → OnOk r (IsTrue new.is_open) → IsTrue old.in_transaction
        → OnOk r (IsTrue new.in_transaction × IsTrue new.is_open)
    open_still (Ok a) same up began = (same ∙ began, up)
    open_still (Err e) same up began = tt

-- ---- no call

-- nothing was done, and `Ok` is answered
pub achieves_nothing : {A : Type 0} (Post : DeskRows → A → DeskRows → Type 0) (s : State) (a : A)
    → ((rows : DeskRows) → Holds s.now rows → Post rows a rows) → Achieves Post s s (Ok a)
achieves_nothing Post s a post = record {
  gives = λ clean rows h. (rows, h, post rows h);
  goes_on = λ clean has. has;
  stays_open = λ clean has began opened. (began, opened);
  kept = λ clean. kept_itself s;
  survives = survives_itself s _;
}

-- ---- a fault

-- after what was done, the function gives up
pub achieves_stopped : {A B : Type 0} (First : DeskRows → A → DeskRows → Type 0)
    (Post : DeskRows → B → DeskRows → Type 0) (old new : State) (r : Result A StoreFault)
    (e : StoreFault) → Achieves First old new r
    → Achieves {A = B} Post old new (Err e)
achieves_stopped First Post old new r e first = record {
  gives = λ clean rows h. tt;
  goes_on = λ clean has. tt;
  stays_open = λ clean has began opened. tt;
  kept = first.kept;
  survives = first.survives;
}

-- ---- other words

-- what was done is told in other words, and answered by another value
pub achieves_as : {A B : Type 0} (First : DeskRows → A → DeskRows → Type 0)
    (Post : DeskRows → B → DeskRows → Type 0) (old new : State) (a : A) (b : B)
    → Achieves First old new (Ok a)
    → ((rows after : DeskRows) → Holds old.now rows → Holds new.now after → First rows a after
    → Post rows b after) → Achieves Post old new (Ok b)
achieves_as First Post old new a b first join = record {
  gives = λ clean rows h. let one = first.gives clean rows h in
      (one.0, one.1, join rows one.0 h one.1 one.2);
  goes_on = first.goes_on;
  stays_open = first.stays_open;
  kept = first.kept;
  survives = first.survives;
}

-- what was done is told in other words, whatever was answered
pub achieves_also : {A : Type 0} (First Post : DeskRows → A → DeskRows → Type 0) (old new : State)
    (r : Result A StoreFault) → Achieves First old new r
    → ((rows after : DeskRows) (a : A) → Holds old.now rows → Holds new.now after
    → First rows a after → Post rows a after) → Achieves Post old new r
achieves_also {A} First Post old new r first join = record {
  gives = λ clean rows h. given rows h r (first.gives clean rows h);
  goes_on = first.goes_on;
  stays_open = first.stays_open;
  kept = first.kept;
  survives = first.survives;
}
  where
    given : (rows : DeskRows) → Holds old.now rows → (q : Result A StoreFault)
        → IfOk q (λ a. (after : DeskRows) × Holds new.now after × First rows a after)
        → IfOk q (λ a. (after : DeskRows) × Holds new.now after × Post rows a after)
    given rows held (Ok a) h = (h.0, h.1, join rows h.0 a held h.1 h.2)
    given rows held (Err e) h = tt

-- ---- one after the other

-- what was done, and then more; the answer is that of the second
pub achieves_then : {A B : Type 0} (First : DeskRows → A → DeskRows → Type 0)
    (Second Post : DeskRows → B → DeskRows → Type 0) (old mid new : State) (a : A)
    (r : Result B StoreFault) → Achieves First old mid (Ok a)
    → Achieves Second mid new r → ((rows between after : DeskRows) (b : B) → Holds old.now rows
    → Holds mid.now between → Holds new.now after → First rows a between
    → Second between b after → Post rows b after)
    → Achieves Post old new r
achieves_then {A} {B} First Second Post old mid new a r first second join = record {
  gives = λ clean rows h. let one = first.gives (early clean) rows h in given rows h one.0 one.1
      one.2 r (second.gives clean one.0 one.1);
  goes_on = λ clean has. second.goes_on clean (first.goes_on (early clean) has);
  stays_open = λ clean has began opened. let still =
      first.stays_open (early clean) has began opened in second.stays_open clean
      (first.goes_on (early clean) has) still.0 still.1;
  kept = λ clean. kept_then (first.kept (early clean)) (second.kept clean);
  survives = survives_then old mid new NoTrees NoTrees NoTrees (λ _ db none. none)
      (λ _ db none. none) first.survives second.survives;
}
  where
    early : HasCleanDisk new → HasCleanDisk mid
    early clean = omega (arith, second.survives.clean)

    given : (rows : DeskRows) → Holds old.now rows → (between : DeskRows) → Holds mid.now between
        → First rows a between → (q : Result B StoreFault)
        → IfOk q (λ b. (after : DeskRows) × Holds new.now after × Second between b after)
        → IfOk q (λ b. (after : DeskRows) × Holds new.now after × Post rows b after)
    given rows held between then one (Ok b) h =
        (h.0, h.1, join rows between h.0 b held then h.1 one h.2)
    given rows held between then one (Err e) h = tt

    kept_then : KeepsCommit old mid → KeepsCommit mid new → KeepsCommit old new
    kept_then p q = record {
      was_open = λ o. p.was_open (q.was_open o);
      committed = λ o. q.committed
          o ∙ p.committed (q.was_open o);
    }

-- what was done, and then an answer or a fault without a further call
pub achieves_answers : {A B : Type 0} (First : DeskRows → A → DeskRows → Type 0)
    (Post : DeskRows → B → DeskRows → Type 0) (old new : State) (a : A) (r : Result B StoreFault)
    → Achieves First old new (Ok a)
    → ((rows after : DeskRows) → Holds old.now rows → Holds new.now after → First rows a after
    → IfOk r (λ b. Post rows b after)) → Achieves Post old new r
achieves_answers First Post old new a (Ok b) first join =
    achieves_as First Post old new a b first join
achieves_answers First Post old new a (Err e) first join =
    achieves_stopped First Post old new (Ok a) e first
