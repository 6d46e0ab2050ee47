-- Statements that add rows, one after the other.
use Rattle.std.proofs.Common.{◌≡◌, ◌⊎◌, inl, inr, ℕ, List, true, false, Ok, Err, Result, OnOk, IsTrue, refl, arith, sym, subst, ◌∙◌}
use Rattle.std.proofs.lemmas.Bool.{cases_Bool}
use Rattle.sqlite_value.specs.Order.{Row}
use Rattle.sqlite_trees.specs.declared.store.Store.{Ghosts}
use Rattle.sqlite_disk.specs.Disk.{MoreFaults}
use Rattle.sqlite.specs.State.{State, HasCleanDisk, KeepsCommit}
use Rattle.sqlite.proofs.StateLemmas.{survives_then}
use Rattle.onix_records.specs.declared.faults.StoreFault.{StoreFault}
use Rattle.onix_records.specs.declared.faults.StoreFault.TheVariants.{Disk, Memory, Size, Unusable}
use Rattle.desk_tables.specs.Calls.{AddsBetween, Runs, seen}
use Rattle.desk_tables.specs.Rows.{DeskRows, Holds}
use Rattle.desk_tables.specs.Schema.{desk_schema}
use Rattle.desk_tables.specs.Transactions.{Adding, IsOfStore, IsRefusal, IsRefusedOrUnasked, IsUndone, NoTrees}
use Rattle.desk_tables.specs.declared.work.Work.{Work}
use Rattle.desk_tables.proofs.Control.{kept_itself, survives_itself}
use Rattle.desk_tables.proofs.RecordCalls.{or_unasked}

-- no statement
pub adding_none : {A : Type 0} (f : DeskRows → DeskRows) (s : State) (a : A) → Adding f f s s (Ok a)
adding_none f s a = record {
  gives = λ clean rows h. h;
  goes_on = λ clean. refl;
  keeps_schema = λ clean has. has;
  stays_open = λ clean has up. up;
  kept = λ clean. kept_itself s;
  survives = survives_itself s _;
}

-- no statement, and a fault
adding_fault : {A : Type 0} {f h : DeskRows → DeskRows} (s : State) (e : StoreFault) → Adding {A = A} f h s s (Err e)
adding_fault s e = record {
  gives = λ clean rows h. tt;
  goes_on = λ clean. tt;
  keeps_schema = λ clean has. tt;
  stays_open = λ clean has up. tt;
  kept = λ clean. kept_itself s;
  survives = survives_itself s _;
}

-- it gives up before a statement
pub adding_stopped : {A B : Type 0} {f g h : DeskRows → DeskRows} {old new : State} {r : Result A StoreFault} (e : StoreFault) → Adding f g old new r → Adding {A = B} f h old new (Err e)
adding_stopped e first = record {
  gives = λ clean rows h. tt;
  goes_on = λ clean. tt;
  keeps_schema = λ clean has. tt;
  stays_open = λ clean has up. tt;
  kept = first.kept;
  survives = first.survives;
}

-- further statements
pub adding_then : {A B : Type 0} {f g h : DeskRows → DeskRows} {old mid new : State} {a : A} {r : Result B StoreFault} → Adding f g old mid (Ok a) → Adding g h mid new r → Adding f h old new r
adding_then {A} {B} {f} {g} {h} {old} {mid} {new} {a} {r} first second = record {
  gives = λ clean rows held. second.gives clean rows (first.gives (early clean) rows held);
  goes_on = λ clean. same r (first.goes_on (early clean)) (second.goes_on clean);
  keeps_schema = λ clean has. second.keeps_schema clean (first.keeps_schema (early clean) has);
  stays_open = λ clean has up. second.stays_open clean (first.keeps_schema (early clean) has) (first.stays_open (early clean) has up);
  kept = λ clean. kept_then (first.kept (early clean)) (second.kept clean);
  survives = survives_then old mid new NoTrees NoTrees NoTrees (λ _ db none. none) (λ _ db none. none) first.survives second.survives;
}
  where
    early : HasCleanDisk new → HasCleanDisk mid
    early clean = omega (arith, second.survives.clean)

    same : (q : Result B StoreFault) → mid.in_transaction ≡ old.in_transaction → OnOk q (new.in_transaction ≡ mid.in_transaction) → OnOk q (new.in_transaction ≡ old.in_transaction)
    same (Ok b) p q = q ∙ p
    same (Err e) p q = tt

    kept_then : KeepsCommit old mid → KeepsCommit mid new → KeepsCommit old new
    kept_then p q = record { was_open = λ o. p.was_open (q.was_open o); committed = λ o. q.committed o ∙ p.committed (q.was_open o) }

-- a fault of a statement after those
pub refused_behind : {A B : Type 0} {f g h k : DeskRows → DeskRows} {old mid new : State} {a : A} {r : Result B StoreFault} → Adding f g old mid (Ok a) → Adding h k mid new r → IsRefusedOrUnasked mid new r → IsRefusedOrUnasked old new r
refused_behind {r = Ok b} first second refused clean = tt
refused_behind {old = old} {mid} {new} {r = Err e} first second refused clean = elim (refused clean) [
  | inl it ↦ inl (refusal it)
  | inr it ↦ inr (it.0, it.1 ∙ first.goes_on early)
]
  where
    early : HasCleanDisk mid
    early = omega (arith, second.survives.clean)

    kept : KeepsCommit old mid
    kept = first.kept early

    undone : IsUndone mid new → IsUndone old new
    undone u = record { autocommit = u.autocommit; was_open = λ up. kept.was_open (u.was_open up); now = λ up. u.now up ∙ kept.committed (u.was_open up); committed = λ up. u.committed up ∙ kept.committed (u.was_open up) }

    shut : mid.is_open ≡ false → MoreFaults old.faults new.faults ⊎ (old.is_open ≡ false)
    shut is = elim (cases_Bool old.is_open) [
      | inl up ↦ elim (first.survives.closes early up) [ inl still ↦ absurd (let no : true ≡ false = sym still ∙ is in cc) | inr more ↦ inl (omega (arith, more, second.survives.counts)) ]
      | inr down ↦ inr down
    ]

    cause : (fault : StoreFault) → IsOfStore mid new fault → IsOfStore old new fault
    cause Memory it = tt
    cause Size it = tt
    cause Disk (inl more) = inl (omega (arith, more, first.survives.counts))
    cause Disk (inr is) = shut is
    cause Unusable it = it

    refusal : IsRefusal mid new e → IsRefusal old new e
    refusal (inl it) = inl (it.0, it.1 ∙ first.goes_on early)
    refusal (inr it) = inr (cause e it.0, undone it.1)

-- ---- the calls

-- a spent transaction refuses the call
pub adds_refused : {S A : Type 0} {store : Ghosts S} {f h : DeskRows → DeskRows} (w : Work S) → w.spent ≡ true → AddsBetween {A = A} store f h w w (Err Unusable)
adds_refused {store = store} w spent = record {
  same_reference = refl;
  untouched = λ _. (refl, refl);
  spent = spent;
  refusal = λ clean. inl (inl (refl, refl));
  adds = adding_fault (seen store w) Unusable;
}

-- memory lacked before the store was asked
pub adds_unasked : {S A : Type 0} {store : Ghosts S} {f h : DeskRows → DeskRows} (w : Work S) → w.spent ≡ false → AddsBetween {A = A} store f h w (record w { spent = true }) (Err Memory)
adds_unasked {store = store} w unspent = record {
  same_reference = refl;
  untouched = λ s. absurd (let no : true ≡ false = sym s ∙ unspent in cc);
  spent = refl;
  refusal = λ clean. inr (refl, refl);
  adds = adding_fault (seen store w) Memory;
}

-- all was done
pub adds_done : {S A : Type 0} {store : Ghosts S} {f h : DeskRows → DeskRows} {old new : Work S} (a : A) → new.tables.ghost_name ≡ old.tables.ghost_name → old.spent ≡ false → new.spent ≡ false → Adding f h (seen store old) (seen store new) (Ok a)
    → AddsBetween store f h old new (Ok a)
adds_done a same unspent still adds = record {
  same_reference = same;
  untouched = λ s. absurd (let no : true ≡ false = sym s ∙ unspent in cc);
  spent = still;
  refusal = λ clean. tt;
  adds = adds;
}

-- a statement after those had a fault
pub adds_failed : {S A B C : Type 0} {store : Ghosts S} {f g h k : DeskRows → DeskRows} {old mid new : Work S} {sql : List ℕ} {params : Row} {a : A} {e : StoreFault} {r : Result B StoreFault} → r ≡ Err e → mid.tables.ghost_name ≡ old.tables.ghost_name → old.spent ≡ false
    → Adding f g (seen store old) (seen store mid) (Ok a) → Runs {A = C} store sql params mid new (Err e) → Adding {A = C} g k (seen store mid) (seen store new) (Err e) → AddsBetween store f h old new r
adds_failed {S} {A} {B} {C} {store} {f} {g} {h} {k} {old} {mid} {new} {sql} {params} {a} {e} is same unspent first ran second =
    subst (λ (q : Result B StoreFault). AddsBetween store f h old new q) (sym is)
    (record {
      same_reference = ran.same_reference ∙ same;
      untouched = λ s. absurd (let no : true ≡ false = sym s ∙ unspent in cc);
      spent = ran.spent;
      refusal = refused_behind {A = A} {B = B} {r = Err e} first (adding_stopped {B = B} {h = k} e second) (or_unasked {A = B} (seen store mid) (seen store new) (Err e) ran.refusal);
      adds = adding_stopped e (adding_then first second);
    })

-- a call over rows that were changed before
pub behind : {S A : Type 0} {store : Ghosts S} {f h : DeskRows → DeskRows} {old new : Work S} {r : Result A StoreFault} (k : DeskRows → DeskRows) → AddsBetween store f h old new r → AddsBetween store (λ rows. f (k rows)) (λ rows. h (k rows)) old new r
behind k call = record {
  same_reference = call.same_reference;
  untouched = call.untouched;
  spent = call.spent;
  refusal = call.refusal;
  adds = record {
    gives = λ clean rows held. call.adds.gives clean (k rows) held;
    goes_on = call.adds.goes_on;
    keeps_schema = call.adds.keeps_schema;
    stays_open = call.adds.stays_open;
    kept = call.adds.kept;
    survives = call.adds.survives;
  };
}

-- two calls, one after the other
pub adds_then : {S A B : Type 0} {store : Ghosts S} {f g h : DeskRows → DeskRows} {old mid new : Work S} {a : A} {r : Result B StoreFault} → AddsBetween store f g old mid (Ok a) → AddsBetween store g h mid new r → AddsBetween store f h old new r
adds_then first second = record {
  same_reference = second.same_reference ∙ first.same_reference;
  untouched = λ s. absurd (let no = (first.untouched s).0 in cc);
  spent = second.spent;
  refusal = refused_behind first.adds second.adds second.refusal;
  adds = adding_then first.adds second.adds;
}

-- the first of two has a fault, which is handed on
pub adds_stopped : {S A B : Type 0} {store : Ghosts S} {f g h : DeskRows → DeskRows} {old new : Work S} {e : StoreFault} {r : Result B StoreFault} → r ≡ Err e → AddsBetween {A = A} store f g old new (Err e) → AddsBetween store f h old new r
adds_stopped {S} {A} {B} {store} {f} {g} {h} {old} {new} {e} is first =
    subst (λ (q : Result B StoreFault). AddsBetween store f h old new q) (sym is)
    (record {
      same_reference = first.same_reference;
      untouched = λ s. (let no = (first.untouched s).0 in cc, (first.untouched s).1);
      spent = first.spent;
      refusal = first.refusal;
      adds = adding_stopped e first.adds;
    })
