-- What a step is where a row of one kind was read, and if none was.
use Rattle.std.proofs.Common.{◌≡◌, ℕ, true, refl}
use Rattle.std.specs.Prelude.{Option, Some, None, Result, Ok, Err, IfErr, OnOk, option_map}
use Rattle.std.specs.Result.{IsErrAnd}
use Rattle.std.proofs.lemmas.Option.{same_Some}
use Rattle.onix_records.specs.Gives.{Gives}
use Rattle.onix_records.specs.Grammar.{is_counted}
use Rattle.onix_records.specs.Draft.{Adds, Refuses, Steps}
use Rattle.onix_records.specs.declared.draft.Draft.{Draft}
use Rattle.onix_records.specs.declared.row.Row.{Row}
use Rattle.onix_records.specs.declared.row.RowFault.{RowFault}
use Rattle.onix_records.specs.declared.row.RowFault.TheVariants as fault
use Rattle.onix_records.specs.Row.{message_row}
use Rattle.onix_records.specs.declared.row.Opening.{Opening}
use Rattle.onix_records.proofs.RowLists.{no-header}

-- a row that was made and added, or refused
pub made-steps : {A : Type 0} (make : A → Row) (read : Option A) (x : A) (result : Result (Unit {0}) RowFault) (old : Draft) (before : ℕ) (new : Draft) → read ≡ Some x
    → is_counted (make x) before ≡ true → OnOk result (Adds old (make x) new) → IfErr result (λ e. Refuses old (make x) e) → Steps result (option_map make read) old before new
made-steps make None x result old before new e counted added refused = cc e
made-steps make (Some y) x (Ok u) old before new e counted added refused =
    rw (same_Some y x e) (record { added = make x; reads = refl; counted = counted; adds = added })
made-steps make (Some y) x (Err fault.Wrong) old before new e counted added refused = λ r is _ allowed. cc (same_Some y x e, same_Some (make y) r is, allowed, refused)
made-steps make (Some y) x (Err fault.Memory) old before new e counted added refused = tt

-- a row that was not made
pub failed-steps : {A : Type 0} (make : A → Row) (read : Option A) (e : RowFault) (result : Result (Unit {0}) RowFault) (old : Draft) (before : ℕ) (new : Draft) → Gives (Err e) read
    → IsErrAnd result (λ r. r ≡ e) → Steps result (option_map make read) old before new
failed-steps make read e (Ok u) old before new g is = absurd is
failed-steps make None fault.Wrong (Err r) old before new g is = rw is (λ x found _ _. cc found)
failed-steps make (Some x) fault.Wrong (Err r) old before new g is = cc g
failed-steps make read fault.Memory (Err r) old before new g is = rw is tt

-- a second header
pub header-steps : (read : Option Opening) (old : Draft) (before : ℕ) (new : Draft) → Steps (Err fault.Wrong) (option_map message_row read) old before new
header-steps None old before new = λ r is _ _. cc is
header-steps (Some o) old before new = λ r is _ allowed. cc (same_Some (message_row o) r is, allowed, no-header old.part o.header)
