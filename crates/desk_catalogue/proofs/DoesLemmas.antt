-- How what a function does with the transaction that it is lent follows from what its calls do.
use Rattle.std.proofs.Common.{◌≡◌, Ok, Err, Result, IfOk, ap, refl, sym, subst, ◌∙◌}
use Rattle.onix_records.specs.declared.faults.StoreFault.{StoreFault}
use Rattle.desk_tables.specs.Rows.{DeskRows}
use Rattle.desk_tables.specs.Calls.{seen, Adds, AddsAll, Takes}
use Rattle.desk_tables.specs.Transactions.{NoAnswer}
use Rattle.desk_tables.specs.declared.work.Work.{Work}
use Rattle.sqlite_trees.specs.declared.store.Store.{Ghosts}
use Rattle.desk_catalogue.specs.Achieves.{Does}
use Rattle.desk_catalogue.specs.Calls.{ChangesRows, KeepsRows}
use Rattle.desk_catalogue.proofs.AchievesLemmas.{achieves_added, achieves_also, achieves_answers, achieves_as, achieves_call, achieves_nothing, achieves_stopped, achieves_then, does}

-- ---- one call of `Work`

pub called : {S A : Type 0} {store : Ghosts S} {Answer : DeskRows → A → Type 0}
    {change : DeskRows → DeskRows} {old new : Work S} {result : Result A StoreFault}
    → Takes store Answer change old new result
    → Does store (λ rows a after. Answer rows a × (after ≡ change rows)) old new result
called {S} {A} {store} {Answer} {change} {old} {new} {result} takes =
    does takes.same_reference (achieves_call Answer change (seen store old) (seen store new) old.spent new.spent result takes.works)

-- one that adds a row
pub put : {S A : Type 0} {store : Ghosts S} {change : DeskRows → DeskRows} {old new : Work S}
    {result : Result A StoreFault} → Adds store change old new result
    → Does store (ChangesRows change) old new result
put {S} {A} {store} {change} {old} {new} {result} adds =
    does adds.same_reference
    (achieves_also _ (ChangesRows change) (seen store old) (seen store new) result
    (achieves_call NoAnswer change (seen store old) (seen store new) old.spent new.spent result adds.works) (λ rows after a h n one. one.1))

-- one that adds rows, perhaps none
pub added : {S A : Type 0} {store : Ghosts S} {change : DeskRows → DeskRows} {old new : Work S}
    {result : Result A StoreFault} → AddsAll store change old new result
    → Does store (ChangesRows change) old new result
added adds = does adds.same_reference (achieves_added adds.adds)

-- ---- no call

pub did_nothing : {S A : Type 0} {store : Ghosts S} {Post : DeskRows → A → DeskRows → Type 0}
    {work : Work S} {a : A} → ((rows : DeskRows) → Post rows a rows)
    → Does store Post work work (Ok a)
did_nothing {S} {A} {store} {Post} {work} {a} post =
    does refl (achieves_nothing Post (seen store work) a (λ rows h. post rows))

-- ---- other words

-- what was done is told in other words, and answered by another value
pub did_as : {S A B : Type 0} {store : Ghosts S} {First : DeskRows → A → DeskRows → Type 0}
    {Post : DeskRows → B → DeskRows → Type 0} {old new : Work S} {a : A} {b : B}
    → Does store First old new (Ok a)
    → ((rows after : DeskRows) → First rows a after → Post rows b after)
    → Does store Post old new (Ok b)
did_as {S} {A} {B} {store} {First} {Post} {old} {new} {a} {b} first join =
    does first.same_reference (achieves_as First Post (seen store old) (seen store new) a b first.achieves (λ rows after h n. join rows after))

-- what was done is told in other words, whatever was answered
pub did_also : {S A : Type 0} {store : Ghosts S} {First Post : DeskRows → A → DeskRows → Type 0}
    {old new : Work S} {result : Result A StoreFault} → Does store First old new result
    → ((rows after : DeskRows) (a : A) → First rows a after → Post rows a after)
    → Does store Post old new result
did_also {S} {A} {store} {First} {Post} {old} {new} {result} first join =
    does first.same_reference (achieves_also First Post (seen store old) (seen store new) result first.achieves (λ rows after a h n. join rows after a))

-- an answer or a fault is told of it without a further call
pub did_answer : {S A B : Type 0} {store : Ghosts S} {First : DeskRows → A → DeskRows → Type 0}
    {Post : DeskRows → B → DeskRows → Type 0} {old new : Work S} {a : A}
    {result : Result B StoreFault} → Does store First old new (Ok a)
    → ((rows after : DeskRows) → First rows a after → IfOk result (λ b. Post rows b after))
    → Does store Post old new result
did_answer {S} {A} {B} {store} {First} {Post} {old} {new} {a} {result} first join =
    does first.same_reference (achieves_answers First Post (seen store old) (seen store new) a result first.achieves (λ rows after h n. join rows after))

-- ---- one after the other

-- what was done, and then more; the answer is that of the second
pub did_then : {S A B : Type 0} {store : Ghosts S} {First : DeskRows → A → DeskRows → Type 0}
    {Second Post : DeskRows → B → DeskRows → Type 0} {old mid new : Work S} {a : A}
    {result : Result B StoreFault} → Does store First old mid (Ok a)
    → Does store Second mid new result
    → ((rows between after : DeskRows) (b : B) → First rows a between → Second between b after
    → Post rows b after) → Does store Post old new result
did_then {S} {A} {B} {store} {First} {Second} {Post} {old} {mid} {new} {a} {result} first second join =
    does (second.same_reference ∙ first.same_reference)
    (achieves_then First Second Post (seen store old) (seen store mid) (seen store new) a result first.achieves second.achieves (λ rows between after b h m n. join rows between after b))

-- two answers of the same rows
pub both_told : {S A B : Type 0} {store : Ghosts S} {old mid new : Work S} {a : A}
    {result : Result B StoreFault} (First : DeskRows → A → Type 0) (Second : DeskRows → B → Type 0)
    → Does store (KeepsRows First) old mid (Ok a) → Does store (KeepsRows Second) mid new result
    → Does store (KeepsRows (λ rows b. First rows a × Second rows b)) old new result
both_told First Second one two =
    did_then one two (λ rows between after b first second. (second.0 ∙ first.0, (first.1, subst (λ (d : DeskRows). Second d b) first.0 second.1)))

-- one change, and then another
pub changed_then : {S A B : Type 0} {store : Ghosts S} {first second : DeskRows → DeskRows}
    {old mid new : Work S} {a : A} {result : Result B StoreFault}
    → Does store (ChangesRows first) old mid (Ok a)
    → Does store (ChangesRows second) mid new result
    → Does store (ChangesRows (λ rows. second (first rows))) old new result
changed_then {S} {A} {B} {store} {first} {second} one two =
    did_then one two (λ rows between after b was now. now ∙ ap second was)

-- both were done
pub did_both : {S A B : Type 0} {store : Ghosts S} {First : DeskRows → A → DeskRows → Type 0}
    {Second : DeskRows → B → DeskRows → Type 0} {old mid new : Work S} {a : A}
    {result : Result B StoreFault} → Does store First old mid (Ok a)
    → Does store Second mid new result → Does store (λ rows b after. Unit {0}) old new result
did_both first second = did_then first second (λ rows between after b one two. tt)

-- ---- a fault

-- what was done is followed by a fault without a further call
pub did_stop : {S A B : Type 0} {store : Ghosts S} {First : DeskRows → A → DeskRows → Type 0}
    {Post : DeskRows → B → DeskRows → Type 0} {old new : Work S} {was : Result A StoreFault}
    {result : Result B StoreFault} {e : StoreFault} → result ≡ Err e
    → Does store First old new was → Does store Post old new result
did_stop {S} {A} {B} {store} {First} {Post} {old} {new} {was} {result} {e} is first =
    subst (λ (r : Result B StoreFault). Does store Post old new r) (sym is)
    (does first.same_reference (achieves_stopped First Post (seen store old) (seen store new) was e first.achieves))

-- the fault of a call after what was done is handed on
pub did_fail : {S A B C : Type 0} {store : Ghosts S} {First : DeskRows → A → DeskRows → Type 0}
    {Second : DeskRows → B → DeskRows → Type 0} {Post : DeskRows → C → DeskRows → Type 0}
    {old mid new : Work S} {a : A} {result : Result C StoreFault} {e : StoreFault} → result ≡ Err e
    → Does store First old mid (Ok a) → Does store Second mid new (Err e)
    → Does store Post old new result
did_fail is first second = did_stop is (did_both first second)
