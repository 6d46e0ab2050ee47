-- What is seen of a desk, and what each kind of call does to that.
use Rattle.std.specs.Prelude.{◌≡◌, ◌⊎◌, true, false, List, ◌∷◌, Result, IfErr, IfOk, OnErr, OnOk}
use Rattle.onix_records.specs.declared.faults.StoreFault.{StoreFault}
use Rattle.onix_records.specs.declared.faults.StoreFault.TheVariants as fault
use Rattle.series_rules.specs.Changes.{changes, is_question}
use Rattle.series_rules.specs.Content.{SameContent}
use Rattle.series_rules.specs.declared.requests.Request.{Request}

-- a kind of desk: what a crash may leave of one, and which faults its store gives
pub record DeskKind : Type 1 where
  -- a thing that a crash may leave, such as the trees of a database
  pub Left : Type 0
  -- the thing is what those requests come to
  pub comes_to : Left → List Request → Type 0
  -- it is so of each list that comes to the same
  pub by_content : (x : Left) (L M : List Request) → SameContent L M → comes_to x L → comes_to x M
  -- the faults that its calls may give beside Memory
  pub may_give : StoreFault → Type 0

-- what is seen of a desk at one moment
pub record View (k : DeskKind) : Type 1 where
  -- the premise on its store
  pub sound : Type 0
  -- what it keeps is what those requests come to
  pub stands_for : List Request → Type 0
  -- it is so of each list that comes to the same
  pub by_content : (L M : List Request) → SameContent L M → stands_for L → stands_for M
  -- it keeps that thing, of a list or not
  pub holds : k.Left → Type 0
  -- a crash may now leave that thing
  pub may_leave : k.Left → Type 0

-- a crash leaves what L comes to and nothing else
abbrev pub LeavesOnly : {k : DeskKind} → View k → List Request → Type 0
LeavesOnly {k} desk L = (x : k.Left) → desk.may_leave x → k.comes_to x L

-- nothing changed, whatever it holds: what it held it holds, and a crash leaves nothing more
abbrev pub Stays : {k : DeskKind} → View k → View k → Type 0
Stays {k} old new = (x : k.Left) → (old.holds x → new.holds x) × (new.may_leave x → old.may_leave x)

-- the fault is Memory or one that the desk may give
abbrev pub IsFaultOf : DeskKind → StoreFault → Type 0
IsFaultOf k f = (f ≡ fault.Memory) ⊎ k.may_give f

-- A desk was asked the request r, with that answer after each list. With `Ok` it stands for the
-- list with r, and after a fault for what it did.
pub record Asks {A : Type 0} {k : DeskKind} (r : Request) (answer : List Request → A)
    (old new : View k)
    (result : Result A StoreFault) : Type 0 where
  pub premise : new.sound → old.sound
  pub ok : (L : List Request) → old.stands_for L → new.sound
      → IfOk result (λ a. (a ≡ answer L) × new.stands_for (r ∷ L))
  pub err : (L : List Request) → old.stands_for L → new.sound → OnErr result (new.stands_for L)
  -- a crash leaves what it could leave before, or the list with a request that is no question
  pub crash : (L : List Request) → old.stands_for L → new.sound → (x : k.Left) → new.may_leave x
      → old.may_leave x ⊎ ((is_question r ≡ false) × k.comes_to x (r ∷ L))
  -- once it is answered and changed something, the list with the request alone
  pub changed : (L : List Request) → old.stands_for L → new.sound → changes L r ≡ true
      → OnOk result (LeavesOnly new (r ∷ L))
  -- a question changes nothing
  pub question : is_question r ≡ true → new.sound → Stays old new
  -- after a fault it holds what it did, of a list or not
  pub undone : new.sound → OnErr result ((x : k.Left) → old.holds x → new.holds x)
  pub fault : IfErr result (IsFaultOf k)

-- A desk was asked a question, with that answer after each list. It stands for what it did, and
-- nothing changed
pub record AsksOnly {A : Type 0} {k : DeskKind} (answer : List Request → A) (old new : View k)
    (result : Result A StoreFault) : Type 0 where
  pub premise : new.sound → old.sound
  pub ok : (L : List Request) → old.stands_for L → new.sound → IfOk result (λ a. a ≡ answer L)
  pub left : (L : List Request) → old.stands_for L → new.sound → new.stands_for L
  pub stays : new.sound → Stays old new
  pub fault : IfErr result (IsFaultOf k)
