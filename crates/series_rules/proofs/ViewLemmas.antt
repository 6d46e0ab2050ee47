-- What follows of a call, from what is said of its kind.
use Rattle.std.proofs.Common.{◌≡◌, Bool, true, false, List, ◌∷◌, ◌⊎◌, inl, inr, Result, Ok, Err, refl}
use Rattle.std.specs.Prelude.{OnOk}
use Rattle.onix_records.specs.declared.faults.StoreFault.{StoreFault}
use Rattle.series_rules.specs.Changes.{changes, is_question}
use Rattle.series_rules.specs.Views.{Asks, AsksOnly, DeskKind, LeavesOnly, View}
use Rattle.series_rules.specs.declared.requests.Request.{Request}
use Rattle.series_rules.proofs.Questions.{question_changes_nothing, question_left, unchanged}

-- a question that was answered is a request that was
pub asks_of : {A : Type 0} {k : DeskKind} (r : Request) (answer : List Request → A) (old new : View k) (result : Result A StoreFault) → is_question r ≡ true → AsksOnly answer old new result → Asks r answer old new result
asks_of r answer old new (Ok a) is told = record {
  premise = told.premise;
  ok = λ L stands sound. (told.ok L stands sound, new.by_content L (r ∷ L) (question_left L r is) (told.left L stands sound));
  err = λ L stands sound. tt;
  crash = λ L stands sound x may. inl ((told.stays sound x).1 may);
  changed = λ L stands sound did. let kept = question_changes_nothing L r is in absurd cc;
  question = λ asks. told.stays;
  undone = λ sound. tt;
  fault = tt;
}
asks_of r answer old new (Err f) is told = record {
  premise = told.premise;
  ok = λ L stands sound. tt;
  err = λ L stands sound. told.left L stands sound;
  crash = λ L stands sound x may. inl ((told.stays sound x).1 may);
  changed = λ L stands sound did. tt;
  question = λ asks. told.stays;
  undone = λ sound x held. (told.stays sound x).0 held;
  fault = told.fault;
}

-- what is made of an answer is the answer that is made of it after each list
pub only_made : {A B : Type 0} {k : DeskKind} (answer : List Request → A) (made : List Request → B) (old new : View k) (a : A) (b : B) → ((L : List Request) → a ≡ answer L → b ≡ made L) → AsksOnly answer old new (Ok a) → AsksOnly made old new (Ok b)
only_made answer made old new a b is told = record {
  premise = told.premise;
  ok = λ L stands sound. is L (told.ok L stands sound);
  left = told.left;
  stays = told.stays;
  fault = tt;
}

-- nothing was asked of the desk
pub only_unasked : {A : Type 0} {k : DeskKind} (answer : List Request → A) (desk : View k) (a : A) → ((L : List Request) → a ≡ answer L) → AsksOnly answer desk desk (Ok a)
only_unasked answer desk a is = record {
  premise = λ sound. sound;
  ok = λ L stands sound. is L;
  left = λ L stands sound. stands;
  stays = λ sound x. (λ held. held, λ may. may);
  fault = tt;
}

-- once a request is answered, a crash leaves the list with it alone, where only the list was left before
pub alone : {A : Type 0} {k : DeskKind} (r : Request) (answer : List Request → A) (old new : View k) (result : Result A StoreFault) → Asks r answer old new result
    → (L : List Request) → old.stands_for L → new.sound → LeavesOnly old L → OnOk result (LeavesOnly new (r ∷ L))
alone {k = k} r answer old new (Err f) asked L stands sound only = tt
alone {k = k} r answer old new (Ok a) asked L stands sound only = by_change (changes L r) refl
  where
    from : (x : k.Left) → changes L r ≡ false → old.may_leave x ⊎ ((is_question r ≡ false) × k.comes_to x (r ∷ L)) → k.comes_to x (r ∷ L)
    from x same (inl before) = k.by_content x L (r ∷ L) (unchanged L r same) (only x before)
    from x same (inr with_it) = with_it.1

    by_change : (b : Bool) → changes L r ≡ b → LeavesOnly new (r ∷ L)
    by_change true did = asked.changed L stands sound did
    by_change false same = λ x may. from x same (asked.crash L stands sound x may)

-- whatever it ended in, a crash leaves the list or the list with it, where only the list was left before
pub either : {A : Type 0} {k : DeskKind} (r : Request) (answer : List Request → A) (old new : View k) (result : Result A StoreFault) → Asks r answer old new result
    → (L : List Request) → old.stands_for L → new.sound → LeavesOnly old L → (x : k.Left) → new.may_leave x → k.comes_to x L ⊎ k.comes_to x (r ∷ L)
either {k = k} r answer old new result asked L stands sound only = λ x may. go x (asked.crash L stands sound x may)
  where
    go : (x : k.Left) → old.may_leave x ⊎ ((is_question r ≡ false) × k.comes_to x (r ∷ L)) → k.comes_to x L ⊎ k.comes_to x (r ∷ L)
    go x (inl before) = inl (only x before)
    go x (inr with_it) = inr with_it.1
