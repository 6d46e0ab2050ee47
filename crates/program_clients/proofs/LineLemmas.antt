-- Texts that are written behind one another, of which the last may be cut.
use Rattle.std.proofs.Common.{◌++◌, ◌∙◌, ℕ, List, Option, Result, append_assoc, ap, sym, Ok, Err}
use Rattle.std.specs.Prelude.{OnErr, OnOk}
use Rattle.std.specs.Io.KnownBytes.{Appends}
use Rattle.std.proofs.KnownBytes.{Appends-trans}
use Rattle.desk_http.specs.Writing.{WritesFront}
use Rattle.program_clients.specs.Printing.{WritesWhole}

-- a first part of a text is one of more
pub front_begins : (written : List ℕ → Type 0) (a b : List ℕ) → WritesFront written a → WritesFront written (a ++ b)
front_begins written a b (part, rest, is, wrote) = (part, rest ++ b, sym (append_assoc part rest b) ∙ ap (λ t. t ++ b) is, wrote)

module _ (was before holds : Option (List ℕ)) where
  -- so it is behind a text that was written
  pub front_behind : (a b : List ℕ) → Appends was before a → WritesFront (Appends before holds) b → WritesFront (Appends was holds) (a ++ b)
  front_behind a b first (part, rest, is, wrote) =
      (a ++ part, rest, append_assoc a part rest ∙ ap (λ t. a ++ t) is, Appends-trans was before holds _ _ first wrote)

-- what was written whole or in part is so behind a text
pub all_behind : {T F : Type 0} (was before holds : Option (List ℕ)) (a b : List ℕ) (result : Result T F) → Appends was before a → WritesWhole (Appends before holds) b result → WritesWhole (Appends was holds) (a ++ b) result
all_behind was before holds a b (Ok x) first whole = Appends-trans was before holds a b first whole
all_behind was before holds a b (Err f) first front = front_behind was before holds a b first front

pub whole_behind : {T F : Type 0} (was before holds : Option (List ℕ)) (a b : List ℕ) (result : Result T F) → Appends was before a → OnOk result (Appends before holds b) → OnErr result (WritesFront (Appends before holds) b)
    → WritesWhole (Appends was holds) (a ++ b) result
whole_behind was before holds a b (Ok x) first ok err = Appends-trans was before holds a b first ok
whole_behind was before holds a b (Err f) first ok err = front_behind was before holds a b first err
