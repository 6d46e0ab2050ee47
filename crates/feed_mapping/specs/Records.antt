-- What the desk reads of the texts of an element, as the fields of a record.
use Rattle.std.specs.Prelude.{ℕ, Bool, ◌&&◌, List, [], ◌∷◌, Option, Some, None, if◌then◌else◌}
use Rattle.std.specs.Prelude.{is_some}
use Rattle.std.specs.List.{list_all}
use Rattle.std.specs.Option.{option_or, unwrap_or}
use Rattle.std.specs.Str.{is_utf8}
use Rattle.feed_xml.specs.Grammar.{is_filled}
use Rattle.onix_records.specs.Fields.{is_clean}
use Rattle.feed_mapping.specs.Notes.{Reason, Reasons, wrong}
use Rattle.feed_mapping.specs.declared.notes.Wrong.{Wrong}

-- the fields of a record
abbrev pub Fields : Type 0
Fields = List (List ℕ)

-- several records, each by its fields
abbrev pub Records : Type 0
Records = List Fields

module _ {A : Type 0} (read : Fields → Option A) where
  -- what is read of the fields of a record; nothing, where one of them is too long or has a control
  -- character
  abbrev pub clean : Fields → Option A
  clean fields = if list_all is_clean fields then read fields else None

  -- what is read of texts as the fields of a record; nothing, where one of them is no UTF-8 either
  abbrev pub parsed : Fields → Option A
  parsed texts = if list_all is_utf8 texts then clean texts else None

-- the value of a text, where it has one
abbrev pub parsed_term : {A : Type 0} → (List ℕ → Option A) → List ℕ → Option A
parsed_term term text = if is_utf8 text then term text else None

-- a text that the desk takes as a field that may not be empty
abbrev pub is_field : List ℕ → Bool
is_field text = is_filled text && (is_utf8 text && is_clean text)

-- ---- reasons

-- a reason where something does not hold
abbrev pub unless : Bool → Wrong → List ℕ → Option Reason
unless holds kind text = if holds then None else Some (wrong kind text)

-- a reason where a text is not read so
abbrev pub invalid : {A : Type 0} → (List ℕ → Option A) → Wrong → List ℕ → Option Reason
invalid read kind text = unless (is_some (read text)) kind text

-- the first of some reasons that holds, or of some values that is there
abbrev pub first_some : {A : Type 0} → List (Option A) → Option A
first_some [] = None
first_some (x ∷ xs) = option_or x (first_some xs)

-- why the desk does not take something, where it does not: for the first of these reasons, else for
-- another
abbrev pub desk_reason : Bool → Reasons → Wrong → Option Reason
desk_reason taken reasons kind =
    if taken then None else Some (unwrap_or (first_some reasons) (wrong kind []))

-- ---- values that may not be there

-- a value, where that holds of it
abbrev pub option_filter : {A : Type 0} → (A → Bool) → Option A → Option A
option_filter holds None = None
option_filter holds (Some x) = if holds x then Some x else None

-- something, where a list is empty
abbrev pub if_empty : {A B : Type 0} → List A → Option B → Option B
if_empty [] x = x
if_empty (a ∷ more) x = None
