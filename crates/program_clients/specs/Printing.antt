-- Texts that are written, whole or in part.
use Rattle.std.specs.Prelude.{◌≡◌, ◌⊎◌, ℕ, List, Result, Ok, Err}
use Rattle.desk_http.specs.Writing.{WritesFront}

-- the text was written, or, with a fault, a first part of it
abbrev pub WritesWhole : {T F : Type 0} → (List ℕ → Type 0) → List ℕ → Result T F → Type 0
WritesWhole written text (Ok done) = written text
WritesWhole written text (Err f) = WritesFront written text

-- how a command ends that writes one text: it was written, with its own status; or a first part of
-- it, with 3. Written: these bytes were written
abbrev pub PrintEnds : ℕ → (List ℕ → Type 0) → List ℕ → ℕ → Type 0
PrintEnds own written text status =
    ((status ≡ own) × written text) ⊎ ((status ≡ 3) × WritesFront written text)
