-- What a write that fails leaves of a text.
use Rattle.std.specs.Prelude.{◌≡◌, ℕ, List, ◌++◌}

-- a part of the text, from its first byte on, was written. Written: that text was
abbrev pub WritesFront : (List ℕ → Type 0) → List ℕ → Type 0
WritesFront written text = (part rest : List ℕ) × (part ++ rest ≡ text) × written part
