-- What a fault of a file says.
use Rattle.std.specs.Prelude.{◌≡◌, ℕ, List, ⊤}
use Rattle.std.specs.Prelude.{string_bytes}
use Rattle.program_files.specs.declared.fault.FileFault.{FileFault}
use Rattle.program_files.specs.declared.fault.FileFault.TheVariants as fault

-- a fault is that of the file of this name, by these words, or memory ran out
abbrev pub Says : List ℕ → List ℕ → FileFault → Type 0
Says name words (fault.File n w) = (string_bytes n ≡ name) × (string_bytes w ≡ words)
Says name words fault.Memory = ⊤
