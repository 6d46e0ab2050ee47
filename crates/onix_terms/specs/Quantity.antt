-- Quantities of copies.
use Rattle.std.specs.Prelude.{ℕ, List, Option}
use Rattle.onix_terms.specs.Positive.{positive_from, positive_of}

-- a quantity is one from 1 to 999,999
abbrev pub quantity_from : ℕ → Option ℕ
quantity_from n = positive_from 1_000_000 n

-- the quantity that 1 to 6 digits write
abbrev pub quantity_of : List ℕ → Option ℕ
quantity_of text = positive_of 6 1_000_000 text
