-- Message numbers.
use Rattle.std.specs.Prelude.{ℕ, List, Option}
use Rattle.onix_terms.specs.Positive.{positive_from, positive_of}

-- a message number is one from 1 to 999,999,999
abbrev pub number_from : ℕ → Option ℕ
number_from n = positive_from 1_000_000_000 n

-- the message number that 1 to 9 digits write
abbrev pub number_of : List ℕ → Option ℕ
number_of text = positive_of 9 1_000_000_000 text
