-- Texts whose bytes all pass a test that only ASCII bytes pass.
use Rattle.std.proofs.Common.{◌≡◌, ℕ, ◌<◌, List, [], ◌∷◌, Bool, true, Some, length, arith}
use Rattle.std.specs.Prelude.{◌&&◌, ◌==◌}
use Rattle.std.specs.List.{list_all}
use Rattle.std.specs.Str.{IsAscii}
use Rattle.std.specs.Char.{is_ascii_uppercase}
use Rattle.std.proofs.lemmas.Str.Ascii.{IsAscii-nil, IsAscii-cons}
use Rattle.std.proofs.lemmas.Bool.{and_parts}
use Rattle.std.proofs.lemmas.Bool.Decides.{nat_tests}
use Rattle.std.proofs.lemmas.Option.{cond_some}
use Rattle.onix_terms.specs.Code.{fixed_text}
use Rattle.onix_terms.specs.SeriesName.{is_name_byte}

-- only ASCII bytes pass
pub record IsAsciiTest (allowed : ℕ → Bool) : Type 0 where
  pub below : (b : ℕ) → allowed b ≡ true → b < 128

pub capitals-ascii : IsAsciiTest is_ascii_uppercase
capitals-ascii = record { below = λ b e. grind (arith, nat_tests, e) }

pub names-ascii : IsAsciiTest is_name_byte
names-ascii = record { below = λ b e. grind (arith, nat_tests, e) }

pub ascii-all : (allowed : ℕ → Bool) → IsAsciiTest allowed → (bs : List ℕ) → list_all allowed bs ≡ true → IsAscii bs
ascii-all allowed test [] all = IsAscii-nil
ascii-all allowed test (b ∷ bs) all =
    let parts = and_parts (allowed b) (list_all allowed bs) all in
    IsAscii-cons b bs (test.below b parts.0) (ascii-all allowed test bs parts.1)

pub ascii-fixed : (allowed : ℕ → Bool) → IsAsciiTest allowed → (size : ℕ) (bs : List ℕ) → fixed_text allowed size bs ≡ Some bs → IsAscii bs
ascii-fixed allowed test size bs read =
    let both = (cond_some ((length bs == size) && list_all allowed bs) bs bs read).0 in
    ascii-all allowed test bs (and_parts (length bs == size) (list_all allowed bs) both).1
