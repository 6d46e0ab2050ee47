-- Digits are text.
use Rattle.std.proofs.Common.{◌≡◌, ℕ, List, Bool, true, false, cond, Some, None, IsUtf8, arith, refl}
use Rattle.std.specs.Prelude.{◌&&◌, nat_le, nat_lt, length}
use Rattle.std.specs.Char.{is_ascii_digit}
use Rattle.std.specs.List.{list_all}
use Rattle.std.specs.Str.Parse.{digits_value}
use Rattle.std.proofs.lemmas.Str.{IsUtf8-from_ascii}
use Rattle.std.proofs.lemmas.Bool.Decides.{nat_tests}
use Rattle.onix_terms.specs.Digits.{digits_of}
use Rattle.onix_terms.proofs.AsciiTexts.{IsAsciiTest, ascii-all}

digits-ascii : IsAsciiTest is_ascii_digit
digits-ascii = record { below = λ b e. grind (arith, nat_tests, e) }

pub digits-utf8 : (text : List ℕ) → list_all is_ascii_digit text ≡ true → IsUtf8 text
digits-utf8 text all = IsUtf8-from_ascii text (ascii-all is_ascii_digit digits-ascii text all)

-- what is no text has no digits alone
pub no_digits : (text : List ℕ) → (IsUtf8 text → ⊥) → digits_of text ≡ None
no_digits text bad = go (list_all is_ascii_digit text) refl
  where
    go : (b : Bool) → list_all is_ascii_digit text ≡ b → cond (nat_lt 0 (length text) && nat_le (length text) 9 && b) (Some (digits_value 10 text)) None ≡ None
    go true all = absurd (bad (digits-utf8 text all))
    go false all = refuse (nat_lt 0 (length text) && nat_le (length text) 9)
      where
        refuse : (a : Bool) → cond (a && false) (Some (digits_value 10 text)) None ≡ None
        refuse true = refl
        refuse false = refl
