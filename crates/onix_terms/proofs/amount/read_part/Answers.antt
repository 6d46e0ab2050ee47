use Rattle.std.proofs.Common.{◌≡◌, ◌≤◌, ◌*◌, ℕ, List, Some, length, refl, lit≤}
use Rattle.std.proofs.lemmas.Bool.{le-leb}
use Rattle.onix_terms.specs.Digits.{digits_of}
use Rattle.onix_terms.specs.Amount.{last_digit_worth, thousandths_of}
use Rattle.onix_terms.proofs.amount.read_part.Goals as goal
use Rattle.onix_terms.proofs.amount.read_part.Goals.{in-1, in-2, in-3}

-- digits of so many places
places : (text : List ℕ) (n worth size : ℕ) → length text ≡ size → size ≤ 3 → Some n ≡ digits_of text → worth ≡ last_digit_worth size → Some (n * worth) ≡ thousandths_of text
places text n worth size long few read is = rw (← read, long, le-leb size 3 few, is) refl

pub returns-clause-value : goal.returns-clause-value
returns-clause-value c =
    let text = c.args.text.now in
    let n = c.in_ok-read_digits.field-0 in
    let read = c.in_ok-read_digits.ensures.value in
    let worth = c.match-text.last_digit_worth in
    rw c.from.ensures
    (elim c.match-text.branch [
      | in-1 w ↦ places text n worth 1 w.in-1.is (lit≤ tt) read w.last_digit_worth-is
      | in-2 w ↦ places text n worth 2 w.in-2.is (lit≤ tt) read w.last_digit_worth-is
      | in-3 w ↦ places text n worth 3 w.in-3.is (lit≤ tt) read w.last_digit_worth-is
    ])
