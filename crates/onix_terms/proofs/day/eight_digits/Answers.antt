use Rattle.std.proofs.Common.{refl}
use Rattle.onix_terms.proofs.day.eight_digits.Goals as goal

pub returns : goal.returns
returns c = rw (c.two_digits.ensures, c.two_digits-2.ensures, c.two_digits-3.ensures, c.two_digits-4.ensures, c.from-n.ensures) refl
