use Rattle.onix_terms.proofs.Ranges.{positive-range, amount-range, day-range}
use Rattle.onix_terms.proofs.laws.terms_are_in_range.Goals as goal

pub returns : goal.returns
returns c = record {
  number = positive-range 9 1_000_000_000;
  quantity = positive-range 6 1_000_000;
  amount = amount-range;
  day = day-range;
}
